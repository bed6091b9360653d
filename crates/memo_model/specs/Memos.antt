-- What contracts see of a memo's passes and probes, and what the steps of a probe tell.
use Rattle.std.specs.Prelude.{◌≡◌, ℕ, ◌+◌, ℤ, ◌⊎◌, Bool, Option, Some, MatchOption, List}
use Rattle.adp_model.specs.declared.cell.Answer.TheVariants.{NoCandidate}
use Rattle.adp_model.specs.declared.cell.Cell.{Cell}
use Rattle.memo_model.specs.declared.probe.Stage.{Stage}
use Rattle.memo_model.specs.declared.probe.Stage.TheVariants.{Open, Unpublished as Unset, Publishing, Done}
use Rattle.memo_model.specs.declared.probe.Look.{Look}
use Rattle.memo_model.specs.declared.probe.Look.TheVariants as looks
use Rattle.memo_model.specs.declared.probe.Publish.{Publish}
use Rattle.memo_model.specs.declared.probe.Publish.TheVariants as publishes
use Rattle.adp_model.specs.PosedProblem.{PosedProblem}
use Rattle.adp_model.specs.Answers.{IsAnswer}
use Rattle.adp_model.specs.Bellman.{HasBestScore}
use Rattle.history_table.specs.declared.history.Deed.{Deed}
use Rattle.history_table.specs.declared.history.Deed.TheVariants.{Load, Exchange}
use Rattle.history_table.specs.declared.history.Event.{Event}
use Rattle.history_table.specs.History.{event}

-- the meaning of a pass and of a probe
pub record Meaning (Pass Probe : Type 0) : Type 1 where
  -- the cells that a pass knows; of each it is settled whether the pass knows it
  pub known : Pass → Cell → Type 0
  pub known_or_not : (pass : Pass) (cell : Cell) → known pass cell ⊎ (known pass cell → ⊥)
  -- how many of the published answers the pass put itself
  pub wins : Pass → ℕ
  -- numbers of a pass that no step changes
  pub share : Pass → List ℕ
  -- the pass's last step: the word that it was on, what it did with it, and the value that stood there
  pub last : Pass → Option Event
  -- as far as the pass has found, this word is the record word of the cell
  pub record_word : Pass → Cell → ℕ → Type 0
  -- a probe's cell, and how far it has come
  pub cell : Probe → Cell
  pub stage : Probe → Stage
  -- the passes that the probe may be stepped with
  pub follows : Probe → Pass → Type 0
  -- whether the probe's next look step loads the record word of its cell
  pub loads : Probe → Bool
  -- how many steps the probe has left at most, where the number is that of the demanded cells
  pub remaining : ℕ → Probe → ℕ

-- the pass's last step was this deed on the record word of the cell, and found this value there
abbrev pub IsOnRecordWord : {Pass Probe : Type 0} → Meaning Pass Probe → Pass → Cell → Deed → ℕ → Type 0
IsOnRecordWord meaning pass cell deed found =
    (word : ℕ) × meaning.record_word pass cell word × (meaning.last pass ≡ Some (event word deed found))

-- the pass's last step loaded the record word of the cell and found this value there
abbrev pub HasLoaded : {Pass Probe : Type 0} → Meaning Pass Probe → Pass → Cell → ℕ → Type 0
HasLoaded meaning pass cell found = IsOnRecordWord meaning pass cell Load found

-- the pass's last step exchanged the record word of the cell from 0, and found this value there: 0 where the exchange
-- was made
abbrev pub HasExchanged : {Pass Probe : Type 0} → Meaning Pass Probe → Pass → Cell → ℕ → Type 0
HasExchanged meaning pass cell found = (name : ℕ) × IsOnRecordWord meaning pass cell (Exchange 0 name) found

-- the score of the cell's answer, or that it has no candidate
abbrev pub IsScoreOf : PosedProblem → Cell → Option ℤ → Type 0
IsScoreOf p cell score = MatchOption score (IsAnswer p cell NoCandidate) (HasBestScore p cell)

-- every cell that was known is known
abbrev pub StayKnown : (Cell → Type 0) → (Cell → Type 0) → Type 0
StayKnown before after = (cell : Cell) → before cell → after cell

-- no cell was added
abbrev pub AddsNothing : (Cell → Type 0) → (Cell → Type 0) → Type 0
AddsNothing before after = (cell : Cell) → after cell → before cell

-- no cell but this one was added
abbrev pub AddsAtMost : Cell → (Cell → Type 0) → (Cell → Type 0) → Type 0
AddsAtMost cell before after = (other : Cell) → after other → (other ≡ cell → ⊥) → before other

-- the cell is known now, and no other was added
pub record IsAdded (cell : Cell) (before after : Cell → Type 0) : Type 0 where
  pub known : after cell
  pub only : AddsAtMost cell before after

-- what a look step tells: how far the probe has come, and what was known before and is known after it
abbrev pub IsLook : PosedProblem → Cell → (Cell → Type 0) → (Cell → Type 0) → Stage → Look → Type 0
IsLook p cell before after stage looks.Going = (stage ≡ Open) × AddsAtMost cell before after
IsLook p cell before after stage looks.Unpublished =
    (stage ≡ Unset) × AddsNothing before after × (before cell → ⊥)
IsLook p cell before after stage (looks.Found score) =
    (stage ≡ Done) × IsAdded cell before after × IsScoreOf p cell score

-- what a publication step tells: the same, and the wins before and after it
abbrev pub IsPublish : Cell → (Cell → Type 0) → (Cell → Type 0) → ℕ → ℕ → Stage → Publish → Type 0
IsPublish cell before after won wins stage publishes.Going =
    (stage ≡ Publishing) × AddsNothing before after × (wins ≡ won)
IsPublish cell before after won wins stage publishes.Won =
    (stage ≡ Done) × IsAdded cell before after × (wins ≡ won + 1)
IsPublish cell before after won wins stage publishes.Lost =
    (stage ≡ Done) × IsAdded cell before after × (wins ≡ won)
