-- What is so of a probe and of a pass that it follows.
use Rattle.std.specs.Prelude.{◌≡◌, ◌≢◌, ℕ, ◌+◌, ◌-◌, ◌*◌, ◌<◌, Bool, true, false, Contains, Some}
use Rattle.adp_model.specs.declared.cell.Answer.{Answer}
use Rattle.adp_model.specs.declared.cell.Answer.TheVariants.{NoCandidate}
use Rattle.adp_model.specs.declared.cell.Cell.{Cell}
use Rattle.memo_model.specs.declared.probe.Stage.{Stage}
use Rattle.memo_model.specs.declared.probe.Stage.TheVariants as stages
use Rattle.adp_model.specs.Answers.{IsAnswer}
use Rattle.adp_model.specs.Demand.{IsDemanded}
use Rattle.memo_words.specs.declared.part.Part.{Part}
use Rattle.memo_words.specs.declared.part.Part.TheVariants as parts
use Rattle.memo_words.specs.declared.view.Owned.{Owned}
use Rattle.memo_words.specs.declared.view.View.{View}
use Rattle.memo_words.specs.Codes.{HasCellCode, cell_code}
use Rattle.memo_words.specs.CodedCells.{answer_word}
use Rattle.memo_words.specs.Layout.{Plan, probed}
use Rattle.memo_words.specs.Views.{seen_at, owns, stored}
use Rattle.memo_words.specs.Passes.{view_of, hand_of, plan_of, problem_of, IsPassOf}
use Rattle.memo_words.specs.declared.pass.Pass.{Pass}
use Rattle.memo_table.specs.declared.probe.Next.{Next}
use Rattle.memo_table.specs.declared.probe.Next.TheVariants.{Key, Claim, RecordWord, Choice, Score, Reserve, StoreScore, StoreChoice, Publish, Done}
use Rattle.memo_table.specs.declared.probe.Probe.{Probe}

abbrev pub stage_of : Next → Stage
stage_of Key = stages.Open
stage_of Claim = stages.Open
stage_of RecordWord = stages.Open
stage_of (Choice number) = stages.Open
stage_of (Score number) = stages.Open
stage_of Reserve = stages.Unpublished
stage_of StoreScore = stages.Publishing
stage_of StoreChoice = stages.Publishing
stage_of Publish = stages.Publishing
stage_of Done = stages.Done

abbrev pub loads_record : Next → Bool
loads_record RecordWord = true
loads_record other = false

-- the steps that are left at most, where m cells are demanded: two for each position that holds another cell, two that
-- find or put the key, one on the record word, and then two that read the answer or four that publish one
abbrev pub steps_left : ℕ → ℕ → Next → ℕ
steps_left m turn Key = 2 * (m - turn) + 5
steps_left m turn Claim = 2 * (m - turn) + 4
steps_left m turn RecordWord = 5
steps_left m turn (Choice number) = 2
steps_left m turn (Score number) = 1
steps_left m turn Reserve = 4
steps_left m turn StoreScore = 3
steps_left m turn StoreChoice = 2
steps_left m turn Publish = 1
steps_left m turn Done = 0

-- other cells' codes were seen at all positions before this turn
abbrev pub AreOthers : Plan → View → Cell → ℕ → Type 0
AreOthers plan v cell turn =
    (j : ℕ) → j < turn → (0 < seen_at v.keys (probed plan (cell_code cell) j))
    × (seen_at v.keys (probed plan (cell_code cell) j) ≢ cell_code cell)

-- the cell's code was seen at the position of this turn
abbrev pub Stands : Plan → View → Cell → ℕ → Type 0
Stands plan v cell turn = seen_at v.keys (probed plan (cell_code cell) turn) ≡ cell_code cell

-- besides, its record word was seen to name this record, and so the cell is known
pub record IsSeenNamed (plan : Plan) (v : View) (cell : Cell) (turn number : ℕ) : Type 0 where
  pub stands : Stands plan v cell turn
  pub named : seen_at v.names (probed plan (cell_code cell) turn) ≡ number + 1
  pub known : Contains v.known cell

-- the pass has this record in hand and owns it
pub record IsHand (pass : Pass) (number : ℕ) : Type 0 where
  pub hand : hand_of pass ≡ Some number
  pub owned : 0 < owns number (view_of pass).owned

-- it has some record in hand
abbrev pub IsInHand : Pass → Type 0
IsInHand pass = (number : ℕ) × IsHand pass number

-- words of the cell's answer are stored in the record in hand: those of which it holds
pub record IsFilled (plan : Plan) (pass : Pass) (cell : Cell) (Filled : Part → Type 0) : Type 0 where
  pub number : ℕ
  pub hand : IsHand pass number
  pub answer : Answer
  pub is_answer : IsAnswer plan.problem cell answer
  pub owned : Owned
  pub mine : Contains (view_of pass).owned owned
  pub number_is : owned.number ≡ number
  pub words : (part : Part) → Filled part → stored part owned ≡ answer_word part answer

abbrev pub IsScorePart : Part → Type 0
IsScorePart parts.Score = Unit {0}
IsScorePart parts.Choice = ⊥

-- what the pass found and did before the next step
abbrev pub IsDue : Plan → Pass → Cell → ℕ → Next → Type 0
IsDue plan pass cell turn Key = AreOthers plan (view_of pass) cell turn
IsDue plan pass cell turn Claim = AreOthers plan (view_of pass) cell turn
IsDue plan pass cell turn RecordWord = Stands plan (view_of pass) cell turn
IsDue plan pass cell turn (Choice number) = IsSeenNamed plan (view_of pass) cell turn number
IsDue plan pass cell turn (Score number) =
    IsSeenNamed plan (view_of pass) cell turn number × (IsAnswer plan.problem cell NoCandidate → ⊥)
IsDue plan pass cell turn Reserve = Stands plan (view_of pass) cell turn
IsDue plan pass cell turn StoreScore = Stands plan (view_of pass) cell turn × IsInHand pass
IsDue plan pass cell turn StoreChoice =
    Stands plan (view_of pass) cell turn × IsFilled plan pass cell IsScorePart
IsDue plan pass cell turn Publish =
    Stands plan (view_of pass) cell turn × IsFilled plan pass cell (λ part. Unit {0})
IsDue plan pass cell turn Done = Unit {0}

-- the probe may be stepped with the pass
pub record Follows (probe : Probe) (pass : Pass) : Type 0 where
  pub own : IsPassOf probe.words.value pass
  pub demanded : IsDemanded (problem_of probe.words.value) probe.cell
  pub coded : HasCellCode probe.cell
  pub due : IsDue (plan_of probe.words.value) pass probe.cell probe.turn probe.next
