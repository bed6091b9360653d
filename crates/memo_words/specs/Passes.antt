-- What clauses say of words, of passes and of the rest.
use Rattle.std.specs.Prelude.{◌≡◌, ◌≢◌, ℕ, ◌+◌, ◌*◌, ◌<◌, ◌==◌, nat_lt, Bool, ◌&&◌, if◌then◌else◌, List, sum_by, Option, Some, Contains}
use Rattle.std.specs.Mem.Slots.{slots_items}
use Rattle.adp_model.specs.declared.cell.Answer.{Answer}
use Rattle.adp_model.specs.declared.cell.Cell.{Cell}
use Rattle.adp_model.specs.PosedProblem.{PosedProblem}
use Rattle.adp_model.specs.Answers.{IsAnswer}
use Rattle.adp_model.specs.Demand.{IsDemandedChild}
use Rattle.memo_words.specs.declared.part.Part.{Part}
use Rattle.memo_words.specs.declared.view.Seen.{Seen}
use Rattle.memo_words.specs.declared.view.Owned.{Owned}
use Rattle.memo_words.specs.declared.view.View.{View}
use Rattle.memo_words.specs.declared.pass.Pass.{Pass}
use Rattle.memo_words.specs.declared.words.Words.{Words}
use Rattle.memo_words.specs.declared.rest.Rest.{Rest}
use Rattle.memo_words.specs.declared.word_step.Action.{Action}
use Rattle.memo_words.specs.declared.word_step.Action.TheVariants as actions
use Rattle.memo_words.specs.declared.word_step.WordStep.{WordStep}
use Rattle.history_table.specs.declared.history.Deed.{Deed}
use Rattle.history_table.specs.declared.history.Deed.TheVariants as deeds
use Rattle.history_table.specs.declared.history.Event.{Event}
use Rattle.history_table.specs.declared.history.Mark.{Mark}
use Rattle.history_table.specs.History.{event, HasMarked}
use Rattle.memo_words.specs.Codes.{cell_code}
use Rattle.memo_words.specs.CodedCells.{IsCodeOf, answer_word}
use Rattle.memo_words.specs.Layout.{Plan, slots_of, probed}
use Rattle.memo_words.specs.Made.{word_of}
use Rattle.memo_words.specs.Views.{seen_at, stored}

abbrev pub view_of : Pass → View
view_of pass = pass.seat.me.0.view

-- the steps that the pass made, each with its place in the history of the words
abbrev pub marks_of : Pass → List Mark
marks_of pass = pass.seat.me.0.marks

-- the pass made one step more, on this word, which found this
abbrev pub HasStepped : ℕ → Deed → ℕ → Pass → Pass → Type 0
HasStepped word deed found before after = HasMarked word deed found before.seat.me.0 after.seat.me.0

-- the record in hand
abbrev pub hand_of : Pass → Option ℕ
hand_of pass = pass.hand

-- the last step
abbrev pub made_of : Pass → Option WordStep
made_of pass = pass.made

abbrev pub plan_of : Words → Plan
plan_of words = words.table.table.shared.key

abbrev pub problem_of : Words → PosedProblem
problem_of words = (plan_of words).problem

-- what the history says of a step that was told: what it did with its word
abbrev pub deed_of : Action → ℕ → Deed
deed_of actions.Load value = deeds.Load
deed_of (actions.Exchange code) value = deeds.Exchange 0 code
deed_of actions.Add value = deeds.Add 1
deed_of actions.Store value = deeds.Store value

-- and that it found the value told; of a store it isn't told what it found
abbrev pub HasFound : Action → ℕ → ℕ → Type 0
HasFound actions.Store value found = Unit {0}
HasFound action value found = found ≡ value

-- the word is the record word of a position
abbrev pub is_record_word : ℕ → ℕ → Bool
is_record_word slots word = nat_lt slots word && nat_lt word (1 + 2 * slots)

-- 1 for an exchange of a record word that found 0, which is a win, and else 0
abbrev pub won_with : ℕ → ℕ → ℕ → Deed → ℕ
won_with slots word found (deeds.Exchange old new) =
    if found == 0 then (if is_record_word slots word then 1 else 0) else 0
won_with slots word found other = 0

abbrev pub won_by : ℕ → Event → ℕ
won_by slots e = won_with slots e.word e.found e.deed

-- how many of these marks are wins
abbrev pub won_in : ℕ → List Mark → ℕ
won_in slots marks = sum_by (λ m. won_by slots m.event) marks

-- the pass made just one step more, and it tells that step: the history has it, on that word, with the number found
pub record HasTold (before after : Pass) : Type 0 where
  pub plan : Plan
  pub plan_is : (view_of after).plan ≡ Some plan
  pub step : WordStep
  pub made : made_of after ≡ Some step
  pub found : ℕ
  pub found_is : HasFound step.action step.value found
  pub stepped : HasStepped (word_of plan step.place) (deed_of step.action step.value) found before after
  pub won : (view_of after).wins ≡ (view_of before).wins
      + won_by (slots_of plan) (event (word_of plan step.place) (deed_of step.action step.value) found)

-- the pass is a live one of these words
pub record IsPassOf (words : Words) (pass : Pass) : Type 0 where
  pub same : pass.seat.table_id ≡ words.table.table.shared.table_id
  pub plan : (view_of pass).plan ≡ Some (plan_of words)

-- the position comes in the cell's probe sequence behind positions that were all seen with other cells' codes
pub record IsBehindOthers (plan : Plan) (keys : List Seen) (cell : Cell) (position : ℕ) : Type 0 where
  pub turn : ℕ
  pub here : probed plan (cell_code cell) turn ≡ position
  pub others : (j : ℕ) → j < turn → (0 < seen_at keys (probed plan (cell_code cell) j))
      × (seen_at keys (probed plan (cell_code cell) j) ≢ cell_code cell)

-- the view owns the record, has stored in it the codes of the answer of the cell whose key it saw at the position, and
-- knows that cell's demanded children
pub record IsReady (p : PosedProblem) (v : View) (position number : ℕ) : Type 0 where
  pub cell : Cell
  pub seen : IsCodeOf cell (seen_at v.keys position)
  pub answer : Answer
  pub right : IsAnswer p cell answer
  pub owned : Owned
  pub mine : Contains v.owned owned
  pub number_is : owned.number ≡ number
  pub codes : (part : Part) → stored part owned ≡ answer_word part answer
  pub children : (child : Cell) → IsDemandedChild p cell child → Contains v.known child

-- how many positions and how many records the rest has
abbrev pub rest_slots : Rest → ℕ
rest_slots rest = rest.slots

abbrev pub rest_records : Rest → ℕ
rest_records rest = rest.records

abbrev pub rest_words : Rest → List ℕ
rest_words rest = slots_items rest.closed.words
