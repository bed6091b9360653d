-- What contracts see of the passes and probes of a table.
use Rattle.std.specs.Prelude.{◌≡◌, ℕ, ◌<◌, Contains, Option, Some, None, List, [], ◌∷◌}
use Rattle.adp_model.specs.declared.cell.Cell.{Cell}
use Rattle.memo_model.specs.Memos.{Meaning}
use Rattle.history_table.specs.declared.history.Event.{Event}
use Rattle.history_table.specs.declared.history.Mark.{Mark}
use Rattle.memo_words.specs.Codes.{cell_code}
use Rattle.memo_words.specs.Layout.{Plan, slots_of, record_place}
use Rattle.memo_words.specs.Views.{seen_at}
use Rattle.memo_words.specs.Passes.{view_of, marks_of, HasTold, IsPassOf}
use Rattle.memo_words.specs.declared.pass.Pass.{Pass}
use Rattle.memo_words.specs.declared.words.Words.{Words}
use Rattle.memo_table.specs.declared.probe.Probe.{Probe}
use Rattle.memo_table.specs.Members.{has_or_not}
use Rattle.memo_table.specs.Probes.{stage_of, loads_record, steps_left, Follows}

-- the weight and the spare
abbrev pub share_of : Pass → List ℕ
share_of pass = (view_of pass).weight ∷ (view_of pass).spare ∷ []

-- the last event of these marks, and of none the one before them
abbrev pub event_behind : Option Event → List Mark → Option Event
event_behind before [] = before
event_behind before (mark ∷ marks) = event_behind (Some mark.event) marks

-- the pass's last step, as the history of the words has it
abbrev pub last_event : Pass → Option Event
last_event pass = event_behind None (marks_of pass)

-- the cell's code was seen at a position, and the word is the record word of that position
pub record IsRecordWord (pass : Pass) (cell : Cell) (word : ℕ) : Type 0 where
  pub plan : Plan
  pub plan_is : (view_of pass).plan ≡ Some plan
  pub position : ℕ
  pub inside : position < slots_of plan
  pub seen : seen_at (view_of pass).keys position ≡ cell_code cell
  pub word_is : word ≡ record_place (slots_of plan) position

abbrev pub knows : Pass → Cell → Type 0
knows pass cell = Contains (view_of pass).known cell

-- the rule of the table says that an answer is published of each cell that a pass knows
abbrev pub table_meaning : Meaning Pass Probe
table_meaning = record {
  known = knows;
  known_or_not = λ pass cell. has_or_not (view_of pass).known cell;
  wins = λ pass. (view_of pass).wins;
  share = share_of;
  last = last_event;
  record_word = IsRecordWord;
  cell = λ probe. probe.cell;
  stage = λ probe. stage_of probe.next;
  follows = Follows;
  loads = λ probe. loads_record probe.next;
  remaining = λ m probe. steps_left m probe.turn probe.next;
}

-- the second pass is the first after a step with some probe: what was seen is seen, and what was known is known
pub record PassGoesOn (v w : Pass) : Type 0 where
  pub own : (words : Words) → IsPassOf words v → IsPassOf words w
  pub keys : (position : ℕ) → 0 < seen_at (view_of v).keys position
      → seen_at (view_of w).keys position ≡ seen_at (view_of v).keys position
  pub names : (position : ℕ) → 0 < seen_at (view_of v).names position
      → seen_at (view_of w).names position ≡ seen_at (view_of v).names position
  pub known : (cell : Cell) → knows v cell → knows w cell

-- the same, and the step is exactly one: the one that the pass tells as its last, and that the history of the words has
abbrev pub StepsOn : Pass → Pass → Type 0
StepsOn v w = PassGoesOn v w × HasTold v w
