-- What each kind of step tells its caller of the view before, the value found and the view after.
use Rattle.std.specs.Prelude.{◌≡◌, ℕ, ◌+◌, ◌<◌, ◌≤◌, List, min, Some, Contains}
use mathlib.Core.Option.{some}
use lib.ListN.{get_elem?}
use Rattle.atomic_table.specs.Table.{State, Me, Step}
use Rattle.adp_model.specs.declared.cell.Answer.{Answer}
use Rattle.adp_model.specs.declared.cell.Cell.{Cell}
use Rattle.adp_model.specs.Answers.{IsAnswer}
use Rattle.adp_model.specs.Demand.{IsDemanded}
use Rattle.memo_words.specs.declared.part.Part.{Part}
use Rattle.memo_words.specs.declared.view.Seen.{Seen}
use Rattle.memo_words.specs.declared.view.View.{View}
use Rattle.memo_words.specs.Layout.{Plan, slots_of, records_of, key_place, record_place, arena_place, tally}
use Rattle.memo_words.specs.Views.{seen_at, owns, cell_at, key_loaded, key_exchanged, record_loaded, record_exchanged, counter_added, arena_stored, arena_loaded}
use Rattle.memo_words.specs.CodedCells.{IsCodeOf, answer_word}
use Rattle.memo_words.specs.Kept.{Kept}

-- the code of some demanded cell
abbrev pub IsDemandedCode : Plan → ℕ → Type 0
IsDemandedCode plan code = (cell : Cell) × IsCodeOf cell code × IsDemanded plan.problem cell

-- at most as many positions as there are cells can have codes of demanded cells, no two of one cell
abbrev pub KeysFit : Plan → Type 0
KeysFit plan =
    (keys : ℕ → ℕ) (slots : ℕ) → ((i : ℕ) → i < slots → 0 < keys i → IsDemandedCode plan (keys i))
    → ((i j : ℕ) → i < slots → j < slots → 0 < keys i → keys i ≡ keys j → i ≡ j)
    → tally (λ i. min (keys i) 1) slots ≤ plan.cells

-- the keys seen are codes of demanded cells, and no two of one cell
pub record AreKeys (plan : Plan) (keys : List Seen) : Type 0 where
  pub demanded : (position : ℕ) → 0 < seen_at keys position → IsDemandedCode plan (seen_at keys position)
  pub inside : (position : ℕ) → 0 < seen_at keys position → position < slots_of plan
  pub apart : (i j : ℕ) → 0 < seen_at keys i → seen_at keys i ≡ seen_at keys j → i ≡ j

-- what was seen is seen still
abbrev pub StaySeen : List Seen → List Seen → Type 0
StaySeen before after =
    (position : ℕ) → 0 < seen_at before position → seen_at after position ≡ seen_at before position

-- the word is that of the cell's answer
abbrev pub IsAnswerWord : Plan → Part → Cell → ℕ → Type 0
IsAnswerWord plan part cell word =
    (answer : Answer) × IsAnswer plan.problem cell answer × (word ≡ answer_word part answer)

-- this word of the record is that of the answer of each cell whose key was seen at a position where the record's name
-- was seen
abbrev pub IsNamedAnswer : Plan → View → Part → ℕ → ℕ → Type 0
IsNamedAnswer plan v part number word =
    (position : ℕ) (cell : Cell) → IsCodeOf cell (seen_at v.keys position) → seen_at v.names position ≡ number + 1
    → IsAnswerWord plan part cell word

-- these are the words of a last state, in which the rule holds, and the one live view is v
pub record IsClosing (plan : Plan) (v : View) (words : List ℕ) : Type 0 where
  pub state : State ℕ View
  pub kept : Kept plan state
  pub here : state.words ≡ words
  pub at : ℕ
  pub mine : get_elem? state.views at ≡ some v
  pub alone : (i : ℕ) (w : View) → get_elem? state.views i ≡ some w → 0 < w.weight → i ≡ at

abbrev pub Telling : Type 1
Telling = Step ℕ → Me ℕ View → ℕ → Me ℕ View → Type 0

abbrev pub KeyLoads : Telling
KeyLoads step before found after =
    (plan : Plan) (position : ℕ) → before.0.plan ≡ Some plan → step.word ≡ key_place position
    → (after ≡ (key_loaded position found before.0, before.1)) × AreKeys plan after.0.keys
    × StaySeen before.0.keys after.0.keys

abbrev pub KeyExchanges : Telling
KeyExchanges step before found after =
    (plan : Plan) (position : ℕ) → before.0.plan ≡ Some plan → step.word ≡ key_place position
    → (after ≡ (key_exchanged position step.second found before.0, before.1)) × AreKeys plan after.0.keys
    × StaySeen before.0.keys after.0.keys

abbrev pub RecordLoads : Telling
RecordLoads step before found after =
    (plan : Plan) (position : ℕ) → before.0.plan ≡ Some plan → step.word ≡ record_place (slots_of plan) position
    → (after ≡ (record_loaded plan position found before.0, before.1))
    × (Contains before.0.known (cell_at before.0 position) → 0 < found) × (found ≤ records_of plan)
    × StaySeen before.0.names after.0.names

abbrev pub RecordExchanges : Telling
RecordExchanges step before found after =
    (plan : Plan) (position number : ℕ) → before.0.plan ≡ Some plan → step.word ≡ record_place (slots_of plan) position
    → step.second ≡ number + 1
    → (after ≡ (record_exchanged plan position number found before.0, before.1))
    × (Contains before.0.known (cell_at before.0 position) → 0 < found)
    × (found ≡ 0 → owns number after.0.owned ≡ 0)

abbrev pub CounterAdds : Telling
CounterAdds step before found after =
    (plan : Plan) → before.0.plan ≡ Some plan
    → (after ≡ (counter_added found before.0, before.1)) × (found < records_of plan)

abbrev pub ArenaStores : Telling
ArenaStores step before found after =
    (plan : Plan) (part : Part) (number : ℕ) → before.0.plan ≡ Some plan → number < records_of plan
    → step.word ≡ arena_place (slots_of plan) (records_of plan) part number
    → after ≡ (arena_stored plan part number found before.0, before.1)

abbrev pub ArenaLoads : Telling
ArenaLoads step before found after =
    (plan : Plan) (part : Part) (number : ℕ) → before.0.plan ≡ Some plan → number < records_of plan
    → step.word ≡ arena_place (slots_of plan) (records_of plan) part number
    → (after ≡ (arena_loaded plan part number found before.0, before.1))
    × IsNamedAnswer plan before.0 part number found
