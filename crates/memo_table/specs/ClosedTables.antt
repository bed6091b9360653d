-- What contracts see of a closed table.
use Rattle.std.specs.Prelude.{◌≡◌, ◌↔◌, ℕ, ◌<◌, ◌≤◌, List}
use Rattle.adp_model.specs.declared.cell.Answer.{Answer}
use Rattle.adp_model.specs.declared.cell.Cell.{Cell}
use Rattle.adp_model.specs.Answers.{IsAnswer}
use Rattle.adp_model.specs.Demand.{IsDemanded}
use Rattle.adp_model.specs.ProblemFields.{IsAdmissible}
use Rattle.memo_words.specs.declared.part.Part.{Part}
use Rattle.memo_words.specs.CodedCells.{answer_word}
use Rattle.memo_words.specs.Layout.{Plan, IsPlanned, slots_of, records_of, key}
use Rattle.memo_words.specs.Kept.{IsHeldAt, IsPublished, StandsAt, name, arena}
use Rattle.memo_words.specs.Passes.{plan_of, rest_words}
use Rattle.memo_table.specs.declared.closed.Closed.TheInside.{Inside}

-- what the table was made for, and its last words
pub record ClosedTable : Type 0 where
  pub plan : Plan
  pub words : List ℕ

abbrev pub closed_table : Inside → ClosedTable
closed_table closed = record { plan = plan_of closed.made_for.value; words = rest_words closed.rest }

-- each cell is held at one position, and with one answer's words
abbrev pub IsHeldOnce : ClosedTable → Type 0
IsHeldOnce closed =
    (i j : ℕ) (cell : Cell) (a b : Answer) → IsHeldAt closed.plan closed.words i cell a
    → IsHeldAt closed.plan closed.words j cell b → i ≡ j

-- what is left of the rule of the table, and that the published cells are the demanded ones
pub record IsSettled (plan : Plan) (words : List ℕ) : Type 0 where
  pub keys : (position : ℕ) → position < slots_of plan → 0 < key words position → StandsAt plan words position
  pub apart : (i j : ℕ) → i < slots_of plan → j < slots_of plan → 0 < key words i → key words i ≡ key words j → i ≡ j
  pub named : (position : ℕ) → position < slots_of plan → name plan words position ≤ records_of plan
  pub answered : (position : ℕ) → position < slots_of plan → 0 < name plan words position
      → (cell : Cell) × (answer : Answer) × IsAnswer plan.problem cell answer × IsHeldAt plan words position cell answer
  pub published : (cell : Cell) → IsPublished plan words cell ↔ IsDemanded plan.problem cell

-- the parts of a closed table belong together
pub record IsClosedTable (closed : Inside) : Type 0 where
  pub slots : closed.rest.slots ≡ slots_of (plan_of closed.made_for.value)
  pub records : closed.rest.records ≡ records_of (plan_of closed.made_for.value)
  pub bits : closed.bits ≡ (plan_of closed.made_for.value).bits
  pub planned : IsPlanned (plan_of closed.made_for.value)
  pub admissible : IsAdmissible (plan_of closed.made_for.value).problem
  pub settled : IsSettled (plan_of closed.made_for.value) (rest_words closed.rest)

-- the code stands at the position
abbrev pub IsAt : ClosedTable → ℕ → ℕ → Type 0
IsAt closed code position = (position < slots_of closed.plan) × (key closed.words position ≡ code)

-- it stands at none
abbrev pub IsNowhere : ClosedTable → ℕ → Type 0
IsNowhere closed code = (position : ℕ) → position < slots_of closed.plan → key closed.words position ≡ code → ⊥

-- the record has the words of the answer
abbrev pub AreWordsOf : ClosedTable → ℕ → Answer → Type 0
AreWordsOf closed number answer =
    (part : Part) → arena closed.plan closed.words part number ≡ answer_word part answer
