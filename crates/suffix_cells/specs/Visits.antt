-- Marks of cells that end where the word ends, and the rules that are visited, by their numbers in an order.
use Rattle.std.specs.Prelude.{◌≡◌, ℕ, ◌<◌, ◌≤◌, Some, List, length, slice_get, slice_index}
use Rattle.std.specs.Int.{bit_at}
use Rattle.adp_model.specs.declared.cell.Cell.{Cell}
use Rattle.adp_model.specs.PosedProblem.{PosedProblem}
use Rattle.cell_tables.specs.Marks.{CellMarks, IsMarkedInRow}

pub record Visited : Type 0 where
  pub marks : CellMarks
  pub order : List ℕ

-- the cell of a rule that has the letters from a start on
abbrev pub suffix_cell : PosedProblem → ℕ → ℕ → Cell
suffix_cell p rule from = record { rule = rule; from = from; to = length p.word }

-- the rule of this number is visited at this start: its cell there is marked in its row
pub record IsVisited (visits : Visited) (from number : ℕ) : Type 0 where
  pub rule : ℕ
  pub stands : slice_get visits.order number ≡ Some rule
  pub marked : IsMarkedInRow visits.marks (suffix_cell visits.marks.problem rule from)

-- the first number from `least` on that is visited at this start
pub record IsFirstFrom (visits : Visited) (from least number : ℕ) : Type 0 where
  pub from_least : least ≤ number
  pub visited : IsVisited visits from number
  pub none_before : (other : ℕ) → least ≤ other → other < number → IsVisited visits from other → ⊥

-- the last number before `below` that is visited at this start
pub record IsLastBelow (visits : Visited) (from below number : ℕ) : Type 0 where
  pub before : number < below
  pub visited : IsVisited visits from number
  pub none_behind : (other : ℕ) → number < other → other < below → IsVisited visits from other → ⊥

-- of the places from `least` on whose bits are set, the first one
pub record IsFirstBit (bits least place : ℕ) : Type 0 where
  pub from_least : least ≤ place
  pub set : bit_at bits place ≡ 1
  pub none_before : (other : ℕ) → least ≤ other → other < place → bit_at bits other ≡ 1 → ⊥

-- of the places before `below` whose bits are set, the last one
pub record IsLastBit (bits below place : ℕ) : Type 0 where
  pub before : place < below
  pub set : bit_at bits place ≡ 1
  pub none_behind : (other : ℕ) → place < other → other < below → bit_at bits other ≡ 1 → ⊥

-- the rules have these numbers in the order, in which each of them stands once
pub record AreNumbers (rules : ℕ) (order numbers : List ℕ) : Type 0 where
  pub few : length order ≤ 128
  pub each : length numbers ≡ rules
  pub known : (number rule : ℕ) → slice_get order number ≡ Some rule → rule < rules
  pub there : (rule : ℕ) → rule < rules → slice_get order (slice_index numbers rule) ≡ Some rule
  pub inverse : (number rule : ℕ) → slice_get order number ≡ Some rule → slice_index numbers rule ≡ number
