-- The sweep that marks the demanded cells: by starts upwards, and at a start by rows, or by ends downwards and then by
-- ranks downwards.
use Rattle.std.specs.Prelude.{◌≡◌, ℕ, ◌+◌, ◌<◌, ◌≤◌, ◌⊎◌, Some, List, length, slice_get, slice_index}
use Rattle.adp_model.specs.declared.cell.Cell.{Cell}
use Rattle.adp_model.specs.PosedProblem.{PosedProblem, axiom_cell}
use Rattle.adp_model.specs.Demand.{IsDemandedChild, IsDemanded}
use Rattle.cell_tables.specs.Marks.{CellMarks, IsMarked, IsMarkedInRow}

-- the cells that begin before this start
abbrev pub IsBeforeStart : ℕ → Cell → Type 0
IsBeforeStart from cell = cell.from < from

-- those, and of the cells that begin there the ones that end here or later
abbrev pub IsBeforeEnd : ℕ → ℕ → Cell → Type 0
IsBeforeEnd from to cell = IsBeforeStart from cell ⊎ ((cell.from ≡ from) × (to ≤ cell.to))

-- those that end later, and of the cells of this span the ones whose rules stand at this number or behind it
abbrev pub IsBeforeRule : List ℕ → ℕ → ℕ → ℕ → Cell → Type 0
IsBeforeRule rules from to number cell =
    IsBeforeEnd from (to + 1) cell
    ⊎ ((cell.from ≡ from) × (cell.to ≡ to)
    × ((other : ℕ) × (number ≤ other) × (other < length rules) × (slice_index rules other ≡ cell.rule)))

-- the cells that begin before this start, and of those that begin there the ones whose rules stand nowhere before this
-- number
abbrev pub IsBehindRow : List ℕ → ℕ → ℕ → Cell → Type 0
IsBehindRow rules from number cell =
    IsBeforeStart from cell
    ⊎ ((cell.from ≡ from) × ((other : ℕ) → slice_get rules other ≡ Some cell.rule → number ≤ other))

-- of the cells that begin here those that are marked are marked in their rows
abbrev pub AreGathered : CellMarks → ℕ → Type 0
AreGathered marks from = (cell : Cell) → cell.from ≡ from → IsMarked marks cell → IsMarkedInRow marks cell

-- the cell is marked in its row, and its demanded children are marked
pub record IsSettled (marks : CellMarks) (cell : Cell) : Type 0 where
  pub marked : IsMarkedInRow marks cell
  pub children : (child : Cell) → IsDemandedChild marks.problem cell child → IsMarked marks child

-- only demanded cells are marked, the axiom's where it is demanded, and of the cells of which it holds those that are
-- marked are settled
pub record AreSwept (p : PosedProblem) (marks : CellMarks) (Holds : Cell → Type 0) : Type 0 where
  pub problem : marks.problem ≡ p
  pub demanded : (cell : Cell) → IsMarked marks cell → IsDemanded p cell
  pub begun : IsDemanded p (axiom_cell p) → IsMarked marks (axiom_cell p)
  pub settled : (cell : Cell) → Holds cell → IsMarked marks cell → IsSettled marks cell

-- and all marks stand in rows
pub record AreSweptInRows (p : PosedProblem) (marks : CellMarks) (Holds : Cell → Type 0) : Type 0 where
  pub swept : AreSwept p marks Holds
  pub in_rows : (cell : Cell) → IsMarked marks cell → IsMarkedInRow marks cell
