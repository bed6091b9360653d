-- The sweep that marks the demanded cells of straight grammars: by starts upwards, and at a start by ranks downwards.
use Rattle.std.specs.Prelude.{◌≡◌, ℕ, ◌<◌, ◌≤◌, ◌⊎◌, Some, List, slice_get}
use Rattle.adp_model.specs.declared.cell.Cell.{Cell}
use Rattle.adp_model.specs.PosedProblem.{PosedProblem, axiom_cell}
use Rattle.adp_model.specs.Demand.{IsDemandedChild, IsDemanded}
use Rattle.cell_tables.specs.Marks.{CellMarks, IsMarked, IsMarkedInRow}

-- the cells that begin before this start
abbrev pub IsBeforeStart : ℕ → Cell → Type 0
IsBeforeStart from cell = cell.from < from

-- those, and of the cells that begin there the ones whose rules stand at this number or behind it
abbrev pub IsBeforeNumber : List ℕ → ℕ → ℕ → Cell → Type 0
IsBeforeNumber order from number cell =
    IsBeforeStart from cell
    ⊎ ((cell.from ≡ from) × ((other : ℕ) × (number ≤ other) × (slice_get order other ≡ Some cell.rule)))

-- only demanded cells are marked, in their rows, the axiom's where it is demanded, and of the cells of which it holds
-- those that are marked have all their demanded children marked
pub record AreSwept (p : PosedProblem) (marks : CellMarks) (Holds : Cell → Type 0) : Type 0 where
  pub problem : marks.problem ≡ p
  pub in_rows : (cell : Cell) → IsMarked marks cell → IsMarkedInRow marks cell
  pub demanded : (cell : Cell) → IsMarked marks cell → IsDemanded p cell
  pub begun : IsDemanded p (axiom_cell p) → IsMarked marks (axiom_cell p)
  pub settled : (cell child : Cell) → Holds cell → IsMarked marks cell → IsDemandedChild p cell child
      → IsMarked marks child
