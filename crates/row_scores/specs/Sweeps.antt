-- The sweep that fills the numbers of the demanded cells: by starts downwards, and at a start row by row.
use Rattle.std.specs.Prelude.{◌≡◌, ◌↔◌, ◌⊎◌, ℕ, ◌<◌, ◌≤◌, ℤ, ◌<ℤ◌, ◌≤ℤ◌, Some, List, slice_get}
use Rattle.adp_model.specs.declared.cell.Cell.{Cell}
use Rattle.adp_model.specs.PosedProblem.{PosedProblem}
use Rattle.adp_model.specs.Demand.{IsDemanded}
use Rattle.cell_tables.specs.Marks.{CellMarks, IsMarkedInRow}
use Rattle.cell_tables.specs.Spans.{Spans, value_at}
use Rattle.cell_tables.specs.Tables.{Table}
use Rattle.score_numbers.specs.Packing.{IsProper, Width}
use Rattle.score_rows.specs.Numbers.{least}
use Rattle.row_scores.specs.Ready.{IsLowProblem}
use Rattle.row_scores.specs.RowNumbers.{HasCellNumber}

-- the demanded cells of the problem are marked, the layout is its own, and its scores keep the limit
pub record IsSwept (p : PosedProblem) (width : Width) (layout : PosedProblem) (marks : CellMarks) : Type 0 where
  pub same_layout : layout ≡ p
  pub marked : (cell : Cell) → IsMarkedInRow marks cell ↔ IsDemanded p cell
  pub low : IsLowProblem p width

-- the numbers are of the width
abbrev pub AreOfWidth : {N : Type 0} → Width → (N → ℤ) → Spans N → Type 0
AreOfWidth width value spans =
    (rule near far : ℕ) (item : _) → value_at spans rule near far ≡ Some item → IsProper width (value item)

-- the table is the problem's, and has numbers of the width alone
pub record AreNumbers {N : Type 0} (width : Width) (value : N → ℤ) (p : PosedProblem) (table : Table N) : Type 0 where
  pub problem : table.problem ≡ p
  pub rows : AreOfWidth width value table.rows
  pub columns : AreOfWidth width value table.columns

-- and of the cells of which it holds the demanded ones have theirs
pub record AreFilled {N : Type 0} (width : Width) (value : N → ℤ) (p : PosedProblem) (table : Table N)
    (Holds : Cell → Type 0) : Type 0 where
  pub numbers : AreNumbers width value p table
  pub filled : (cell : Cell) → IsDemanded p cell → Holds cell → HasCellNumber width value table cell

-- cells that have their numbers in the first table have them in the second one too
abbrev pub AreKept : {N : Type 0} → Width → (N → ℤ) → Table N → Table N → Type 0
AreKept width value old new = (cell : Cell) → HasCellNumber width value old cell → HasCellNumber width value new cell

-- all cells
abbrev pub IsAny : Cell → Type 0
IsAny cell = Unit {0}

-- the cells that begin at this start or later
abbrev pub IsFromStart : ℕ → Cell → Type 0
IsFromStart from cell = from ≤ cell.from

-- the cells of a rule that begin at this start
abbrev pub IsOfRow : ℕ → ℕ → Cell → Type 0
IsOfRow rule from cell = (cell.rule ≡ rule) × (cell.from ≡ from)

-- those of them that end before this end
abbrev pub IsBeforeEnd : ℕ → ℕ → ℕ → Cell → Type 0
IsBeforeEnd rule from to cell = IsOfRow rule from cell × (cell.to < to)

-- the cells that begin later, and of those that begin at this start the ones whose rules stand before this number
abbrev pub IsBeforeRow : List ℕ → ℕ → ℕ → Cell → Type 0
IsBeforeRow rules from number cell =
    (from < cell.from)
    ⊎ ((cell.from ≡ from) × ((other : ℕ) × (other < number) × (slice_get rules other ≡ Some cell.rule)))

-- the number itself where it stands for a score, and else the mark
abbrev pub IsSettled : Width → ℤ → ℤ → Type 0
IsSettled width number settled =
    ((least width ≤ℤ number) × (settled ≡ number)) ⊎ ((number <ℤ least width) × (settled ≡ width.mark))
