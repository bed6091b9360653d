-- Marks of cells: bits in rows, by starts, and in columns, by ends.
use Rattle.std.specs.Prelude.{◌≡◌, ◌⊎◌, ◌↔◌, ℕ, ◌/◌, ◌<◌, ◌≤◌, List, IsSome, length}
use Rattle.std.specs.List.{Contains}
use Rattle.adp_model.specs.declared.cell.Cell.{Cell}
use Rattle.adp_model.specs.PosedProblem.{PosedProblem}
use Rattle.adp_model.specs.Cells.{IsCounted}
use Rattle.cell_tables.specs.Spans.{Spans, value_at}
use Rattle.cell_tables.specs.Bits.{IsSet}

pub record CellMarks : Type 0 where
  pub problem : PosedProblem
  pub rows : Spans ℕ
  pub columns : Spans ℕ

abbrev pub IsMarkedInRow : CellMarks → Cell → Type 0
IsMarkedInRow marks cell = IsSet marks.rows cell.rule cell.from cell.to

abbrev pub IsMarkedInColumn : CellMarks → Cell → Type 0
IsMarkedInColumn marks cell = IsSet marks.columns cell.rule cell.to cell.from

-- the cell is marked in its row or in its column
abbrev pub IsMarked : CellMarks → Cell → Type 0
IsMarked marks cell = IsMarkedInRow marks cell ⊎ IsMarkedInColumn marks cell

-- a cell that begins here is marked in its row
abbrev pub HasStart : CellMarks → ℕ → Type 0
HasStart marks from = (cell : Cell) × (cell.from ≡ from) × IsMarkedInRow marks cell

-- a cell of the rule is marked in its column
abbrev pub HasInColumns : CellMarks → ℕ → Type 0
HasInColumns marks rule = (cell : Cell) × (cell.rule ≡ rule) × IsMarkedInColumn marks cell

-- there is a bit in a row and one in a column for each counted cell, and no bit is set that is not that of a counted
-- cell
pub record AreMarks (marks : CellMarks) : Type 0 where
  pub row_there : (cell : Cell) → IsCounted marks.problem.grammar (length marks.problem.word) cell
      → IsSome (value_at marks.rows cell.rule cell.from (cell.to / 64))
  pub column_there : (cell : Cell) → IsCounted marks.problem.grammar (length marks.problem.word) cell
      → IsSome (value_at marks.columns cell.rule cell.to (cell.from / 64))
  pub counted : (cell : Cell) → IsMarked marks cell
      → IsCounted marks.problem.grammar (length marks.problem.word) cell

-- the cells that were marked and those of which it holds are marked now, and no others; marks in rows stay
pub record AreMarkedToo (old new : CellMarks) (Holds : Cell → Type 0) : Type 0 where
  pub problem : new.problem ≡ old.problem
  pub exact : (cell : Cell) → IsMarked new cell ↔ (IsMarked old cell ⊎ Holds cell)
  pub rows_stay : (cell : Cell) → IsMarkedInRow old cell → IsMarkedInRow new cell

-- the cells of which it holds are marked in their rows
abbrev pub AreInRows : CellMarks → (Cell → Type 0) → Type 0
AreInRows marks Holds = (cell : Cell) → Holds cell → IsMarkedInRow marks cell

-- so that those of these cells that begin here are marked in their rows
pub record AreMarkedFrom (begin : ℕ) (old new : CellMarks) (Holds : Cell → Type 0) : Type 0 where
  pub marked : AreMarkedToo old new Holds
  pub begun : (cell : Cell) → cell.from ≡ begin → Holds cell → IsMarkedInRow new cell

-- a cell of one of the rules that has this span is marked in its row
abbrev pub IsSpanMarked : CellMarks → List ℕ → ℕ → ℕ → Type 0
IsSpanMarked marks rules from to =
    (rule : ℕ) × Contains rules rule × IsMarkedInRow marks (record { rule = rule; from = from; to = to })

-- the last end before `below` of the spans from this start that are marked
pub record IsLastMarked (marks : CellMarks) (rules : List ℕ) (from below to : ℕ) : Type 0 where
  pub before : to < below
  pub marked : IsSpanMarked marks rules from to
  pub last : (other : ℕ) → to < other → other < below → IsSpanMarked marks rules from other → ⊥

-- one of the spans that end here and begin from `first` on and before `past` is marked
pub record IsEndMarked (marks : CellMarks) (rules : List ℕ) (first past to : ℕ) : Type 0 where
  pub from : ℕ
  pub from_first : first ≤ from
  pub before : from < past
  pub marked : IsSpanMarked marks rules from to

-- the first end from `least` on of the spans from these starts that are marked
pub record IsNextMarked (marks : CellMarks) (rules : List ℕ) (first past least to : ℕ) : Type 0 where
  pub behind : least ≤ to
  pub marked : IsEndMarked marks rules first past to
  pub none_before : (other : ℕ) → least ≤ other → other < to → IsEndMarked marks rules first past other → ⊥
