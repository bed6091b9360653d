-- What is kept of cells in rows, by starts, and in columns, by ends.
use Rattle.std.specs.Prelude.{◌≡◌, ◌↔◌, ℕ, Option, IsSome, length}
use Rattle.adp_model.specs.declared.cell.Cell.{Cell}
use Rattle.adp_model.specs.PosedProblem.{PosedProblem}
use Rattle.adp_model.specs.Cells.{IsCounted, IsCellBound, IsPlaceOf}
use Rattle.cell_layouts.specs.declared.layout.Side.{Side}
use Rattle.cell_layouts.specs.declared.layout.Side.TheVariants.{Rows, Columns}
use Rattle.cell_tables.specs.Spans.{Spans, place_of, value_at}

-- values of cells by rows and by columns
pub record Table (V : Type 0) : Type 0 where
  pub problem : PosedProblem
  pub rows : Spans V
  pub columns : Spans V

-- the value of a cell in its row and in its column, where it has one
abbrev pub in_row : {V : Type 0} → Table V → Cell → Option V
in_row table cell = value_at table.rows cell.rule cell.from cell.to

abbrev pub in_column : {V : Type 0} → Table V → Cell → Option V
in_column table cell = value_at table.columns cell.rule cell.to cell.from

-- there is a value in a row and one in a column for each counted cell, and for no other, and those in rows stand at the
-- places of the cells
pub record AreCells {V : Type 0} (table : Table V) : Type 0 where
  pub rows_are : (cell : Cell) → IsSome (in_row table cell)
      ↔ IsCounted table.problem.grammar (length table.problem.word) cell
  pub columns_are : (cell : Cell) → IsSome (in_column table cell)
      ↔ IsCounted table.problem.grammar (length table.problem.word) cell
  pub one_each : IsCellBound table.problem.grammar (length table.problem.word) (length table.rows.values)
  pub placed : (cell : Cell) (place : ℕ) → IsCounted table.problem.grammar (length table.problem.word) cell
      → IsPlaceOf table.problem.grammar (length table.problem.word) cell place
      → place_of table.rows cell.rule cell.from cell.to ≡ place

-- the rows or the columns of a table
abbrev pub spans_of : {V : Type 0} → Table V → Side → Spans V
spans_of table Rows = table.rows
spans_of table Columns = table.columns
