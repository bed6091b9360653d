-- Notes of cells: bits in rows, by starts, and in columns, by ends, which are set together.
use Rattle.std.specs.Prelude.{◌↔◌, ℕ, ◌/◌, IsSome, length}
use Rattle.adp_model.specs.declared.cell.Cell.{Cell}
use Rattle.adp_model.specs.PosedProblem.{PosedProblem}
use Rattle.adp_model.specs.Cells.{IsCounted}
use Rattle.cell_tables.specs.Spans.{Spans, value_at}
use Rattle.cell_tables.specs.Bits.{IsSet}

pub record Notes : Type 0 where
  pub problem : PosedProblem
  pub rows : Spans ℕ
  pub columns : Spans ℕ

-- the cell's bit in its row is set
abbrev pub IsNoted : Notes → Cell → Type 0
IsNoted notes cell = IsSet notes.rows cell.rule cell.from cell.to

-- the cell with this rule, this start and this end is noted
abbrev pub IsNotedAt : Notes → ℕ → ℕ → ℕ → Type 0
IsNotedAt notes rule from to = IsNoted notes (record { rule = rule; from = from; to = to })

-- there is a bit in a row and one in a column for each counted cell, both are set or none, and no bit is set that is
-- not that of a counted cell
pub record AreNotes (notes : Notes) : Type 0 where
  pub row_there : (cell : Cell) → IsCounted notes.problem.grammar (length notes.problem.word) cell
      → IsSome (value_at notes.rows cell.rule cell.from (cell.to / 64))
  pub column_there : (cell : Cell) → IsCounted notes.problem.grammar (length notes.problem.word) cell
      → IsSome (value_at notes.columns cell.rule cell.to (cell.from / 64))
  pub together : (cell : Cell) → IsNoted notes cell ↔ IsSet notes.columns cell.rule cell.to cell.from
  pub counted : (cell : Cell) → IsNoted notes cell → IsCounted notes.problem.grammar (length notes.problem.word) cell
