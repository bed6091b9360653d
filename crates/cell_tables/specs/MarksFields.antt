-- What the fields of marks stand for.
use Rattle.std.specs.Prelude.{◌≡◌, ◌↔◌, ℕ, ◌+◌, length}
use Rattle.cell_tables.specs.declared.marks.Marks.TheInside.{Inside}
use Rattle.cell_tables.specs.Flags.{IsFlagged}
use Rattle.cell_tables.specs.Marks.{AreMarks, CellMarks, HasInColumns, HasStart}

abbrev pub cell_marks : Inside → CellMarks
cell_marks marks = record { problem = marks.layout; rows = marks.rows; columns = marks.columns }

-- there are bits for the counted cells alone, and flags tell exactly the rules of the cells that are marked in columns
-- and the starts of those that are marked in rows
pub record AreKeptMarks (fields : Inside) : Type 0 where
  pub marks : AreMarks (cell_marks fields)
  pub each_rule : length fields.in_columns.items ≡ length fields.layout.grammar.rules
  pub each_start : length fields.begun.items ≡ length fields.layout.word + 1
  pub rules : (rule : ℕ) → IsFlagged fields.in_columns.items rule ↔ HasInColumns (cell_marks fields) rule
  pub starts : (from : ℕ) → IsFlagged fields.begun.items from ↔ HasStart (cell_marks fields) from
