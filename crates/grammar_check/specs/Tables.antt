-- The numbers of a table by row and column.
use Rattle.std.specs.Prelude.{ℕ, ◌+◌, ◌*◌, slice_index}
use Rattle.grammar_check.specs.declared.table.Table.{Table}

-- the number in this row and column
abbrev pub entry : Table → ℕ → ℕ → ℕ
entry table row column = slice_index table.values.items (row * table.width + column)
