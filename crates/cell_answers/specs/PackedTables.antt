-- Tables of numbers of a width, and of the entries that they stand for.
use Rattle.std.specs.Prelude.{◌≡◌, ℕ, ℤ, Some}
use Rattle.adp_model.specs.declared.grammar.Goal.{Goal}
use Rattle.cell_tables.specs.Spans.{Spans, value_at}
use Rattle.cell_tables.specs.Tables.{Table}
use Rattle.score_numbers.specs.Packing.{Width, IsProper, told_list}

abbrev pub AreProperSpans : Width → Spans ℤ → Type 0
AreProperSpans width spans =
    (rule near far : ℕ) (number : ℤ) → value_at spans rule near far ≡ Some number → IsProper width number

abbrev pub told_spans : Width → Goal → Spans ℤ → Spans ℤ
told_spans width goal spans =
    record { positions = spans.positions; blocks = spans.blocks; values = told_list width goal spans.values }

abbrev pub told_table : Width → Goal → Table ℤ → Table ℤ
told_table width goal table = record {
  problem = table.problem;
  rows = told_spans width goal table.rows;
  columns = told_spans width goal table.columns;
}
