-- What the fields of a problem's scores stand for.
use Rattle.std.specs.Prelude.{ℕ, ◌≤◌, ◌-◌, ◌^◌, ℤ, nat_abs}
use Rattle.adp_model.specs.declared.grammar.Goal.{Goal}
use Rattle.adp_model.specs.declared.cell.Cell.{Cell}
use Rattle.adp_model.specs.PosedProblem.{PosedProblem}
use Rattle.adp_model.specs.Bellman.{HasBestScore}
use Rattle.cell_answers.specs.declared.scores.Scores.TheInside.{Inside}
use Rattle.cell_answers.specs.declared.scores.Packed.{Packed}
use Rattle.cell_answers.specs.declared.scores.Packed.TheVariants.{Short, Medium, Long, Whole}
use Rattle.cell_tables.specs.Tables.{Table}
use Rattle.score_numbers.specs.Packing.{Width, short, medium, long}
use Rattle.cell_answers.specs.PackedTables.{AreProperSpans, told_table}

abbrev pub table_of : Goal → Packed → Table ℤ
table_of goal (Short table) = told_table short goal table
table_of goal (Medium table) = told_table medium goal table
table_of goal (Long table) = told_table long goal table
table_of goal (Whole table) = table

abbrev pub scores_table : Inside → Table ℤ
scores_table fields = table_of fields.goal fields.packed

-- no best score is greater in absolute value
abbrev pub AreWithin : PosedProblem → ℕ → Type 0
AreWithin p limit = (cell : Cell) (score : ℤ) → HasBestScore p cell score → nat_abs score ≤ limit

-- the table has numbers of the width alone, and the width has one for each best score
pub record IsOfWidth (width : Width) (table : Table ℤ) : Type 0 where
  pub within : AreWithin table.problem width.limit
  pub rows : AreProperSpans width table.rows
  pub columns : AreProperSpans width table.columns

abbrev pub IsPacked : Packed → Type 0
IsPacked (Short table) = IsOfWidth short table
IsPacked (Medium table) = IsOfWidth medium table
IsPacked (Long table) = IsOfWidth long table
IsPacked (Whole table) = AreWithin table.problem (2 ^ 63 - 1)

abbrev pub AreScores : Inside → Type 0
AreScores fields = IsPacked fields.packed
