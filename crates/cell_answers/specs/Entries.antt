-- The entries of cells, which tell their best scores.
use Rattle.std.specs.Prelude.{◌≡◌, ℤ, Some, MatchOption}
use Rattle.adp_model.specs.declared.cell.Cell.{Cell}
use Rattle.adp_model.specs.declared.cell.Answer.TheVariants.{NoCandidate}
use Rattle.adp_model.specs.PosedProblem.{PosedProblem}
use Rattle.adp_model.specs.Answers.{IsAnswer}
use Rattle.adp_model.specs.Bellman.{HasBestScore}
use Rattle.cell_tables.specs.Spans.{value_at}
use Rattle.cell_tables.specs.Tables.{Table}
use Rattle.score_numbers.specs.Entries.{score_of_entry}

-- the entry tells the best score of the cell, or that it has no candidate
abbrev pub IsEntry : PosedProblem → Cell → ℤ → Type 0
IsEntry p cell entry = MatchOption (score_of_entry entry) (IsAnswer p cell NoCandidate) (HasBestScore p cell)

-- the row and the column of the cell both have its entry
pub record HasEntry (table : Table ℤ) (cell : Cell) : Type 0 where
  pub entry : ℤ
  pub in_row : value_at table.rows cell.rule cell.from cell.to ≡ Some entry
  pub in_column : value_at table.columns cell.rule cell.to cell.from ≡ Some entry
  pub is_entry : IsEntry table.problem cell entry
