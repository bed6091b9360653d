-- The numbers of cells in the rows and the columns of a table.
use Rattle.std.specs.Prelude.{◌≡◌, ℕ, ◌≤◌, ◌⊎◌, ℤ, nat_abs, Some}
use Rattle.adp_model.specs.declared.cell.Answer.TheVariants.{NoCandidate}
use Rattle.adp_model.specs.declared.cell.Cell.{Cell}
use Rattle.adp_model.specs.PosedProblem.{PosedProblem}
use Rattle.adp_model.specs.Parts.{algebra_of}
use Rattle.adp_model.specs.Answers.{IsAnswer}
use Rattle.adp_model.specs.Bellman.{HasBestScore}
use Rattle.adp_model.specs.Demand.{IsDemanded, IsDemandedChild}
use Rattle.cell_tables.specs.Spans.{value_at}
use Rattle.cell_tables.specs.Tables.{Table}
use Rattle.score_numbers.specs.Packing.{Width}
use Rattle.score_numbers.specs.Turned.{turned}

-- the number is the cell's best score, turned, or the mark where the cell has no candidate
abbrev pub IsNumberOf : Width → PosedProblem → Cell → ℤ → Type 0
IsNumberOf width p cell number =
    ((number ≡ width.mark) × IsAnswer p cell NoCandidate)
    ⊎ ((nat_abs number ≤ width.limit) × HasBestScore p cell (turned (algebra_of p).goal number))

-- in the row of the rule and the start this number stands for the end
abbrev pub IsInRow : {N : Type 0} → (N → ℤ) → Table N → ℕ → ℕ → ℕ → ℤ → Type 0
IsInRow value table rule from to number =
    (item : _) × (value_at table.rows rule from to ≡ Some item) × (number ≡ value item)

-- the row and the column of the cell both have its number
pub record HasCellNumber {N : Type 0} (width : Width) (value : N → ℤ) (table : Table N) (cell : Cell) : Type 0 where
  pub item : N
  pub in_row : value_at table.rows cell.rule cell.from cell.to ≡ Some item
  pub in_column : value_at table.columns cell.rule cell.to cell.from ≡ Some item
  pub is : IsNumberOf width table.problem cell (value item)

-- the demanded children of the demanded cells of a rule and a start have their numbers
abbrev pub HaveChildren : {N : Type 0} → Width → (N → ℤ) → PosedProblem → Table N → ℕ → ℕ → Type 0
HaveChildren width value p table rule from =
    (to : ℕ) (child : Cell) → IsDemanded p (record { rule = rule; from = from; to = to })
    → IsDemandedChild p (record { rule = rule; from = from; to = to }) child → HasCellNumber width value table child
