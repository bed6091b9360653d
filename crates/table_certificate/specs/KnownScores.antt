-- Lines of cells whose demanded children are said to have their best scores.
use Rattle.std.specs.Prelude.{◌≡◌, ℤ, Option, Some}
use Rattle.adp_model.specs.declared.cell.Cell.{Cell}
use Rattle.adp_model.specs.PosedProblem.{PosedProblem}
use Rattle.adp_model.specs.Demand.{IsDemanded, IsDemandedChild}
use Rattle.cell_tables.specs.Noted.{Notes, IsNoted}
use Rattle.table_certificate.specs.BestScores.{IsBestScore}

-- the cell is demanded, and said to have its best score
pub record IsSaidBest (p : PosedProblem) (said : Cell → Option (Option ℤ)) (cell : Cell) : Type 0 where
  pub demanded : IsDemanded p cell
  pub score : Option ℤ
  pub says : said cell ≡ Some score
  pub best : IsBestScore p cell score

-- so is each child that the cell demands
abbrev pub AreChildrenSaidBest : PosedProblem → (Cell → Option (Option ℤ)) → Cell → Type 0
AreChildrenSaidBest p said cell = (child : Cell) → IsDemandedChild p cell child → IsSaidBest p said child

-- each noted cell is demanded, and said to have its best score
abbrev pub AreSaidBest : PosedProblem → (Cell → Option (Option ℤ)) → Notes → Type 0
AreSaidBest p said notes = (cell : Cell) → IsNoted notes cell → IsSaidBest p said cell

-- the cell is demanded, this is its best score, and each child that it demands is noted
pub record IsSettled (p : PosedProblem) (notes : Notes) (cell : Cell) (score : Option ℤ) : Type 0 where
  pub demanded : IsDemanded p cell
  pub best : IsBestScore p cell score
  pub children : (child : Cell) → IsDemandedChild p cell child → IsNoted notes child
