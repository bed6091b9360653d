-- What lists are of: a problem, and how many first trees of each demanded cell.
use Rattle.std.specs.Prelude.{ℕ}
use Rattle.adp_model.specs.PosedProblem.{PosedProblem}

pub record ListsOf : Type 0 where
  pub problem : PosedProblem
  pub k : ℕ
