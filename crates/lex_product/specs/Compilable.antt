-- Problems that the compiled algebra is made for.
use Rattle.std.specs.Prelude.{ℕ, ◌≤◌, Option, List, length}
use Rattle.adp_model.specs.PosedProblem.{PosedProblem}
use Rattle.adp_model.specs.Checks.{IsChecked}
use Rattle.adp_model.specs.Bounds.{IsScoreBound}
use Rattle.adp_model.specs.ProblemFields.{most_letters}
use Rattle.lex_product.specs.PairFaults.{AllAddScores}

-- the grammar passes the checks under the problem's algebra and under the second one, all terms of both add scores as
-- they are, and this is the second one's score bound of the word
pub record IsCompilable (p : PosedProblem) (second bound : ℕ) : Type 0 where
  pub least : List ℕ
  pub greatest : List (Option ℕ)
  pub ranks : List ℕ
  pub checked : IsChecked p.grammar p.algebra least greatest ranks
  pub second_checked : IsChecked p.grammar second least greatest ranks
  pub adding : AllAddScores p.grammar p.algebra second
  pub short : length p.word ≤ most_letters
  pub bounded : IsScoreBound p.grammar second (length p.word) bound
