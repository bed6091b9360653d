-- The score of an answer.
use Rattle.std.specs.Prelude.{ℤ, Option, Some, None}
use Rattle.adp_model.specs.declared.cell.Answer.{Answer}
use Rattle.adp_model.specs.declared.cell.Answer.TheVariants.{NoCandidate, Best}

abbrev pub score_in : Answer → Option ℤ
score_in NoCandidate = None
score_in (Best score choice) = Some score
