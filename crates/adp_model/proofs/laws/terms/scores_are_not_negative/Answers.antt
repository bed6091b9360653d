use Rattle.adp_model.proofs.NotNegative.{score_from_zero}
use Rattle.adp_model.proofs.laws.terms.scores_are_not_negative.Goals as goal

pub returns : goal.returns
returns c = score_from_zero
