use Rattle.adp_model.proofs.BoundSoundness.{value_within}
use Rattle.adp_model.proofs.laws.terms.values_are_within_magnitudes.Goals as goal

pub returns : goal.returns
returns c = value_within
