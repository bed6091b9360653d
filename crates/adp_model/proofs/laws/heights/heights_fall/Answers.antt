use Rattle.adp_model.proofs.Heights.{height_falls, few_heights}
use Rattle.adp_model.proofs.laws.heights.heights_fall.Goals as goal

pub returns-clause-falls : goal.returns-clause-falls
returns-clause-falls c = height_falls

pub returns-clause-few : goal.returns-clause-few
returns-clause-few c = few_heights
