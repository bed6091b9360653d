use Rattle.adp_model.proofs.Falling.{below_demanded}
use Rattle.adp_model.proofs.laws.demand.demanded_children_are_below.Goals as goal

pub returns : goal.returns
returns c = below_demanded
