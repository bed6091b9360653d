use Rattle.adp_model.proofs.Demanded.{demanded_counted}
use Rattle.adp_model.proofs.laws.demand.demanded_cells_are_counted.Goals as goal

pub returns : goal.returns
returns c = demanded_counted
