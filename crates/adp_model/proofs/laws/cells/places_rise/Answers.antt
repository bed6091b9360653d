use Rattle.adp_model.proofs.Places.{places_rise}
use Rattle.adp_model.proofs.laws.cells.places_rise.Goals as goal

pub returns : goal.returns
returns c = places_rise
