use Rattle.adp_model.proofs.Places.{places_apart}
use Rattle.adp_model.proofs.laws.cells.places_tell_cells_apart.Goals as goal

pub returns : goal.returns
returns c = places_apart
