use Rattle.adp_model.proofs.Places.{place_of_counted, place_below, cell_at_place}
use Rattle.adp_model.proofs.laws.cells.places_fill_the_bound.Goals as goal

pub returns-clause-placed : goal.returns-clause-placed
returns-clause-placed c = place_of_counted

pub returns-clause-below : goal.returns-clause-below
returns-clause-below c = place_below

pub returns-clause-filled : goal.returns-clause-filled
returns-clause-filled c = cell_at_place
