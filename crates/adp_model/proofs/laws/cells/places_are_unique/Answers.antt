use Rattle.adp_model.proofs.Places.{place_unique, cell_bound_unique}
use Rattle.adp_model.proofs.laws.cells.places_are_unique.Goals as goal

pub returns-clause-place : goal.returns-clause-place
returns-clause-place c = place_unique

pub returns-clause-bound : goal.returns-clause-bound
returns-clause-bound c = cell_bound_unique
