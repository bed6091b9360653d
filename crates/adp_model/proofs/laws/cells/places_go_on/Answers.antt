use Rattle.adp_model.proofs.Places.{first_place, place_in_start, place_of_next_start, place_of_next_rule, cell_bound_behind}
use Rattle.adp_model.proofs.laws.cells.places_go_on.Goals as goal

pub returns-clause-first : goal.returns-clause-first
returns-clause-first c = first_place

pub returns-clause-ends : goal.returns-clause-ends
returns-clause-ends c = λ grammar len rule from first past k to ends. place_in_start grammar len rule from first past ends k to

pub returns-clause-starts : goal.returns-clause-starts
returns-clause-starts c = λ grammar len rule from first past k ends ordered place. place_of_next_start grammar len rule from first past ends k ordered place

pub returns-clause-rules : goal.returns-clause-rules
returns-clause-rules c = place_of_next_rule

pub returns-clause-bound : goal.returns-clause-bound
returns-clause-bound c = cell_bound_behind
