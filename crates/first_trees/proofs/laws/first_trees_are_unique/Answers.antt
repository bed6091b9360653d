use Rattle.first_trees.proofs.Listed.{list_unique, list_shortened}
use Rattle.first_trees.proofs.Ordering.{place_unique}
use Rattle.first_trees.proofs.laws.first_trees_are_unique.Goals as goal

pub returns-clause-one : goal.returns-clause-one
returns-clause-one c p =
    let order = c.preference_is_a_strict_total_order.ensures in list_unique p (order.irreflexive p) (order.transitive p)

pub returns-clause-prefix : goal.returns-clause-prefix
returns-clause-prefix c = list_shortened

pub returns-clause-place : goal.returns-clause-place
returns-clause-place c p =
    let order = c.preference_is_a_strict_total_order.ensures in place_unique p (order.irreflexive p) (order.transitive p)
