use Rattle.first_trees.proofs.Ordering.{entries_ordered, entries_apart, entry_unique}
use Rattle.first_trees.proofs.laws.entries_order_trees.Goals as goal

pub returns-clause-one : goal.returns-clause-one
returns-clause-one c p =
    let order = c.preference_is_a_strict_total_order.ensures in
    entry_unique p (order.irreflexive p) (order.transitive p)

pub returns-clause-order : goal.returns-clause-order
returns-clause-order c p formed =
    let order = c.preference_is_a_strict_total_order.ensures in
    entries_ordered p (order.irreflexive p) (order.transitive p) (c.children_are_placed.ensures p formed)

pub returns-clause-told : goal.returns-clause-told
returns-clause-told c p formed =
    let order = c.preference_is_a_strict_total_order.ensures in
    entries_apart p (order.irreflexive p) (order.transitive p) (c.children_are_placed.ensures p formed)
