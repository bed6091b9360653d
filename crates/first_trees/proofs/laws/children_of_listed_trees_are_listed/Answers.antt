use Rattle.std.proofs.Common.{◌≤◌, subst}
use Rattle.first_trees.specs.Entries.{Entry, choices_up_to}
use Rattle.first_trees.proofs.Orderly.{orderly_checked}
use Rattle.first_trees.proofs.Choices.{tree_listed}
use Rattle.first_trees.proofs.laws.children_of_listed_trees_are_listed.Goals as goal

pub returns-clause-listed : goal.returns-clause-listed
returns-clause-listed c p least greatest ranks checked k cell tree place listed =
    let order = c.preference_is_a_strict_total_order.ensures in
    let found =
    tree_listed p (order.irreflexive p) (order.transitive p)
    (orderly_checked p least greatest ranks checked
    (c.scores_are_not_negative.ensures p checked.well_formed checked.algebra_known)
    (c.alternatives_fit.ensures.rule p.grammar) (c.alternatives_fit.ensures.sign p.grammar checked.well_formed))
    k (λ each. c.cells_have_first_trees.ensures p least greatest ranks checked each k) cell tree place listed in
    (found.0, found.1)

pub returns-clause-few : goal.returns-clause-few
returns-clause-few c p least greatest ranks checked k cell tree place listed entry is =
    let order = c.preference_is_a_strict_total_order.ensures in
    let found =
    tree_listed p (order.irreflexive p) (order.transitive p)
    (orderly_checked p least greatest ranks checked
    (c.scores_are_not_negative.ensures p checked.well_formed checked.algebra_known)
    (c.alternatives_fit.ensures.rule p.grammar) (c.alternatives_fit.ensures.sign p.grammar checked.well_formed))
    k (λ each. c.cells_have_first_trees.ensures p least greatest ranks checked each k) cell tree place listed in
    subst (λ (e : Entry). choices_up_to e.ranks ≤ k) (c.entries_order_trees.ensures.one p k tree found.0 entry found.1 is)
    found.2
