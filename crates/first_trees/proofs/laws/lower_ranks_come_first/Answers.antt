use Rattle.first_trees.proofs.Orderly.{orderly_checked}
use Rattle.first_trees.proofs.Lowered.{entries_lowered}
use Rattle.first_trees.proofs.laws.lower_ranks_come_first.Goals as goal

pub returns : goal.returns
returns c p least greatest ranks checked k cell span first second one two choice most =
    let order = c.preference_is_a_strict_total_order.ensures in
    let split = c.lists_are_the_first_ranked_splits.ensures.split p least greatest ranks checked k cell span in
    entries_lowered p (order.irreflexive p) (order.transitive p)
    (orderly_checked p least greatest ranks checked
    (c.scores_are_not_negative.ensures p checked.well_formed checked.algebra_known)
    (c.alternatives_fit.ensures.rule p.grammar) (c.alternatives_fit.ensures.sign p.grammar checked.well_formed))
    (c.children_are_placed.ensures p checked.well_formed) k cell (c.entries_order_trees.ensures.one p k)
    (c.entries_order_trees.ensures.order p checked.well_formed k cell) first second ((split first).0 one)
    ((split second).0 two) choice most
