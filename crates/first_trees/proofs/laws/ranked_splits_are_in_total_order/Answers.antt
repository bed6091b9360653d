use Rattle.std.proofs.Common.{inl, inr, subst, ⊎_elim}
use Rattle.first_trees.specs.Entries.{IsEntry}
use Rattle.first_trees.proofs.laws.ranked_splits_are_in_total_order.Goals as goal

pub returns : goal.returns
returns c p least greatest ranks checked k cell span first second is is' =
    let split = c.lists_are_the_first_ranked_splits.ensures.split p least greatest ranks checked k cell span in
    let one = (split first).0 is in
    let two = (split second).0 is' in
    let order = c.entries_order_trees.ensures.order p checked.well_formed k cell in
    ⊎_elim
    (λ same. inl (c.entries_order_trees.ensures.one p k two.0 first second (subst (λ tree. IsEntry p k tree first) same one.2) two.2))
    (λ apart. inr (⊎_elim
    (λ before. inl ((order one.0 two.0 first second one.1 two.1 one.2 two.2).0 before))
    (λ behind. inr ((order two.0 one.0 second first two.1 one.1 two.2 one.2).0 behind)) apart))
    (c.preference_is_a_strict_total_order.ensures.total p cell one.0 two.0 checked.well_formed one.1 two.1)
