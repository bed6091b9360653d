use Rattle.first_trees.proofs.Ranked.{splits_are_entries, lists_are_first_splits, entries_there, first_splits_unique}
use Rattle.first_trees.proofs.laws.lists_are_the_first_ranked_splits.Goals as goal

pub returns-clause-split : goal.returns-clause-split
returns-clause-split c p least greatest ranks checked k cell span =
    splits_are_entries p (c.children_are_placed.ensures p checked.well_formed)
    (c.derived_lengths_are_within_sizes.ensures.within p least greatest ranks checked) k cell span
    (c.alternatives_fit.ensures.arguments p.grammar checked.well_formed cell.rule)
    (c.arguments_are_few_and_known.ensures.few p.grammar checked.well_formed cell.rule)

pub returns-clause-list : goal.returns-clause-list
returns-clause-list c p least greatest ranks checked k cell span =
    let found = c.cells_have_first_trees.ensures p least greatest ranks checked cell k in
    lists_are_first_splits p k cell
    (splits_are_entries p (c.children_are_placed.ensures p checked.well_formed)
    (c.derived_lengths_are_within_sizes.ensures.within p least greatest ranks checked) k cell span
    (c.alternatives_fit.ensures.arguments p.grammar checked.well_formed cell.rule)
    (c.arguments_are_few_and_known.ensures.few p.grammar checked.well_formed cell.rule))
    (c.entries_order_trees.ensures.one p k)
    (c.entries_order_trees.ensures.order p checked.well_formed k cell) found.0 found.1
    (c.children_of_listed_trees_are_listed.ensures.listed p least greatest ranks checked k cell)

pub returns-clause-there : goal.returns-clause-there
returns-clause-there c p least greatest ranks checked k cell span =
    let found = c.cells_have_first_trees.ensures p least greatest ranks checked cell k in
    entries_there p k cell
    (splits_are_entries p (c.children_are_placed.ensures p checked.well_formed)
    (c.derived_lengths_are_within_sizes.ensures.within p least greatest ranks checked) k cell span
    (c.alternatives_fit.ensures.arguments p.grammar checked.well_formed cell.rule)
    (c.arguments_are_few_and_known.ensures.few p.grammar checked.well_formed cell.rule))
    (c.entries_order_trees.ensures.one p k)
    (c.entries_order_trees.ensures.order p checked.well_formed k cell) found.0 found.1
    (c.children_of_listed_trees_are_listed.ensures.listed p least greatest ranks checked k cell)

pub returns-clause-one : goal.returns-clause-one
returns-clause-one c = first_splits_unique
