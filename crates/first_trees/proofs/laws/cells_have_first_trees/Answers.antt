use Rattle.adp_model.specs.Heights.{height_of}
use Rattle.first_trees.proofs.AllTrees.{first_trees}
use Rattle.first_trees.proofs.laws.cells_have_first_trees.Goals as goal

pub returns : goal.returns
returns c p least greatest ranks checked =
    let order = c.preference_is_a_strict_total_order.ensures in
    first_trees p (c.children_are_placed.ensures p checked.well_formed)
    (c.derived_lengths_are_within_sizes.ensures.within p least greatest ranks checked) (height_of p ranks)
    (c.heights_fall.ensures.falls p least greatest ranks checked) (order.transitive p)
    (λ cell t u. order.total p cell t u checked.well_formed)
