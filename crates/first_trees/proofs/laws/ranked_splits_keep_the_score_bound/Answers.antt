use Rattle.first_trees.proofs.Ranked.{splits_are_bounded}
use Rattle.first_trees.proofs.laws.ranked_splits_keep_the_score_bound.Goals as goal

pub returns : goal.returns
returns c p least greatest ranks checked letters number bound k cell span =
    splits_are_bounded p (c.children_are_placed.ensures p checked.well_formed)
    (c.derived_lengths_are_within_sizes.ensures.within p least greatest ranks checked) k cell span
    (c.alternatives_fit.ensures.arguments p.grammar checked.well_formed cell.rule)
    (c.arguments_are_few_and_known.ensures.few p.grammar checked.well_formed cell.rule) number
    (c.words_keep_their_score_bound.ensures.magnitude p least greatest ranks checked letters number bound cell)
