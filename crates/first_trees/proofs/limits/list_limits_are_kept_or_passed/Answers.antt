use Rattle.first_trees.proofs.LimitsKept.{asked_for, kept_not_passed, one_fault}
use Rattle.first_trees.proofs.limits.list_limits_are_kept_or_passed.Goals as goal

pub returns-clause-kept : goal.returns-clause-kept
returns-clause-kept c grammar algebra least greatest ranks checked len k fault =
    kept_not_passed grammar len k (c.places_are_unique.ensures.bound grammar len)
    (c.words_have_one_bound.ensures.one_node grammar algebra least greatest ranks checked len) fault

pub returns-clause-one : goal.returns-clause-one
returns-clause-one c grammar algebra least greatest ranks checked len k a b =
    one_fault grammar len k (c.places_are_unique.ensures.bound grammar len)
    (c.words_have_one_bound.ensures.one_node grammar algebra least greatest ranks checked len) a b

pub returns-clause-some : goal.returns-clause-some
returns-clause-some c = asked_for
