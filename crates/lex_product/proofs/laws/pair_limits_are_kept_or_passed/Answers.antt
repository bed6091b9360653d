use Rattle.lex_product.proofs.PairLimits.{LimitLaws, pair_kept, pair_one, compilable, admissible}
use Rattle.lex_product.proofs.laws.pair_limits_are_kept_or_passed.Goals as goal

laws : (c : goal.After-words_have_one_bound) → LimitLaws
laws c = record {
  second = c.pairs_pass_the_checks.ensures.second;
  compiled = c.pairs_pass_the_checks.ensures.compiled;
  kept = c.limits_are_kept_or_passed.ensures.kept;
  one = c.limits_are_kept_or_passed.ensures.one;
  one_score = c.words_have_one_bound.ensures.one_score;
}

pub returns-clause-kept : goal.returns-clause-kept
returns-clause-kept c = pair_kept (laws c)

pub returns-clause-one : goal.returns-clause-one
returns-clause-one c = pair_one (laws c)

pub returns-clause-compilable : goal.returns-clause-compilable
returns-clause-compilable c = compilable (laws c)

pub returns-clause-admissible : goal.returns-clause-admissible
returns-clause-admissible c = admissible (laws c)
