use Rattle.faultless_grammars.proofs.Limits.{cell_bound, limits_judged}
use Rattle.faultless_grammars.proofs.laws.lengths_keep_or_pass_limits.Goals as goal

pub returns-clause-cells : goal.returns-clause-cells
returns-clause-cells c = cell_bound

pub returns-clause-limits : goal.returns-clause-limits
returns-clause-limits c = limits_judged (record {
  score = c.words_have_one_bound.ensures.score;
  node = c.words_have_one_bound.ensures.node;
})
