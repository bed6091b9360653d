use Rattle.viable_splits.proofs.EndPositions.{rule_ends_at}
use Rattle.viable_splits.proofs.ends.rule_ends.Goals as goal

pub returns : goal.returns
returns c =
    rule_ends_at c.args.problem.now c.args.rule c.args.from c.args.last c.sizes-least.result.0 c.last_end.result c.sizes-least.result.1 c.requires.span c.sizes-least.ensures c.last_end.ensures.within c.last_end.ensures.exact
