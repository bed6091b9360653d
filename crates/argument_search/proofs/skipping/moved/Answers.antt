use Rattle.std.proofs.Common.{arith}
use Rattle.argument_search.proofs.ViableCuts.{index_set}
use Rattle.argument_search.proofs.skipping.moved.Goals as goal

pub returns-clause-there : goal.returns-clause-there
returns-clause-there c =
    index_set c.loop-number.moved c.args.first c.args.position
    (let few = c.requires in let size = c.loop-number.invariant.size in omega arith)
