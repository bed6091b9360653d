use Rattle.std.proofs.Common.{arith}
use Rattle.k_best.proofs.filling.fill_all.Goals as goal

pub returns : goal.returns
returns c = record {
  laid = c.loop-from.invariant.listed.laid;
  lists = λ cell demanded _. c.loop-from.invariant.listed.lists cell demanded (omega (arith, c.loop-from-test.false));
}
