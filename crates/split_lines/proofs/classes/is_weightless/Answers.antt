use Rattle.std.proofs.Common.{arith}
use Rattle.split_lines.proofs.ClassFacts.{total_nothing}
use Rattle.split_lines.proofs.classes.is_weightless.Goals as goal

pub returns : goal.returns
returns c = λ letters. total_nothing c.args.class.now letters (λ k d l. c.loop-weight.invariant k d (omega (arith, l, c.loop-weight-test.false)))
