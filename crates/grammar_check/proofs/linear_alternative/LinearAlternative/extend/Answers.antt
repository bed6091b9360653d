use Rattle.std.proofs.Common.{arith}
use Rattle.grammar_check.proofs.linear_alternative.LinearAlternative.extend.Goals as goal

pub returns-then-len-eq1-clause-spread : goal.returns-then-len-eq1-clause-spread
returns-then-len-eq1-clause-spread c = λ bound reads spreads. record {
  rows = λ place column inside less. absurd (omega (arith, c.args.self.now.parts.ok.0, c.if-len-eq1.true, c.len.ensures));
}
