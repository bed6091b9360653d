use Rattle.std.proofs.Common.{arith}
use Rattle.std.proofs.lemmas.Bool.{leb-true}
use Rattle.std.proofs.lemmas.Bool.Decides.{Decides-ltb}
use Rattle.split_lines.proofs.spans.fits.Goals as goal

pub returns-then-ends-to : goal.returns-then-ends-to
returns-then-ends-to c =
    let exact = c.argument_ends-ends.ensures.exact c.args.to (omega arith) in
    let test = Decides-ltb c.args.to c.argument_ends-ends.result.end in
    (λ is. exact.1 (c.if-ends-to.true, test.0 is), λ fits. test.1 (exact.0 fits).1)

pub returns-else-ends-to : goal.returns-else-ends-to
returns-else-ends-to c =
    let exact = c.argument_ends-ends.ensures.exact c.args.to (omega arith) in (
      λ is. let low = leb-true c.argument_ends-ends.result.start c.args.to is in absurd (omega (arith, low, c.if-ends-to.false)),
      λ fits. absurd (omega (arith, c.if-ends-to.false, (exact.0 fits).0)),
    )
