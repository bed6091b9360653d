use Rattle.std.proofs.Common.{arith}
use Rattle.std.proofs.lemmas.Bool.{ltb-true, lt-ltb, leb-true, le-leb}
use Rattle.cell_layouts.proofs.layout.Layout.counts.Goals as goal

pub returns-then-ends-cell : goal.returns-then-ends-cell
returns-then-ends-cell c =
    let is = c.ends-ends.ensures.ends c.args.cell.to in
    (λ low. is.1 (c.if-ends-cell.true, ltb-true _ _ low), λ counted. lt-ltb _ _ (is.0 counted).1)

pub returns-else-ends-cell : goal.returns-else-ends-cell
returns-else-ends-cell c =
    let is = c.ends-ends.ensures.ends c.args.cell.to in
    (λ from. absurd (omega (arith, leb-true _ _ from, c.if-ends-cell.false)), λ counted. le-leb _ _ (is.0 counted).0)
