use Rattle.std.proofs.Common.{arith}
use Rattle.std.proofs.lemmas.List.Elements.{Contains-get_or}
use Rattle.cell_answers.proofs.Greatest.{before_more}
use Rattle.cell_answers.proofs.FrontPositions.{Through, all_through}
use Rattle.cell_answers.proofs.along.greatest_valued.Goals as goal

pub total_through-total-requires-clause-stands : goal.total_through-total-requires-clause-stands
total_through-total-requires-clause-stands c = Contains-get_or c.args.line.now.boundary.positions.now c.loop-position.position-index 0 c.loop-position-test.true

pub loop-position-preserved : goal.loop-position-preserved
loop-position-preserved c =
    before_more (Through c.args.lines.now c.args.line.now c.requires.opened) c.loop-position.position-index
    c.loop-position.greatest c.loop-position.invariant c.total_through-total.result c.greater-greatest.result
    c.total_through-total.ensures.greatest c.greater-greatest.ensures

pub returns : goal.returns
returns c =
    all_through c.args.lines.now c.args.line.now c.requires.opened c.loop-position.position-index
    c.loop-position.greatest (omega (arith, c.loop-position-test.false))
    (omega (arith, c.loop-position.auto.position-index-end)) c.loop-position.invariant
