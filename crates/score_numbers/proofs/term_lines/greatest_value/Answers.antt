use Rattle.std.proofs.Common.{map, arith}
use Rattle.score_numbers.proofs.TermChunks.{all_lanes, lane_more, none_before}
use Rattle.score_numbers.proofs.term_lines.greatest_value.Goals as goal

pub loop-number-init : goal.loop-number-init
loop-number-init g c = none_before g.N.Number.width c.args.line.now c.args.positions (map g.N.Number.value c.args.before.now) (map g.N.Number.value c.args.behind.now)

pub loop-number-preserved : goal.loop-number-preserved
loop-number-preserved g c =
    lane_more g.N.Number.width c.args.line.now c.args.positions (map g.N.Number.value c.args.before.now) (map g.N.Number.value c.args.behind.now) c.loop-number.number
    c.loop-number.greatest c.greatest_from-here.result c.greater-greatest.result c.loop-number.invariant c.greatest_from-here.ensures c.greater-greatest.ensures

pub returns : goal.returns
returns g c =
    let end = c.loop-number.auto.number-end in
    all_lanes g.N.Number.width c.args.line.now c.args.positions (map g.N.Number.value c.args.before.now) (map g.N.Number.value c.args.behind.now) c.loop-number.number c.loop-number.greatest
    (omega (arith, end, c.loop-number-test.false, c.div_ceil-number-end.ensures)) c.loop-number.invariant
