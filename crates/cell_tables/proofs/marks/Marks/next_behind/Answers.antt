use Rattle.std.proofs.Common.{refl, arith}
use Rattle.cell_tables.proofs.SpanWalks.{span_counted, next_among, none_up_to}
use Rattle.cell_tables.proofs.marks.Marks.next_behind.Goals as goal

pub loop-number-init : goal.loop-number-init
loop-number-init c = λ to high low marked.
    let there = c.numbers-low.ensures marked.from to marked.from_first marked.before marked.marked in
    absurd (omega (arith, there.0, high, low))

pub loop-number-preserved : goal.loop-number-preserved
loop-number-preserved c =
    none_up_to c.args.self.now c.args.rules.now c.args.first c.args.past c.loop-number.number c.ends_marked.result c.args.least c.ends_marked.ensures (omega arith) c.loop-number.invariant (c.in_default.ensures.none refl)

pub returns-in-Some-clause-next : goal.returns-in-Some-clause-next
returns-in-Some-clause-next c =
    next_among c.args.self.now c.args.rules.now c.args.first c.args.past c.loop-number.number c.ends_marked.result c.args.least c.ends_marked.ensures (omega arith) c.loop-number.invariant c.in-Some.to c.in-Some.ensures.set c.in-Some.ensures.first

pub returns-clause-none : goal.returns-clause-none
returns-clause-none c = λ none to high marked.
    let there = c.numbers-low.ensures marked.from to marked.from_first marked.before marked.marked in
    let counted = span_counted c.args.self.now c.args.rules.now marked.from to c.cells.ensures marked.marked in
    c.loop-number.invariant to high (omega (arith, there.1, counted.1, c.length.ensures.same, c.loop-number-test.false)) marked
