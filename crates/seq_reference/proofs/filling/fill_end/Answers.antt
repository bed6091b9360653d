use Rattle.std.proofs.Common.{◌-◌, sym, ◌∙◌, arith}
use Rattle.std.proofs.lemmas.Bool.{false≢true}
use Rattle.seq_reference.proofs.Fills.{no_start_filled, shorter_filled, span_filled, unmarked_filled, end_filled}
use Rattle.seq_reference.proofs.filling.fill_end.Goals as goal

pub loop-from-init : goal.loop-from-init
loop-from-init c = no_start_filled c.args.lines.now c.args.first c.args.past c.args.to c.args.scores.now c.requires.filled

pub fill_span-requires-clause-filled : goal.fill_span-requires-clause-filled
fill_span-requires-clause-filled c =
    let from = c.loop-from.from - 1 in
    shorter_filled c.args.lines.now c.args.first c.args.past c.args.to c.loop-from.scores from c.loop-from.from (omega arith) (omega arith) c.loop-from.invariant

pub loop-from-preserved-then-not-has_start : goal.loop-from-preserved-then-not-has_start
loop-from-preserved-then-not-has_start c =
    let from = c.loop-from.from - 1 in
    unmarked_filled c.args.lines.now c.args.first c.args.past c.args.to c.loop-from.scores from c.loop-from.from (omega arith) c.loop-from.invariant
    (λ cell at demanded. false≢true (sym c.if-not-has_start.true ∙ c.has_start.ensures.1 (cell, at, (c.requires.marked cell).1 demanded)))

pub loop-from-preserved : goal.loop-from-preserved
loop-from-preserved c =
    let from = c.loop-from.from - 1 in
    span_filled c.args.lines.now c.args.first c.args.past c.args.to c.loop-from.scores c.fill_span.new.scores from c.loop-from.from (omega arith) c.loop-from.invariant c.fill_span.ensures.kept c.fill_span.ensures.filled

pub returns : goal.returns
returns c = end_filled c.args.lines.now c.args.first c.args.past c.args.to c.loop-from.scores c.loop-from.from c.loop-from-test.false c.loop-from.invariant
