use Rattle.std.proofs.Common.{ℕ, ◌<◌, ◌≤◌, length, sym, subst, arith}
use Rattle.adp_model.specs.PosedProblem.{PosedProblem}
use Rattle.adp_model.specs.Cells.{IsCounted}
use Rattle.adp_model.specs.Splits.{FitsSpan}
use Rattle.viable_splits.specs.Placing.{on_span}
use Rattle.cell_tables.specs.Bits.{IsBitOf}
use Rattle.cell_demands.proofs.RunEnds.{after_run, demanded_run}
use Rattle.cell_demands.proofs.runs.mark_run.Goals as goal

pub mark_ends-is_laid-requires-clause-counted : goal.mark_ends-is_laid-requires-clause-counted
mark_ends-is_laid-requires-clause-counted c = λ cell end bit is.
    let p = c.args.lines.now in
    let C : PosedProblem → Type 0 = λ q. IsCounted q.grammar (length q.word) cell in
    let fit : (end : ℕ) → c.args.first ≤ end → end < c.args.past
    → FitsSpan p (on_span c.args.argument.now c.args.from end) = c.requires.fit in
    let told = c.in-Some.ensures p c.args.marks.now c.requires.owner c.requires.noted in
    let laid = c.deref-in-Some.result.now in
    let within : IsBitOf laid c.args.first c.args.past end = record {
      from_first = bit.from_first;
      before = omega (arith, bit.before, c.first_clear-stop.ensures.within);
      bit = bit.bit;
    } in
    subst C (sym c.requires.same_problem)
    (c.requires.counted cell
    (demanded_run p c.args.marks.now c.args.argument.now c.args.others.now c.args.from c.args.to c.args.first
    c.args.past c.in-Some.notes.now told fit laid c.deref-in-Some.ensures.value cell end within is))

pub returns-in-Some : goal.returns-in-Some
returns-in-Some c =
    let p = c.args.lines.now in
    let stop = c.first_clear-stop.ensures in
    let told = c.in-Some.ensures p c.args.marks.now c.requires.owner c.requires.noted in
    let run = after_run p c.args.marks.now c.args.argument.now c.args.others.now c.args.from c.args.to c.args.first
    c.first_clear-stop.result c.in-Some.notes.now told
    (λ end l m. c.requires.fit end l (omega (arith, m, stop.within)))
    c.deref-in-Some.result.now c.deref-in-Some.ensures.value c.deref.result.now c.deref.ensures.value stop.set_before
    c.mark_ends-is_laid.result c.mark_ends-is_laid.ensures.some c.args.begin c.mark_ends-is_laid.new.marks
    c.if-begin-first.true c.mark_ends-is_laid.ensures.marked c.mark_ends-is_laid.ensures.in_row in
    record { from_first = stop.from_first; laid = run.0; marked = run.1 }
