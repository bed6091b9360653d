use Rattle.std.proofs.Common.{◌≡◌, ◌+◌, ◌<◌, ◌≤◌, ℕ, List, length, sym, ap, subst, ◌∙◌, arith}
use Rattle.adp_model.specs.PosedProblem.{PosedProblem}
use Rattle.adp_model.specs.Splits.{FitsSpan}
use Rattle.viable_splits.specs.Placing.{AreEnds, on_span}
use Rattle.cell_demands.specs.PlaceBits.{HaveBitsToo}
use Rattle.cell_demands.specs.Rows.{IsAmong, IsReachedBy}
use Rattle.cell_demands.proofs.RowMarks.{IsBefore, begins_nowhere, bits_like, bits_none, none_first, reached_more, reached_past}
use Rattle.cell_demands.proofs.rows.reach.Goals as goal
use Rattle.cell_demands.proofs.rows.reach.Goals.{After-argument_ends-ends, then-ends, else-ends}

-- where the argument may end in the word
ends_of : (c : After-argument_ends-ends) → AreEnds c.args.lines.now c.args.argument.now c.loop-from.from (length c.args.lines.now.word) c.argument_ends-ends.result
ends_of c =
    let whole : length c.letters-last.result.now ≡ length c.args.lines.now.word = ap length c.letters-last.ensures.word ∙ ap (λ (p : PosedProblem). length p.word) c.problem.ensures in
    subst (λ last. AreEnds c.args.lines.now c.args.argument.now c.loop-from.from last c.argument_ends-ends.result) whole c.argument_ends-ends.ensures

pub loop-from-init : goal.loop-from-init
loop-from-init c =
    let p = c.args.lines.now in
    let argument = c.args.argument.now in
    let reached = c.args.reached in
    let next = c.next_begun-from in
    let nowhere = begins_nowhere (λ bits. bits.now) p argument reached reached.first next.result c.begins-begins.result c.begins-begins.ensures.begun next.ensures.none_before in
    record {
      from_first = next.ensures.from_first;
      within = next.ensures.within;
      set = next.ensures.set;
      ends = bits_none c.args.next.now (IsReachedBy p argument (IsBefore reached next.result))
          (λ end (at, before, fits). none_first reached p argument next.result nowhere at end before fits);
    }

pub loop-from-preserved : goal.loop-from-preserved
loop-from-preserved c =
    let at = (goal.at.loop-from-preserved c).After-argument_ends-ends in
    let p = c.args.lines.now in
    let argument = c.args.argument.now in
    let reached = c.args.reached in
    let from = c.loop-from.from in
    let next = c.next_begun-from-in-loop-from in
    let nowhere = begins_nowhere (λ bits. bits.now) p argument reached (from + 1) next.result c.begins-begins.result c.begins-begins.ensures.begun next.ensures.none_before in
    let ends = c.argument_ends-ends.result in
    let are = ends_of at in
    let here : IsAmong reached from = record {
      from_first = c.loop-from.invariant.from_first;
      before = omega (arith, c.loop-from-test.true);
      bit = c.loop-from.invariant.set (omega (arith, c.loop-from-test.true));
    } in
    let L : List ℕ → Type 0 = λ bits. HaveBitsToo c.args.next.now bits (IsReachedBy p argument (IsBefore reached next.result)) in
    record {
      from_first = omega (arith, next.ensures.from_first, c.loop-from.invariant.from_first);
      within = next.ensures.within;
      set = next.ensures.set;
      ends = elim c.if-ends.branch [
        | then-ends w ↦ subst L (sym w.next-is)
            (reached_more reached p argument from next.result here next.ensures.from_first nowhere
            c.args.next.now c.loop-from.next w.set_between.new.bits c.loop-from.invariant.ends
            (bits_like c.loop-from.next w.set_between.new.bits (λ end. (ends.start ≤ end) × (end < ends.end)) (λ end. FitsSpan p (on_span argument from end))
            (λ end range. (are.exact end (omega (arith, range, are.up_to_last))).1 range)
            (λ end fits. (are.exact end fits.0.in_word).0 fits) w.set_between.ensures))
        | else-ends w ↦ subst L (sym w.next-is)
            (reached_past reached p argument from next.result here next.ensures.from_first nowhere
            (λ end fits. let range = (are.exact end fits.0.in_word).0 fits in omega (arith, range, w.if-ends.false))
            c.args.next.now c.loop-from.next c.loop-from.invariant.ends)
      ];
    }
