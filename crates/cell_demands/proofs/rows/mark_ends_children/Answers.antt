use Rattle.std.proofs.Common.{◌≡◌, ◌<◌, ◌≤◌, ℕ, length, get_or, ap, subst, ◌∙◌, arith}
use Rattle.adp_model.specs.PosedProblem.{PosedProblem}
use Rattle.adp_model.specs.ProblemFields.{IsAdmissible}
use Rattle.adp_model.specs.Parts.{alternative_at, alternatives_of, arguments_of}
use Rattle.split_lines.specs.Kept.{HasLengths}
use Rattle.cell_demands.specs.Rows.{AreMarkedInRows, DemandsOfLengths}
use Rattle.cell_demands.proofs.Splitting.{child_of_demands}
use Rattle.cell_demands.proofs.RowLengths.{IsChildByFirst, all_of_row, demands_of_lengths, one_more_of_row}
use Rattle.cell_demands.proofs.RowMarks.{rows_none}
use Rattle.cell_demands.proofs.rows.mark_ends_children.Goals as goal
use Rattle.cell_demands.proofs.rows.mark_ends_children.Goals.{After-alternatives-kept, After-index-kept-number}

admissible : (c : After-alternatives-kept) → IsAdmissible c.args.lines.now
admissible c = let A : PosedProblem → Type 0 = IsAdmissible in subst A c.problem-problem.ensures c.admissible.ensures

few : (c : After-alternatives-kept) (alternative : ℕ) → length (arguments_of c.args.lines.now.grammar c.args.rule alternative) ≤ 4
few c = c.arguments_are_few_and_known.ensures.few c.args.lines.now.grammar (admissible c).checked.well_formed c.args.rule

short : (c : After-alternatives-kept) → length c.args.lines.now.word ≤ 4000
short c = (admissible c).limits.letters

pub loop-number-init : goal.loop-number-init
loop-number-init c = record {
  bits = c.requires.bits.1;
  marked = rows_none c.args.marks.now (IsChildByFirst c.args.lines.now c.args.rule c.args.from c.args.ends.now 0)
      (λ child (to, bit, (alternative, l, demands)). omega (arith, l));
}

-- the arguments of the alternative, and the lengths that it allows
arguments : (c : After-index-kept-number) (p : PosedProblem) → c.problem-problem.result.now ≡ p → c.arguments.result.now ≡ arguments_of p.grammar c.args.rule c.loop-number.number
arguments c p same = c.arguments.ensures.arguments ∙ ap (λ (it : PosedProblem). arguments_of it.grammar c.args.rule c.loop-number.number) same

lengths : (c : After-index-kept-number) → c.loop-number.number < length c.alternatives-kept.result.now
    → HasLengths (alternative_at c.args.lines.now.grammar c.args.rule c.loop-number.number)
    (get_or c.alternatives-kept.result.now c.loop-number.number c.index-kept-number.result).lengths
lengths c within = (c.alternatives-kept.ensures.are c.loop-number.number c.index-kept-number.result within).lengths

pub mark_row_by-requires-clause-counted : goal.mark_row_by-requires-clause-counted
mark_row_by-requires-clause-counted c = λ child by.
    let at = goal.at.mark_row_by-requires-clause-counted c in
    let kept = at.After-alternatives-kept in
    let p = c.args.lines.now in
    let number = c.loop-number.number in
    let its = (get_or c.alternatives-kept.result.now number c.index-kept-number.result).lengths in
    let same = arguments at.After-index-kept-number p c.problem-problem.ensures in
    let there = demands_of_lengths p c.args.rule c.args.from c.args.ends.now number its (short kept)
    (lengths at.After-index-kept-number c.loop-number-test.true) child
    (subst (λ xs. DemandsOfLengths p xs its c.args.from c.args.ends.now child) same by) in
    c.requires.counted child (
      there.0,
      there.1,
      child_of_demands p (record { rule = c.args.rule; from = c.args.from; to = there.0 }) number child
          (omega (arith, c.loop-number-test.true, c.alternatives-kept.ensures.each)) (few kept number) there.2,
    )

pub loop-number-preserved : goal.loop-number-preserved
loop-number-preserved c =
    let at = goal.at.loop-number-preserved c in
    let kept = at.After-alternatives-kept in
    let p = c.args.lines.now in
    let number = c.loop-number.number in
    let its = (get_or c.alternatives-kept.result.now number c.index-kept-number.result).lengths in
    let same = arguments at.After-index-kept-number p c.problem-problem.ensures in
    record {
      bits = c.mark_row_by.ensures.bits;
      marked = one_more_of_row p c.args.rule c.args.from c.args.ends.now number its (short kept)
          (lengths at.After-index-kept-number c.loop-number-test.true)
          c.args.marks.now c.loop-number.marks c.mark_row_by.new.marks c.loop-number.invariant.marked
          (subst (λ xs. AreMarkedInRows c.loop-number.marks c.mark_row_by.new.marks (DemandsOfLengths p xs its c.args.from c.args.ends.now)) same
          c.mark_row_by.ensures.marked);
    }

pub returns-clause-marked : goal.returns-clause-marked
returns-clause-marked c =
    let at = (goal.at.returns-clause-marked c).After-alternatives-kept in
    let p = c.args.lines.now in
    let whole : c.loop-number.number ≡ length (alternatives_of p.grammar c.args.rule) = omega (arith, at.alternatives-kept.ensures.each, c.loop-number-test.false, c.loop-number.auto) in
    let M : ℕ → Type 0 = λ count. AreMarkedInRows c.args.marks.now c.loop-number.marks (IsChildByFirst p c.args.rule c.args.from c.args.ends.now count) in
    all_of_row p c.args.rule c.args.from c.args.ends.now (few at) c.args.marks.now c.loop-number.marks (subst M whole c.loop-number.invariant.marked)
