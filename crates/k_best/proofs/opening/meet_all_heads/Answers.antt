use Rattle.std.proofs.Common.{◌≡◌, length, ap, subst, ◌∙◌, arith, ⊎_elim}
use Rattle.std.proofs.lemmas.Bool.{cases_lt}
use Rattle.adp_model.specs.PosedProblem.{IsSpan, PosedProblem}
use Rattle.adp_model.specs.ProblemFields.{IsAdmissible}
use Rattle.adp_model.specs.Parts.{algebra_of, alternatives_of}
use Rattle.k_best.specs.GrowingLists.{no_ranks}
use Rattle.k_best.proofs.Grows.{begun_growing}
use Rattle.k_best.proofs.opening.meet_all_heads.Goals as goal

pub meet_heads-requires-clause-span : goal.meet_heads-requires-clause-span
meet_heads-requires-clause-span c =
    let p = c.args.basis.now.lines.now in
    let keeps = subst IsAdmissible c.problem-problem.ensures c.admissible.ensures in
    let counted = c.demanded_cells_are_counted.ensures p keeps.checked.well_formed c.args.cell c.requires.demanded in
    record { in_order = counted.in_order; in_word = counted.in_word }

pub loop-alt-preserved : goal.loop-alt-preserved
loop-alt-preserved c = record {
  listing = c.in_ok-meet_heads.ensures.listing;
  met = λ entry is less. ⊎_elim
      (λ before. c.in_ok-meet_heads.ensures.kept entry (c.loop-alt.invariant.met entry is before))
      (λ here. c.in_ok-meet_heads.ensures.met c.if-not-branch.false entry is (omega (arith, less, here)))
      (cases_lt entry.choice.alt c.loop-alt.alt);
}

pub returns : goal.returns
returns c is_known =
    let p = c.args.basis.now.lines.now in
    let k = c.args.basis.now.k in
    let cell = c.args.cell in
    let keeps = subst IsAdmissible c.problem-problem.ensures c.admissible.ensures in
    let counted = c.demanded_cells_are_counted.ensures p keeps.checked.well_formed cell c.requires.demanded in
    let span : IsSpan p.word cell.from cell.to = record { in_order = counted.in_order; in_word = counted.in_word } in
    let many : length c.alternatives.result.now ≡ length (alternatives_of p.grammar cell.rule) =
    ap length (c.alternatives.ensures.alternatives
    ∙ ap (λ (q : PosedProblem). alternatives_of q.grammar cell.rule) c.problem-problem.ensures) in
    begun_growing p k cell (c.entries_are_in_strict_order.ensures.irreflexive (algebra_of p).goal)
    (c.entries_are_in_strict_order.ensures.transitive (algebra_of p).goal)
    (c.lower_ranks_come_first.ensures p keeps.least keeps.greatest keeps.ranks keeps.checked k cell span)
    no_ranks c.loop-alt.found.items c.loop-alt.invariant.listing
    (λ entry is. c.loop-alt.invariant.met entry is (omega (arith, is.viable.in_range, c.loop-alt-test.false, many)))
