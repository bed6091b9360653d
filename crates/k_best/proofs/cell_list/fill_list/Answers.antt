use Rattle.std.proofs.Common.{◌≡◌, length, ap, subst, ◌∙◌, arith, ⊎_elim}
use Rattle.std.proofs.lemmas.Bool.{cases_lt}
use Rattle.adp_model.specs.PosedProblem.{PosedProblem}
use Rattle.adp_model.specs.ProblemFields.{IsAdmissible}
use Rattle.adp_model.specs.Parts.{alternatives_of}
use Rattle.k_best.proofs.cell_list.fill_list.Goals as goal

pub loop-alt-preserved : goal.loop-alt-preserved
loop-alt-preserved c = record {
  listing = c.in_ok-meet_alternative.ensures.listing;
  met = λ entry is less. ⊎_elim
      (λ before. c.in_ok-meet_alternative.ensures.kept entry (c.loop-alt.invariant.met entry is before))
      (λ here. c.in_ok-meet_alternative.ensures.met entry is (omega (arith, less, here)))
      (cases_lt entry.choice.alt c.loop-alt.alt);
}

pub returns : goal.returns
returns c =
    let p = c.args.lines.now in
    let known = subst IsAdmissible c.problem-problem.ensures c.admissible.ensures in
    let many : length c.alternatives.result.now ≡ length (alternatives_of p.grammar c.args.cell.rule) =
    ap length (c.alternatives.ensures.alternatives
    ∙ ap (λ (q : PosedProblem). alternatives_of q.grammar c.args.cell.rule) c.problem-problem.ensures) in
    (c.lists_are_the_first_ranked_splits.ensures.list p known.least known.greatest known.ranks known.checked c.args.k c.args.cell
    c.requires.span c.loop-alt.listed.items).1
    (record {
      few = c.loop-alt.invariant.listing.few;
      hold = c.loop-alt.invariant.listing.hold;
      in_order = c.loop-alt.invariant.listing.in_order;
      others = λ entry is. c.loop-alt.invariant.met entry is
          (omega (arith, is.viable.in_range, c.loop-alt-test.false, many));
    })
