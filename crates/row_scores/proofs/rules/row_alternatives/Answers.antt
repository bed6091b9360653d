use Rattle.std.proofs.Common.{◌≡◌, ◌+◌, ◌<◌, ◌≤◌, length, sym, ap, subst, refl, ◌∙◌, arith}
use Rattle.adp_model.specs.PosedProblem.{PosedProblem}
use Rattle.adp_model.specs.Parts.{alternatives_of, arguments_of}
use Rattle.split_lines.specs.Kept.{IsAlternative}
use Rattle.row_scores.specs.RowRules.{AreRowAlternatives}
use Rattle.row_scores.proofs.RuleLists.{is_row_alternative, one_more}
use Rattle.row_scores.proofs.rules.row_alternatives.Goals as goal

pub overflow_cast-number : goal.overflow_cast-number
overflow_cast-number c =
    let few = subst (λ (p : PosedProblem). length (alternatives_of p.grammar c.args.rule) ≤ 64) c.problem-problem.ensures
    (c.alternatives_fit.ensures.few c.problem-problem.result.now.grammar c.admissible.ensures.checked.well_formed c.args.rule) in
    let l = c.loop-number-test.true in
    omega (arith, few, l, c.alternatives-kept.ensures.each)

pub loop-number-preserved : goal.loop-number-preserved
loop-number-preserved c =
    let p = c.args.lines.now in
    let number = c.loop-number.number in
    let kept = c.index-kept-number.result in
    let there : number < length c.alternatives-kept.result.now = c.loop-number-test.true in
    let is : IsAlternative p c.args.rule number kept =
    subst (IsAlternative p c.args.rule number) (sym c.index-kept-number.is) (c.alternatives-kept.ensures.are number kept there) in
    let arguments : c.arguments.result.now ≡ arguments_of p.grammar c.args.rule number =
    c.arguments.ensures.arguments ∙ ap (λ (q : PosedProblem). arguments_of q.grammar c.args.rule number) c.problem-problem.ensures in
    subst (AreRowAlternatives p c.args.rule (number + 1)) (sym c.in_ok-push.ensures.items)
    (one_more p c.args.rule number c.loop-number.alternatives.items _ c.loop-number.invariant
    (is_row_alternative p c.args.rule number kept c.in-Some.sum _ is c.in-Some.ensures (omega (arith, there, c.alternatives-kept.ensures.each))
    arguments refl refl))
