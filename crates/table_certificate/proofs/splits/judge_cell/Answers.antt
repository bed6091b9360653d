use Rattle.std.proofs.Common.{◌≡◌, length, ap, subst, ◌∙◌, arith}
use Rattle.adp_model.specs.declared.grammar.Goal.{Goal}
use Rattle.adp_model.specs.PosedProblem.{PosedProblem}
use Rattle.adp_model.specs.Parts.{algebra_of, alternatives_of}
use Rattle.table_certificate.specs.Claims.{claimed}
use Rattle.table_certificate.specs.SplitVerdicts.{HasVerdictBy, IsBetterOf, IsJudged}
use Rattle.table_certificate.proofs.AlternativeVerdicts.{all_verdicts}
use Rattle.table_certificate.proofs.Judging.{among_more}
use Rattle.table_certificate.proofs.splits.judge_cell.Goals as goal

pub loop-alt-preserved : goal.loop-alt-preserved
loop-alt-preserved c =
    let p = c.args.lines.now in
    let said = claimed c.args.claims.now in
    let judged = subst (λ r. IsJudged (algebra_of p).goal (HasVerdictBy p said c.args.cell c.loop-alt.alt) r) c.in-Some.is c.judge_alternative.ensures in
    let goal_is : c.goal-goal.result ≡ (algebra_of p).goal = c.goal-goal.ensures ∙ ap (λ (q : PosedProblem). (algebra_of q).goal) c.problem-problem.ensures in
    among_more (algebra_of p).goal (HasVerdictBy p said c.args.cell) 0 c.loop-alt.alt c.loop-alt.best c.in-Some.other c.better-best.result (omega arith) c.loop-alt.invariant judged
    (subst (λ (g : Goal). IsBetterOf g c.loop-alt.best c.in-Some.other c.better-best.result) goal_is c.better-best.ensures)

pub returns : goal.returns
returns c =
    let p = c.args.lines.now in
    let are = c.alternatives-alt-end.ensures.alternatives ∙ ap (λ (q : PosedProblem). alternatives_of q.grammar c.args.cell.rule) c.problem-problem.ensures in
    let count : c.loop-alt.alt ≡ length (alternatives_of p.grammar c.args.cell.rule) = omega (arith, ap length are, c.loop-alt-test.false, c.loop-alt.auto.alt-end) in
    all_verdicts p (claimed c.args.claims.now) c.args.cell (algebra_of p).goal c.loop-alt.alt count c.loop-alt.best c.loop-alt.invariant
