use Rattle.std.proofs.Common.{◌≡◌, ℕ, ◌∙◌, arith, subst}
use Rattle.adp_model.specs.PosedProblem.{PosedProblem}
use Rattle.first_trees.specs.ListReport.{IsListReport}
use Rattle.k_best.proofs.reports.report_by_scores.Goals as goal

pub returns : goal.returns
returns c =
    let one : 1 ≡ c.args.k = omega arith in
    subst (λ (k : ℕ). IsListReport c.args.number c.args.solved.now k c.in_ok-report.report.items) one
    (subst (λ (p : PosedProblem). IsListReport c.args.number p 1 c.in_ok-report.report.items)
    (c.problem-problem.ensures ∙ c.prepared.ensures) c.in_ok-report.ensures)
