use Rattle.std.proofs.Common.{ℕ, IfOk, subst}
use Rattle.adp_model.specs.PosedProblem.{PosedProblem}
use Rattle.first_trees.specs.ListReport.{IsListReport}
use Rattle.k_best.proofs.reports.listed_report.Goals as goal

pub returns : goal.returns
returns c =
    subst (λ (p : PosedProblem). IfOk c.list_report.result (λ report. IsListReport c.args.number p c.args.k report.items))
    c.problem-problem.ensures
    (subst (λ (k : ℕ). IfOk c.list_report.result (λ report. IsListReport c.args.number c.problem-problem.result.now k report.items))
    c.in_ok-lists.ensures.k c.list_report.ensures)
