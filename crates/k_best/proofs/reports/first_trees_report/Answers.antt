use Rattle.std.proofs.Common.{IfOk, subst}
use Rattle.adp_model.specs.PosedProblem.{PosedProblem}
use Rattle.first_trees.specs.ListReport.{IsListReport}
use Rattle.k_best.proofs.reports.first_trees_report.Goals as goal

pub returns : goal.returns
returns c =
    subst (λ (p : PosedProblem). IfOk c.report_of_solved.result (λ report. IsListReport c.args.number p c.args.k report.items))
    c.in_ok-solved.ensures c.report_of_solved.ensures
