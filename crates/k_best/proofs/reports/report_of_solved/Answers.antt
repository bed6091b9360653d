use Rattle.std.proofs.Common.{IfOk, subst}
use Rattle.adp_model.specs.PosedProblem.{PosedProblem}
use Rattle.first_trees.specs.ListReport.{IsListReport}
use Rattle.k_best.proofs.reports.report_of_solved.Goals as goal

pub returns : goal.returns
returns c =
    subst (λ (p : PosedProblem). IfOk c.listed_report.result (λ report. IsListReport c.args.number p c.args.k report.items))
    c.prepared.ensures c.listed_report.ensures
