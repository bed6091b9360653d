use Rattle.std.proofs.Common.{IfOk, IfSome, subst, ◌∙◌}
use Rattle.adp_model.specs.PosedProblem.{PosedProblem}
use Rattle.first_trees.specs.ListReport.{IsListReport}
use Rattle.k_best.proofs.grown_report.grown_report.Goals as goal

pub returns : goal.returns
returns c =
    subst (λ (q : PosedProblem). IfOk c.report_from.result (λ report. IfSome report (λ report. IsListReport c.args.number q c.args.k report.items)))
    (c.lines-lines.ensures ∙ c.prepared-prepared.ensures) c.report_from.ensures
