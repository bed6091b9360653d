use Rattle.std.proofs.Common.{IfOk, ap, subst}
use Rattle.first_trees.specs.ListReport.{IsListReport}
use Rattle.verdicts.specs.Command.{Command}
use Rattle.adp_main.proofs.kbest.listed_report.Goals as goal

pub returns : goal.returns
returns c =
    subst (λ k. IfOk c.first_trees_report.result (λ report. IsListReport c.args.number c.args.prepared k report.items))
    (ap (λ (it : Command). it.best) c.command.view_is) c.first_trees_report.ensures
