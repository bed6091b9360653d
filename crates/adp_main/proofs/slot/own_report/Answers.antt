use Rattle.std.proofs.Common.{None, sym, subst}
use Rattle.std.proofs.lemmas.Bool.{MatchBool-at_false}
use Rattle.std.proofs.lemmas.Result.{IfOk-weaker}
use Rattle.adp_model.specs.PosedProblem.{PosedProblem}
use Rattle.adp_model.specs.Report.{IsReport}
use Rattle.evaluators.specs.Runs.{IsFinished}
use Rattle.verdicts.specs.declared.command.Mode.{Mode}
use Rattle.verdicts.specs.Verdict.{IsReportWith}
use Rattle.adp_main.proofs.FirstWords.{best_or_cert}
use Rattle.adp_main.proofs.slot.own_report.Goals as goal

pub returns-else-certifies : goal.returns-else-certifies
returns-else-certifies c =
    let command = c.args.command.now in
    let best = best_or_cert command.mode c.requires.mode c.requires.single
    (MatchBool-at_false _ _ c.if-certifies.false c.certifies.ensures) in
    IfOk-weaker c.plain_report.result _ _ (λ report is.
    subst (λ (mode : Mode). IsReportWith mode command None c.args.number c.args.sharing.now c.args.finished.now.wins.items
    report.items) (sym best)
    (subst (λ (p : PosedProblem). IsReport c.args.number p report.items) c.problem.ensures is)) c.plain_report.ensures

pub plain_report-requires : goal.plain_report-requires
plain_report-requires c = (
  c.args.command.now.seed,
  subst (λ (p : PosedProblem). IsFinished p c.args.command.now.seed c.args.finished.now)
      (sym c.problem.ensures) c.requires.run.is_finished,
)

pub certified_report-requires : goal.certified_report-requires
certified_report-requires c = (c.args.command.now.seed, c.requires.run.is_finished)
