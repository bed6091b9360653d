use Rattle.std.proofs.Common.{sym, subst}
use Rattle.std.proofs.lemmas.Result.{err_from_is_err_and}
use Rattle.adp_model.specs.PosedProblem.{PosedProblem}
use Rattle.evaluators.specs.Runs.{IsFinished}
use Rattle.verdicts.specs.Certificates.{IsBlockReport}
use Rattle.verdicts.specs.declared.command.Mode.TheVariants.{Cert}
use Rattle.adp_main.proofs.Running.{evaluated_word, not_written}
use Rattle.adp_main.proofs.cert.report_word.Goals as goal

pub returns-in_err-finished-clause-ending : goal.returns-in_err-finished-clause-ending
returns-in_err-finished-clause-ending g c =
    let p = err_from_is_err_and c.from_residual.result c.from_residual.ensures.1 in
    rw (p.1, p.2) (not_written _ _)

pub returns-in_err-layout-clause-ending : goal.returns-in_err-layout-clause-ending
returns-in_err-layout-clause-ending g c =
    let p = err_from_is_err_and c.from_residual-in_err-layout.result c.from_residual-in_err-layout.ensures.1 in
    rw (p.1, p.2) (not_written _ _)

pub block_report-requires : goal.block_report-requires
block_report-requires g c = (
  c.args.command.now.seed,
  subst (λ (p : PosedProblem). IsFinished p c.args.command.now.seed c.in_ok-finished.finished)
      (sym c.in_ok-layout.ensures) c.in_ok-finished.ensures.is_finished,
)

pub returns-in_err-report-clause-ending : goal.returns-in_err-report-clause-ending
returns-in_err-report-clause-ending g c =
    let p = err_from_is_err_and c.from_residual-in_err-report.result c.from_residual-in_err-report.ensures.1 in
    rw (p.1, p.2) (not_written _ _)

pub returns-clause-ending : goal.returns-clause-ending
returns-clause-ending g c =
    evaluated_word c.args.command.now Cert c.args.number c.args.problem.now c.in_ok-finished.finished
    c.in_ok-report.report.items c.deref.result.now c.requires.mode (λ e. cc) (λ e. cc) (λ e. cc)
    (subst (λ (p : PosedProblem). IsBlockReport c.args.number p c.in_ok-report.report.items) c.in_ok-layout.ensures
    c.in_ok-report.ensures) c.deref.ensures.value
    c.write_run.result _ _ _ _ c.write_run.ensures.ending
