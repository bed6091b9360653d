use Rattle.std.proofs.Common.{inl}
use Rattle.std.proofs.lemmas.Result.{err_from_is_err_and}
use Rattle.verdicts.specs.declared.command.Mode.TheVariants.{Serial}
use Rattle.adp_main.proofs.Running.{in_mode, not_written, swept_word}
use Rattle.adp_main.proofs.serial.report_word.Goals as goal

pub returns-in_err-report-clause-ending : goal.returns-in_err-report-clause-ending
returns-in_err-report-clause-ending g c =
    let p = err_from_is_err_and c.from_residual-in_err-report.result c.from_residual-in_err-report.ensures.1 in
    rw (p.1, p.2) (λ command runs serial. not_written runs _)

pub returns-in_err-prepared-clause-ending : goal.returns-in_err-prepared-clause-ending
returns-in_err-prepared-clause-ending g c =
    let p = err_from_is_err_and c.from_residual.result c.from_residual.ensures.1 in
    rw (p.1, p.2) (λ command runs serial. not_written runs _)

pub returns-clause-ending : goal.returns-clause-ending
returns-clause-ending g c = λ command runs serial.
    swept_word command c.args.number c.args.problem.now c.in_ok-report.report.items c.deref.result.now (inl serial)
    (in_mode command Serial c.args.number c.args.problem.now c.in_ok-report.report.items serial c.in_ok-report.ensures) c.deref.ensures.value c.write_report.result runs _ _ c.write_report.ensures.written
