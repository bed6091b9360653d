use Rattle.std.proofs.lemmas.Result.{err_from_is_err_and}
use Rattle.adp_main.proofs.MadeWords.{big_word, no_write_failed}
use Rattle.adp_main.proofs.Running.{not_written}
use Rattle.adp_main.proofs.big.report_made.Goals as goal

pub returns-in_err-finished-clause-ending : goal.returns-in_err-finished-clause-ending
returns-in_err-finished-clause-ending g c =
    let p = err_from_is_err_and c.from_residual.result c.from_residual.ensures.1 in
    rw (p.1, p.2) (not_written _ _)

pub returns-in_err-report-clause-ending : goal.returns-in_err-report-clause-ending
returns-in_err-report-clause-ending g c =
    let p = err_from_is_err_and c.from_residual-in_err-report.result c.from_residual-in_err-report.ensures.1 in
    rw (p.1, p.2) (not_written _ _)

pub returns-in_err-report-clause-faults : goal.returns-in_err-report-clause-faults
returns-in_err-report-clause-faults g c =
    let p = err_from_is_err_and c.from_residual-in_err-report.result c.from_residual-in_err-report.ensures.1 in
    rw (p.1, p.2) (no_write_failed _)

pub returns-clause-ending : goal.returns-clause-ending
returns-clause-ending g c =
    big_word c.args.command.now c.args.problem.now c.in_ok-finished.finished c.in_ok-report.report.items
    c.deref.result.now c.requires.made c.in_ok-report.ensures c.deref.ensures.value c.write_run.result _ _ _ _
    c.write_run.ensures.ending
