use Rattle.std.proofs.Common.{inr, subst}
use Rattle.std.proofs.lemmas.Result.{err_from_is_err_and}
use Rattle.adp_model.specs.PosedProblem.{PosedProblem}
use Rattle.first_trees.specs.ListReport.{IsListReport}
use Rattle.verdicts.specs.declared.command.Mode.TheVariants.{KBest}
use Rattle.adp_main.proofs.Running.{in_mode, not_written, swept_word}
use Rattle.adp_main.proofs.kbest.report_word.Goals as goal

pub returns-in_err-report-clause-ending : goal.returns-in_err-report-clause-ending
returns-in_err-report-clause-ending g c =
    let p = err_from_is_err_and c.from_residual-in_err-report.result c.from_residual-in_err-report.ensures.1 in
    rw (p.1, p.2) (λ runs. not_written runs _)

pub returns-in_err-prepared-clause-ending : goal.returns-in_err-prepared-clause-ending
returns-in_err-prepared-clause-ending g c =
    let p = err_from_is_err_and c.from_residual.result c.from_residual.ensures.1 in
    rw (p.1, p.2) (λ runs. not_written runs _)

pub returns-clause-ending : goal.returns-clause-ending
returns-clause-ending g c = λ runs.
    swept_word c.args.command.now c.args.number c.args.problem.now c.in_ok-report.report.items c.deref.result.now
    (inr c.requires.mode)
    (in_mode c.args.command.now KBest c.args.number c.args.problem.now c.in_ok-report.report.items c.requires.mode
    (subst (λ (p : PosedProblem). IsListReport c.args.number p c.args.command.now.best c.in_ok-report.report.items)
    c.in_ok-prepared.ensures c.in_ok-report.ensures)) c.deref.ensures.value c.write_report.result runs _ _ c.write_report.ensures.written
