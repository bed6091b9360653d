use Rattle.std.proofs.Common.{◌∙◌, refl, sym, arith}
use Rattle.std.proofs.lemmas.Result.{err_from_is_err_and}
use Rattle.verdicts.specs.Posed.{posed_word}
use Rattle.adp_main.proofs.CompiledWords.{is_compiled}
use Rattle.adp_main.proofs.Running.{compiled_run, not_written}
use Rattle.adp_main.proofs.lex.report_word.Goals as goal

pub returns-in_err-made-clause-ending : goal.returns-in_err-made-clause-ending
returns-in_err-made-clause-ending g c =
    let p = err_from_is_err_and c.from_residual.result c.from_residual.ensures.1 in
    rw (p.1, p.2) (not_written _ _)

pub returns-in_err-finished-clause-ending : goal.returns-in_err-finished-clause-ending
returns-in_err-finished-clause-ending g c =
    let p = err_from_is_err_and c.from_residual-in_err-finished.result c.from_residual-in_err-finished.ensures.1 in
    rw (p.1, p.2) (not_written _ _)

pub returns-in_err-report-clause-ending : goal.returns-in_err-report-clause-ending
returns-in_err-report-clause-ending g c =
    let p = err_from_is_err_and c.from_residual-in_err-report.result c.from_residual-in_err-report.ensures.1 in
    rw (p.1, p.2) (not_written _ _)

pub report_of_both-requires-clause-compiled : goal.report_of_both-requires-clause-compiled
report_of_both-requires-clause-compiled g c = (
  c.args.command.now.second,
  posed_word c.args.job.now.checked.grammar c.args.job.now.checked.algebra c.args.word.now,
  c.in_ok-made.ensures.kept.each c.args.word.now (sym c.in_ok-made.ensures.length),
  c.problem_of-problem.ensures,
)

pub returns-clause-ending : goal.returns-clause-ending
returns-clause-ending g c =
    let asked = posed_word c.args.job.now.checked.grammar c.args.job.now.checked.algebra c.args.word.now in
    let for = c.in_ok-made.ensures.kept.each c.args.word.now (sym c.in_ok-made.ensures.length) in
    compiled_run c.args.command.now c.args.number asked c.problem_of-problem.result for.second for.bound
    c.in_ok-finished.finished c.in_ok-report.report.items c.deref.result.now c.requires.mode for.named
    for.compilable.bounded
    (c.problem_of-problem.ensures ∙ is_compiled c.args.command.now.second asked c.in_ok-made.made for)
    (for.second, for.named, c.in_ok-report.ensures c.args.command.now.second asked for c.problem_of-problem.ensures)
    c.deref.ensures.value
    c.write_run-result.result _ _ _ _ c.write_run-result.ensures.ending

pub returns-clause-kept : goal.returns-clause-kept
returns-clause-kept g c = c.in_ok-made.ensures.kept

pub returns-in_err-finished-clause-faults : goal.returns-in_err-finished-clause-faults
returns-in_err-finished-clause-faults g c =
    let p = err_from_is_err_and c.from_residual-in_err-finished.result c.from_residual-in_err-finished.ensures.1 in
    rw (p.1, p.2) (record { later = omega arith; rises = λ e. cc; stands = λ _. refl })

pub returns-in_err-report-clause-faults : goal.returns-in_err-report-clause-faults
returns-in_err-report-clause-faults g c =
    let p = err_from_is_err_and c.from_residual-in_err-report.result c.from_residual-in_err-report.ensures.1 in
    rw (p.1, p.2) (record { later = omega arith; rises = λ e. cc; stands = λ _. refl })
