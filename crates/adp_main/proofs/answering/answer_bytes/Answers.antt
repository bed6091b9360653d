use Rattle.std.proofs.Common.{inl, refl}
use Rattle.std.proofs.lemmas.Result.{err_from_is_err_and}
use Rattle.adp_main.proofs.Reported.{fault_of, first_of, grew_of, refusal_verdict, refused, short_of, shows_part, verdict_of}
use Rattle.adp_main.proofs.Endings.{finds_answers}
use Rattle.adp_main.proofs.Told.{checkable, checkable_whole, undone, runs_of}
use Rattle.adp_main.proofs.NestedReports.{tells_nested}
use Rattle.adp_main.proofs.answering.answer_bytes.Goals as goal

pub returns-clause-fault : goal.returns-clause-fault
returns-clause-fault g c = λ words is.
    fault_of _ _ _ (finds_answers c.command_is_unique.ensures.command _ _ is c.requires.finds)
    c.in_ok-job.job (c.in_ok-job.ensures.job words is) c.write_job.result _ _ c.write_job.ensures.ending

pub returns-clause-verdict : goal.returns-clause-verdict
returns-clause-verdict g c = λ words is.
    let asked = c.in_ok-job.ensures.job words is in
    verdict_of _ _ _ (finds_answers c.command_is_unique.ensures.command _ _ is c.requires.finds)
    c.in_ok-job.job asked
    (tells_nested c.texts_hide_alternatives.ensures c.nested_reports_are_the_plain_ones.ensures _ _ _ _ asked
    (_, _, _, c.passes.ensures.found)) c.write_job.result _ _ c.write_job.ensures.ending

pub returns-clause-part : goal.returns-clause-part
returns-clause-part g c = λ words is.
    let asked = c.in_ok-job.ensures.job words is in
    shows_part _ _ _ (finds_answers c.command_is_unique.ensures.command _ _ is c.requires.finds)
    c.in_ok-job.job asked
    (tells_nested c.texts_hide_alternatives.ensures c.nested_reports_are_the_plain_ones.ensures _ _ _ _ asked
    (_, _, _, c.passes.ensures.found)) c.write_job.result _ _ c.write_job.ensures.ending

pub returns-clause-first : goal.returns-clause-first
returns-clause-first g c = λ words is.
    let asked = c.in_ok-job.ensures.job words is in
    first_of _ _ _ (finds_answers c.command_is_unique.ensures.command _ _ is c.requires.finds)
    c.in_ok-job.job asked
    (tells_nested c.texts_hide_alternatives.ensures c.nested_reports_are_the_plain_ones.ensures _ _ _ _ asked
    (_, _, _, c.passes.ensures.found)) c.write_job.result _ _ c.write_job.ensures.ending

pub returns-clause-writing : goal.returns-clause-writing
returns-clause-writing g c = record {
  write_fault = c.write_job.ensures.faults;
  told = c.write_job.ensures.told;
  grew = grew_of _ _ _ _ _ c.write_job.result _ _ c.write_job.ensures.ending;
  untouched = c.write_job.ensures.untouched;
}

pub returns-clause-passed : goal.returns-clause-passed
returns-clause-passed g c = λ words is _.
    checkable_whole _ _ (finds_answers c.command_is_unique.ensures.command _ _ is c.requires.finds)
    (checkable c.asked_grammar_is_unique.ensures.grammar c.asked_grammar_is_unique.ensures.algebra _ _ _ c.in_ok-job.job
    (c.in_ok-job.ensures.job words is) (_, _, _, c.passes.ensures.found))

pub returns-clause-noted : goal.returns-clause-noted
returns-clause-noted g c = λ words is.
    let asked = c.in_ok-job.ensures.job words is in
    runs_of _ _ c.args.command.now c.in_ok-job.job
    (finds_answers c.command_is_unique.ensures.command _ _ is c.requires.finds) asked
    (tells_nested c.texts_hide_alternatives.ensures c.nested_reports_are_the_plain_ones.ensures _ _ _ _ asked
    (_, _, _, c.passes.ensures.found)) _ _ _ _ _ c.write_job.ensures.noted

pub returns-in_err-job-clause-fault : goal.returns-in_err-job-clause-fault
returns-in_err-job-clause-fault g c =
    let p = err_from_is_err_and c.from_residual.result c.from_residual.ensures.1 in
    rw (p.1, p.2) (λ words is. refusal_verdict c.args.command.now _ _
    (finds_answers c.command_is_unique.ensures.command _ _ is c.requires.finds) c.in_err-job.field-0.0 (c.in_err-job.ensures.refusal words is))

pub returns-in_err-job-clause-verdict : goal.returns-in_err-job-clause-verdict
returns-in_err-job-clause-verdict g c =
    let p = err_from_is_err_and c.from_residual.result c.from_residual.ensures.1 in
    rw (p.1, p.2) (λ words is. refused c.args.command.now _ _
    (finds_answers c.command_is_unique.ensures.command _ _ is c.requires.finds) c.in_err-job.field-0.0 (c.in_err-job.ensures.refusal words is) _)

pub returns-in_err-job-clause-passed : goal.returns-in_err-job-clause-passed
returns-in_err-job-clause-passed g c =
    let p = err_from_is_err_and c.from_residual.result c.from_residual.ensures.1 in
    rw (p.1, p.2) (λ words is done. absurd (undone c.in_err-job.field-0.0 done))

pub returns-in_err-job-clause-noted : goal.returns-in_err-job-clause-noted
returns-in_err-job-clause-noted g c =
    let p = err_from_is_err_and c.from_residual.result c.from_residual.ensures.1 in
    rw (p.1, p.2) (λ words is. inl (refl, λ e. absurd (undone c.in_err-job.field-0.0 e)))

pub returns-clause-short : goal.returns-clause-short
returns-clause-short g c = short_of _ _ _ _ _ c.write_job.result _ _ c.write_job.ensures.ending
