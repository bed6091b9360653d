use Rattle.std.proofs.Common.{◌≡◌, ◌+◌, ◌≤◌, List, ℕ, ◌++◌, length, length-append, ap, ◌∙◌, sym, arith}
use Rattle.table_certificate.specs.JobSplit.{IsSplitAtJob}
use Rattle.std.proofs.lemmas.Result.{err_from_is_err_and}
use Rattle.adp_main.proofs.Endings.{unwritten}
use Rattle.adp_main.proofs.NestedReports.{tells_nested}
use Rattle.adp_main.proofs.Verifying.{refused_job, shows_refused, shows_without, told_fault, told_first, told_grew, told_part, told_read, told_short, told_shows, told_usage, without_job}
use Rattle.adp_main.proofs.verify.answer_certificate.Goals as goal

-- what stands before and behind the line is no longer than the whole
split_lengths : (bytes before behind : List ℕ) → IsSplitAtJob bytes before behind
    → length before + length behind ≤ length bytes
split_lengths bytes before behind parted =
    let all : length bytes ≡ length (before ++ parted.ended) + length behind =
    ap length parted.parts ∙ length-append (before ++ parted.ended) behind in
    omega (arith, all, length-append before parted.ended)

pub split_input-requires : goal.split_input-requires
split_input-requires g c = omega (arith, c.requires.fits)

pub returns-in-Err-clause-fault : goal.returns-in-Err-clause-fault
returns-in-Err-clause-fault g c = λ words is.
    without_job c.args.command.now words is c.requires.mode c.args.bytes.now c.requires.fits c.in-Err.rejected.line
    (c.in-Err.ensures.none, c.in-Err.ensures.line)

pub returns-in-Err-clause-verdict : goal.returns-in-Err-clause-verdict
returns-in-Err-clause-verdict g c = λ words is of.
    shows_without c.args.command.now words is c.requires.mode c.args.bytes.now c.requires.fits c.in-Err.rejected.line
    (c.in-Err.ensures.none, c.in-Err.ensures.line) _

pub returns-in-Err-clause-writing : goal.returns-in-Err-clause-writing
returns-in-Err-clause-writing g c = unwritten _ _ _ _ (λ e. cc)

pub checked_job-requires : goal.checked_job-requires
checked_job-requires g c = record {
  reads = λ big. (let e = sym c.requires.mode ∙ big in cc);
  fits = omega (arith, c.requires.fits, split_lengths _ _ _ c.in-Ok.ensures.split);
}

pub returns-in_err-job-clause-fault : goal.returns-in_err-job-clause-fault
returns-in_err-job-clause-fault g c =
    let p = err_from_is_err_and c.from_residual.result c.from_residual.ensures.1 in
    rw (p.1, p.2) (λ words is.
    refused_job c.args.command.now words is c.requires.mode c.args.bytes.now c.requires.fits _ _ c.in-Ok.ensures.split
    c.in_err-job.field-0.0 (c.in_err-job.ensures.refusal words is))

pub returns-in_err-job-clause-verdict : goal.returns-in_err-job-clause-verdict
returns-in_err-job-clause-verdict g c =
    let p = err_from_is_err_and c.from_residual.result c.from_residual.ensures.1 in
    rw (p.1, p.2) (λ words is.
    shows_refused c.args.command.now words is c.requires.mode c.args.bytes.now c.requires.fits _ _ c.in-Ok.ensures.split
    c.in_err-job.field-0.0 (c.in_err-job.ensures.refusal words is) _)

pub returns-clause-fault : goal.returns-clause-fault
returns-clause-fault g c = λ words is.
    let asked = c.in_ok-job.ensures.job words is in
    told_fault c.args.command.now words is c.requires.mode c.args.bytes.now c.requires.fits _ _ c.in-Ok.ensures.split
    c.in_ok-job.job asked
    (tells_nested c.texts_hide_alternatives.ensures c.nested_reports_are_the_plain_ones.ensures _ _ _ _ asked
    (_, _, _, c.passes.ensures.found)) c.tell_words.result _ _ c.tell_words.ensures.ending

pub returns-clause-verdict : goal.returns-clause-verdict
returns-clause-verdict g c = λ words is.
    let asked = c.in_ok-job.ensures.job words is in
    told_shows c.args.command.now words is c.requires.mode c.args.bytes.now c.requires.fits _ _ c.in-Ok.ensures.split
    c.in_ok-job.job asked
    (tells_nested c.texts_hide_alternatives.ensures c.nested_reports_are_the_plain_ones.ensures _ _ _ _ asked
    (_, _, _, c.passes.ensures.found)) c.tell_words.result _ _ c.tell_words.ensures.ending

pub returns-clause-part : goal.returns-clause-part
returns-clause-part g c = λ words is.
    let asked = c.in_ok-job.ensures.job words is in
    told_part c.args.command.now words is c.requires.mode c.args.bytes.now c.requires.fits _ _ c.in-Ok.ensures.split
    c.in_ok-job.job asked
    (tells_nested c.texts_hide_alternatives.ensures c.nested_reports_are_the_plain_ones.ensures _ _ _ _ asked
    (_, _, _, c.passes.ensures.found)) c.tell_words.result _ _ c.tell_words.ensures.ending

pub returns-clause-first : goal.returns-clause-first
returns-clause-first g c = λ words is.
    let asked = c.in_ok-job.ensures.job words is in
    told_first c.args.command.now words is c.requires.mode c.args.bytes.now c.requires.fits _ _ c.in-Ok.ensures.split
    c.in_ok-job.job asked
    (tells_nested c.texts_hide_alternatives.ensures c.nested_reports_are_the_plain_ones.ensures _ _ _ _ asked
    (_, _, _, c.passes.ensures.found)) c.tell_words.result _ _ c.tell_words.ensures.ending

pub returns-clause-usage : goal.returns-clause-usage
returns-clause-usage g c = told_usage _ _ _ _ _ c.tell_words.result _ _ c.tell_words.ensures.ending

pub returns-clause-read : goal.returns-clause-read
returns-clause-read g c = told_read _ _ _ _ _ c.tell_words.result _ _ c.tell_words.ensures.ending

pub returns-clause-short : goal.returns-clause-short
returns-clause-short g c = told_short _ _ _ _ _ c.tell_words.result _ _ c.tell_words.ensures.ending

pub returns-clause-writing : goal.returns-clause-writing
returns-clause-writing g c = record {
  write_fault = c.tell_words.ensures.faults;
  told = c.tell_words.ensures.told;
  grew = told_grew _ _ _ _ _ c.tell_words.result _ _ c.tell_words.ensures.ending;
  untouched = c.tell_words.ensures.untouched;
}

pub tell_words-requires-clause-fits : goal.tell_words-requires-clause-fits
tell_words-requires-clause-fits g c = omega (arith, c.requires.fits, split_lengths _ _ _ c.in-Ok.ensures.split)
