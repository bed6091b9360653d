use Rattle.std.proofs.Common.{◌≡◌, ◌∙◌}
use Rattle.std.proofs.lemmas.Result.{err_from_is_err_and}
use Rattle.grammar_check.specs.declared.error.CheckError.{CheckError}
use Rattle.grammar_text.specs.declared.error.TextError.{TextError}
use Rattle.report.specs.declared.fault.Fault.{Fault}
use Rattle.adp_main.specs.Reporting.{grammar_refusal, text_refusal}
use Rattle.adp_main.proofs.CheckedJobs.{is_text, is_checked, grammar_fault, grammar_refused, pair_fault, pair_refused, text_fault, text_refused}
use Rattle.adp_main.proofs.Turned.{gave_ok, gave_err}
use Rattle.adp_main.proofs.checking.checked_job.Goals as goal

pub new-name-requires : goal.new-name-requires
new-name-requires c =
    rw c.in_ok-from_slice.ensures.items (c.names_are_short_and_printable.ensures.printable c.named_algebra-name.result.now c.named_algebra-name.ensures.name)

pub returns-in_err-job-clause-refusal : goal.returns-in_err-job-clause-refusal
returns-in_err-job-clause-refusal c =
    let p = err_from_is_err_and c.from_residual.result c.from_residual.ensures.1 in
    rw (p.1, p.2) (λ words is.
    text_refused words c.args.bytes.now c.read_nested.result c.in_err-job.field-0.0
    (c.args.command.now, is, c.requires.reads) c.requires.fits c.read_nested.ensures
    (gave_err c.read_nested.result c.in_err-job.field-0.0 (λ (e : TextError) (fault : Fault). fault ≡ text_refusal e) c.in_err-job.ensures.cases))

pub returns-in_err-checked-clause-refusal : goal.returns-in_err-checked-clause-refusal
returns-in_err-checked-clause-refusal c =
    let job = c.in_ok-job.job in
    let text = is_text c.args.bytes.now job c.read_nested.result c.read_nested.ensures (gave_ok _ c.read_nested.result job _ c.in_ok-job.ensures.variant c.in_ok-job.ensures.cases) in
    let p = err_from_is_err_and c.from_residual-in_err-checked.result c.from_residual-in_err-checked.ensures.1 in
    let same : c.new-name.result ≡ c.named_algebra-name.result.now = c.new-name.ensures ∙ c.in_ok-from_slice.ensures.items in
    rw (p.1, p.2) (λ words is.
    grammar_refused words c.args.bytes.now c.args.command.now job c.new-name.result c.check.result c.in_err-checked.field-0.0
    (record { is_command = is; reads = c.requires.reads; short_enough = c.requires.fits; is_text = text })
    (same ∙ c.named_algebra-name.ensures.asked)
    c.check.ensures (gave_err c.check.result c.in_err-checked.field-0.0 (λ (e : CheckError) (fault : Fault). fault ≡ grammar_refusal e) c.in_err-checked.ensures.cases))

pub returns-in_err-job-clause-fault : goal.returns-in_err-job-clause-fault
returns-in_err-job-clause-fault c =
    let p = err_from_is_err_and c.from_residual.result c.from_residual.ensures.1 in
    rw (p.1, p.2) (text_fault c.read_nested.result c.in_err-job.field-0.0
    (gave_err c.read_nested.result c.in_err-job.field-0.0 (λ (e : TextError) (fault : Fault). fault ≡ text_refusal e) c.in_err-job.ensures.cases))

pub returns-in_err-checked-clause-fault : goal.returns-in_err-checked-clause-fault
returns-in_err-checked-clause-fault c =
    let job = c.in_ok-job.job in
    let p = err_from_is_err_and c.from_residual-in_err-checked.result c.from_residual-in_err-checked.ensures.1 in
    let same : c.new-name.result ≡ c.named_algebra-name.result.now = c.new-name.ensures ∙ c.in_ok-from_slice.ensures.items in
    rw (p.1, p.2) (grammar_fault job c.new-name.result c.check.result c.in_err-checked.field-0.0
    (rw same c.named_algebra-name.ensures.name)
    (record {
      short = c.names_are_short_and_printable.ensures.short;
      rules = c.parts_have_names.ensures.rules job.grammar job.well_formed;
      signs = c.parts_have_names.ensures.signs job.grammar job.well_formed;
    })
    c.check.ensures (gave_err c.check.result c.in_err-checked.field-0.0 (λ (e : CheckError) (fault : Fault). fault ≡ grammar_refusal e) c.in_err-checked.ensures.cases))

pub returns-in_err-second-clause-refusal : goal.returns-in_err-second-clause-refusal
returns-in_err-second-clause-refusal c =
    let job = c.in_ok-job.job in
    let text = is_text c.args.bytes.now job c.read_nested.result c.read_nested.ensures (gave_ok _ c.read_nested.result job _ c.in_ok-job.ensures.variant c.in_ok-job.ensures.cases) in
    let p = err_from_is_err_and c.from_residual-in_err-second.result c.from_residual-in_err-second.ensures.1 in
    let same : c.new-name.result ≡ c.named_algebra-name.result.now = c.new-name.ensures ∙ c.in_ok-from_slice.ensures.items in
    rw (p.1, p.2) (λ words is.
    pair_refused words c.args.bytes.now c.args.command.now job c.new-name.result c.check.result c.in_ok-checked.checked c.in_err-second.field-0.0
    (record { is_command = is; reads = c.requires.reads; short_enough = c.requires.fits; is_text = text })
    (same ∙ c.named_algebra-name.ensures.asked)
    c.check.ensures (gave_ok _ c.check.result c.in_ok-checked.checked _ c.in_ok-checked.ensures.variant c.in_ok-checked.ensures.cases)
    c.in_err-second.ensures.fault)

pub returns-in_err-second-clause-fault : goal.returns-in_err-second-clause-fault
returns-in_err-second-clause-fault c =
    let p = err_from_is_err_and c.from_residual-in_err-second.result c.from_residual-in_err-second.ensures.1 in
    rw (p.1, p.2) (pair_fault c.args.command.now.second c.in_ok-checked.checked c.in_err-second.field-0.0 c.in_err-second.ensures.fault)

pub returns-clause-job : goal.returns-clause-job
returns-clause-job c = λ words is.
    let job = c.in_ok-job.job in
    let text = is_text c.args.bytes.now job c.read_nested.result c.read_nested.ensures (gave_ok _ c.read_nested.result job _ c.in_ok-job.ensures.variant c.in_ok-job.ensures.cases) in
    let same : c.new-name.result ≡ c.named_algebra-name.result.now = c.new-name.ensures ∙ c.in_ok-from_slice.ensures.items in
    let found = is_checked words c.args.bytes.now c.args.command.now job c.new-name.result c.check.result c.in_ok-checked.checked c.in_ok-second.second
    (record { is_command = is; reads = c.requires.reads; short_enough = c.requires.fits; is_text = text })
    (same ∙ c.named_algebra-name.ensures.asked)
    c.check.ensures (gave_ok _ c.check.result c.in_ok-checked.checked _ c.in_ok-checked.ensures.variant c.in_ok-checked.ensures.cases)
    c.in_ok-second.ensures.second in
    (job, found.0, found.1, found.2, (λ i. job.words))
