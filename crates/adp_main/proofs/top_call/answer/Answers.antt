use Rattle.std.proofs.Common.{inl, refl, sym, ◌∙◌, arith}
use Rattle.std.proofs.lemmas.Bool.{MatchBool-at_true, MatchBool-at_false}
use Rattle.adp_main.proofs.Endings.{ends, ends_made, ends_usage, ends_unread, fault_left, makes_no_job, unread_fault}
use Rattle.adp_main.proofs.Certified.{done_accepted, no_certificate}
use Rattle.adp_main.proofs.Told.{undone}
use Rattle.adp_main.proofs.top_call.answer.Goals as goal

pub returns-in-Err-clause-ending : goal.returns-in-Err-clause-ending
returns-in-Err-clause-ending g c =
    ends_usage _ _ _ _ _ _ _ _ _ _ _ c.verdict_is_unique.ensures.reported
    (λ has. let e = c.in-Err.ensures.taken.1 has in cc)

pub returns-then-not-reads_job-clause-ending : goal.returns-then-not-reads_job-clause-ending
returns-then-not-reads_job-clause-ending g c =
    let makes = MatchBool-at_false _ _ c.if-not-reads_job.true c.reads_job.ensures in
    let is = c.in-Ok.ensures.command in
    ends_made _ _ _ _ _ _ _ _ _ _ _ _ _ c.in-Ok.command c.answer_big.result
    c.verdict_is_unique.ensures.reported is makes
    (makes_no_job c.command_is_unique.ensures.command _ _ is makes) c.answer_big.ensures.told c.answer_big.ensures.faults
    c.answer_big.ensures.ending

pub returns-in-Err-read_job-clause-ending : goal.returns-in-Err-read_job-clause-ending
returns-in-Err-read_job-clause-ending g c =
    let e = c.in-Err-read_job.ensures in
    let reads = MatchBool-at_true _ _ c.if-not-reads_job.false c.reads_job.ensures in
    rw c.reading_fault.ensures (ends_unread _ _ _ _ _ _ _ _ _ _ _ _ _ c.verdict_is_unique.ensures.reported
    c.command_is_unique.ensures.command
    (c.in-Ok.command, c.in-Ok.ensures.command, reads) e.faults e.told e.refused e.read_fault
    e.long (record { few_calls = e.most_calls; told_calls = e.told_calls; asked_little = e.asked }))

pub returns-in-Err-read_job-clause-fault : goal.returns-in-Err-read_job-clause-fault
returns-in-Err-read_job-clause-fault g c =
    let reads = MatchBool-at_true _ _ c.if-not-reads_job.false c.reads_job.ensures in
    rw c.reading_fault.ensures (unread_fault _ _ c.in-Err-read_job.fault c.command_is_unique.ensures.command
    (c.in-Ok.command, c.in-Ok.ensures.command, reads) c.in-Err-read_job.ensures.long)

pub returns-then-verifies-clause-ending : goal.returns-then-verifies-clause-ending
returns-then-verifies-clause-ending g c =
    let reads = MatchBool-at_true _ _ c.if-not-reads_job.false c.reads_job.ensures in
    let verifies = MatchBool-at_true _ _ c.if-verifies.true c.verifies.ensures in
    let is = c.in-Ok.ensures.command in
    let e = c.in-Ok-read_job.ensures in
    ends _ _ _ _ _ _ _ _ c.in-Ok-read_job.bytes.items c.deref.result.now _ _ _ _ _ _ c.answer_certificate.result
    c.verdict_is_unique.ensures.reported (c.in-Ok.command, is, reads) c.deref.ensures.value
    (e.faults.stands (λ e. cc)) e.told e.whole e.end (omega (arith, c.in-Ok-read_job.bytes.ok.0, e.fits))
    (record { few_calls = e.most_calls; told_calls = e.told_calls; asked_little = e.asked })
    c.answer_certificate.ensures.usage c.answer_certificate.ensures.read c.answer_certificate.ensures.writing
    (c.answer_certificate.ensures.verdict _ is)
    (c.answer_certificate.ensures.part _ is) (c.answer_certificate.ensures.first _ is)
    (inl (refl, λ done. (c.in-Ok.command, is, verifies)))

pub returns-then-verifies-clause-fault : goal.returns-then-verifies-clause-fault
returns-then-verifies-clause-fault g c =
    let reads = MatchBool-at_true _ _ c.if-not-reads_job.false c.reads_job.ensures in
    let is = c.in-Ok.ensures.command in
    fault_left _ _ c.in-Ok-read_job.bytes.items c.deref.result.now c.answer_certificate.result
    (c.in-Ok.command, is, reads) c.in-Ok-read_job.ensures.whole c.deref.ensures.value
    (c.answer_certificate.ensures.fault _ is)

pub returns-clause-ending : goal.returns-clause-ending
returns-clause-ending g c =
    let reads = MatchBool-at_true _ _ c.if-not-reads_job.false c.reads_job.ensures in
    let is = c.in-Ok.ensures.command in
    let e = c.in-Ok-read_job.ensures in
    ends _ _ _ _ _ _ _ _ c.in-Ok-read_job.bytes.items c.deref-else-verifies.result.now _ _ _ _ _ _ c.answer_bytes.result
    c.verdict_is_unique.ensures.reported (c.in-Ok.command, is, reads) c.deref-else-verifies.ensures.value
    (e.faults.stands (λ e. cc)) e.told e.whole e.end (omega (arith, c.in-Ok-read_job.bytes.ok.0, e.fits))
    (record { few_calls = e.most_calls; told_calls = e.told_calls; asked_little = e.asked })
    c.answer_bytes.ensures.usage c.answer_bytes.ensures.read c.answer_bytes.ensures.writing
    (c.answer_bytes.ensures.verdict _ is) (c.answer_bytes.ensures.part _ is)
    (c.answer_bytes.ensures.first _ is) (c.answer_bytes.ensures.noted _ is)

pub returns-clause-fault : goal.returns-clause-fault
returns-clause-fault g c =
    let reads = MatchBool-at_true _ _ c.if-not-reads_job.false c.reads_job.ensures in
    let is = c.in-Ok.ensures.command in
    fault_left _ _ c.in-Ok-read_job.bytes.items c.deref-else-verifies.result.now c.answer_bytes.result
    (c.in-Ok.command, is, reads) c.in-Ok-read_job.ensures.whole c.deref-else-verifies.ensures.value
    (c.answer_bytes.ensures.fault _ is)

pub returns-in-Err-clause-certified : goal.returns-in-Err-clause-certified
returns-in-Err-clause-certified g c = λ done. absurd cc

pub returns-then-not-reads_job-clause-certified : goal.returns-then-not-reads_job-clause-certified
returns-then-not-reads_job-clause-certified g c = λ done.
    let makes = MatchBool-at_false _ _ c.if-not-reads_job.true c.reads_job.ensures in
    no_certificate c.command_is_unique.ensures.command _ c.in-Ok.command c.in-Ok.ensures.command
    (λ cert. (let e = sym makes ∙ cert in cc)) _ _

pub returns-in-Err-read_job-clause-certified : goal.returns-in-Err-read_job-clause-certified
returns-in-Err-read_job-clause-certified g c = λ done. absurd (undone c.reading_fault.result done)

pub returns-then-verifies-clause-certified : goal.returns-then-verifies-clause-certified
returns-then-verifies-clause-certified g c = λ done.
    let verifies = MatchBool-at_true _ _ c.if-verifies.true c.verifies.ensures in
    no_certificate c.command_is_unique.ensures.command _ c.in-Ok.command c.in-Ok.ensures.command
    (λ cert. (let e = sym verifies ∙ cert in cc)) _ _

pub returns-clause-certified : goal.returns-clause-certified
returns-clause-certified g c = λ done.
    let is = c.in-Ok.ensures.command in
    done_accepted c.written_certificates_are_accepted.ensures _ _ (c.answer_bytes.ensures.passed _ is done) _ done _ _
    (c.answer_bytes.ensures.verdict _ is)
