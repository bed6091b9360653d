use Rattle.nested_jobs.proofs.SomeVerdict.{job_or_fault}
use Rattle.nested_jobs.proofs.laws.texts_spell_a_job_or_have_a_fault.Goals as goal

pub returns : goal.returns
returns c bytes =
    let found = c.texts_have_plain_texts.ensures bytes in
    job_or_fault bytes found.0 found.1 (c.texts_have_one_verdict.ensures.some found.0)
