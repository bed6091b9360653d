use Rattle.nested_jobs.proofs.Verdicts.{not_both, one_fault, one_job}
use Rattle.nested_jobs.proofs.laws.texts_spell_one_job.Goals as goal

pub returns : goal.returns
returns c = record { one_job = one_job; one_fault = one_fault; not_both = not_both }
