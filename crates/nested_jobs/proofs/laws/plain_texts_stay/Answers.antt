use Rattle.nested_jobs.proofs.Verdicts.{fault_stays, job_stays}
use Rattle.nested_jobs.proofs.laws.plain_texts_stay.Goals as goal

pub returns : goal.returns
returns c = record { job = job_stays; fault = fault_stays }
