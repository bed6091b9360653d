-- Any bytes spell a job or have a fault: their plain text does.
use Rattle.std.proofs.Common.{ℕ, ◌⊎◌, inl, inr, List, refl}
use Rattle.adp_model.specs.declared.fault.TextFault.{TextFault}
use Rattle.adp_model.specs.declared.job.Job.{Job}
use Rattle.job_texts.specs.JobText.{IsFaultOf, IsText}
use Rattle.nested_jobs.specs.NestedJob.{IsNestedFault, IsNestedText, IsPlainText, origin_of}

pub job_or_fault : (bytes text : List ℕ) → IsPlainText bytes text
    → ((job : Job) × IsText text job) ⊎ ((fault : TextFault) × IsFaultOf text fault)
    → ((job : Job) × IsNestedText bytes job) ⊎ ((fault : TextFault) × IsNestedFault bytes fault)
job_or_fault bytes text plain (inl (job, is)) = inl (job, (text, plain, is))
job_or_fault bytes text plain (inr (fault, is)) =
    inr (record fault { line = origin_of bytes fault.line }, (text, fault, plain, is, refl))
