-- Commands that name one algebra of a job, in the same words or not.
use Rattle.std.specs.Prelude.{◌≡◌, ℕ, List}
use Rattle.adp_model.specs.declared.job.Job.{Job}
use Rattle.nested_jobs.specs.NestedJob.{IsNestedText}
use Rattle.table_certificate.specs.JobSplit.{IsSplitAtJob}
use Rattle.verdicts.specs.Command.{Command}
use Rattle.verdicts.specs.Verdict.{asked_name}

-- both name one algebra of the job behind the first line `job` of this text: that of a name, or the first
abbrev pub NameOneAlgebra : Command → Command → List ℕ → Type 0
NameOneAlgebra command other text =
    (before behind : List ℕ) (job : Job) → IsSplitAtJob text before behind → IsNestedText behind job
    → asked_name command job.grammar ≡ asked_name other job.grammar
