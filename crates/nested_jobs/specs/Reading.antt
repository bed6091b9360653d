-- What the reader of a text answers whose rules may have alternatives as arguments.
use Rattle.std.specs.Prelude.{ℕ, Result, Ok, Err, List}
use Rattle.adp_model.specs.declared.job.Job.{Job}
use Rattle.grammar_text.specs.declared.error.TextError.{TextError}
use Rattle.grammar_text.specs.declared.error.TextError.TheVariants.{Fault, Memory}
use Rattle.nested_jobs.specs.NestedJob.{IsNestedFault, IsNestedText}

-- the job that the bytes spell, or their fault, or want of memory
abbrev pub MatchNestedReading : List ℕ → Result Job TextError → Type 0
MatchNestedReading bytes (Ok job) = IsNestedText bytes job
MatchNestedReading bytes (Err (Fault fault)) = IsNestedFault bytes fault
MatchNestedReading bytes (Err Memory) = Unit {0}
