-- What the reader of a text answers.
use Rattle.std.specs.Prelude.{ℕ, Result, Ok, Err, List}
use Rattle.adp_model.specs.declared.job.Job.{Job}
use Rattle.job_texts.specs.JobText.{IsText, IsFaultOf}
use Rattle.grammar_text.specs.declared.error.TextError.{TextError}
use Rattle.grammar_text.specs.declared.error.TextError.TheVariants.{Fault, Memory}

-- the job of the text, or the fault of the bytes, or want of memory
abbrev pub MatchReading : List ℕ → Result Job TextError → Type 0
MatchReading bytes (Ok job) = IsText bytes job
MatchReading bytes (Err (Fault fault)) = IsFaultOf bytes fault
MatchReading bytes (Err Memory) = Unit {0}
