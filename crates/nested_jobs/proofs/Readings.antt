-- What the reader of plain texts answers of a text that is one by itself.
use Rattle.std.proofs.Common.{◌≡◌, ◌↔◌, ℕ, false, None, Result, Ok, Err, List, refl}
use Rattle.adp_model.specs.declared.fault.TextFault.{TextFault}
use Rattle.adp_model.specs.declared.job.Job.{Job}
use Rattle.job_texts.specs.JobLines.{job_lines, line_at}
use Rattle.job_texts.specs.JobText.{IsFaultOf, IsText}
use Rattle.nested_texts.specs.PlainTexts.{is_third_format}
use Rattle.grammar_text.specs.Reading.{MatchReading}
use Rattle.grammar_text.specs.declared.error.TextError.{TextError}
use Rattle.grammar_text.specs.declared.error.TextError.TheVariants.{Fault, Memory}
use Rattle.nested_jobs.specs.NestedJob.{IsNestedFault, IsNestedText, hidden_in}
use Rattle.nested_jobs.specs.Reading.{MatchNestedReading}

-- no rule is hidden in a text of another format
pub none_hidden : (bytes : List ℕ) → is_third_format (line_at (job_lines bytes) 1) ≡ false → hidden_in bytes ≡ None
none_hidden bytes other = rw other refl

pub as_it_stands : (bytes : List ℕ) → ((job : Job) → IsText bytes job ↔ IsNestedText bytes job)
    → ((fault : TextFault) → IsFaultOf bytes fault ↔ IsNestedFault bytes fault) → (result : Result Job TextError)
    → MatchReading bytes result → MatchNestedReading bytes result
as_it_stands bytes jobs faults (Ok job) read = (jobs job).0 read
as_it_stands bytes jobs faults (Err (Fault fault)) read = (faults fault).0 read
as_it_stands bytes jobs faults (Err Memory) read = tt
