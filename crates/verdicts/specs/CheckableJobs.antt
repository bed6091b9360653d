-- Command lines and bytes whose grammar, where it has no fault, has sizes and ranks: that is what the checks of a
-- grammar find, so it holds wherever these come to an end.
use Rattle.std.specs.Prelude.{◌≡◌, ◌⊎◌, ℕ, Option, List}
use Rattle.adp_model.specs.declared.job.Job.{Job}
use Rattle.adp_model.specs.Checks.{IsChecked}
use Rattle.table_certificate.specs.JobSplit.{IsSplitAtJob}
use Rattle.verdicts.specs.Command.{AsksToVerify}
use Rattle.verdicts.specs.Verdict.{AsksUnder}

-- where the words and the bytes ask for a job under an algebra, its grammar has sizes and ranks
abbrev pub AreCheckable : List (List ℕ) → List ℕ → Type 0
AreCheckable words bytes =
    (job : Job) (algebra : ℕ) → AsksUnder words bytes job algebra
    → (least : List ℕ) × (greatest : List (Option ℕ)) × (ranks : List ℕ)
    × IsChecked job.grammar algebra least greatest ranks

-- the part of an input that is its job: what stands behind the line `job` where a certificate is checked, else all of it
abbrev pub IsJobPart : List (List ℕ) → List ℕ → List ℕ → Type 0
IsJobPart words bytes text =
    ((AsksToVerify words → ⊥) × (text ≡ bytes))
    ⊎ (AsksToVerify words × (before : List ℕ) × IsSplitAtJob bytes before text)

-- so it is with the job of an input
abbrev pub IsCheckableInput : List (List ℕ) → List ℕ → Type 0
IsCheckableInput words bytes = (text : List ℕ) → IsJobPart words bytes text → AreCheckable words text
