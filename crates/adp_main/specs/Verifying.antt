-- How a certificate with its job was checked, and what was written of it.
use Rattle.std.specs.Prelude.{ℕ, ◌+◌, ◌⊎◌, ℤ, Option, List, [], ◌∷◌, Result, Err}
use Rattle.std.specs.Io.KnownBytes.{Appends}
use Rattle.adp_model.specs.declared.grammar.Grammar.{Grammar}
use Rattle.table_certificate.specs.declared.verifying.VerifyError.{VerifyError}
use Rattle.table_certificate.specs.declared.verifying.VerifyError.TheVariants as verify_errors
use Rattle.table_certificate.specs.ScoreReports.{score_lines}
use Rattle.verdicts.specs.Certificates.{IsFalseFor, IsRightFor}
use Rattle.verdicts.specs.Command.{Command}
use Rattle.verdicts.specs.WordLimits.{IsFirstLimit, KeepLimits}
use Rattle.report.specs.declared.fault.Fault.{Fault}
use Rattle.report.specs.declared.fault.Fault.TheVariants as faults
use Rattle.adp_main.specs.Reporting.{HasWritten, IsReported}

-- the fault of a certificate that was not accepted
abbrev pub verify_refusal : VerifyError → Fault
verify_refusal (verify_errors.Rejected rejected) = faults.Rejected rejected.line
verify_refusal verify_errors.Memory = faults.Memory

-- the reports of words with these best scores, the first of which has this number
abbrev pub score_reports : ℕ → List (Option ℤ) → List (List ℕ)
score_reports number [] = []
score_reports number (score ∷ scores) = score_lines number score ∷ score_reports (number + 1) scores

-- the certificate is right for the words, which keep the limits, and these are their reports
pub record IsTold (command : Command) (grammar : Grammar) (algebra : ℕ) (words : List (List ℕ)) (certificate : List ℕ)
    (reports : List (List ℕ)) : Type 0 where
  pub right : IsRightFor grammar algebra words certificate
  pub reported : IsReported command grammar algebra words reports

-- how the certificate of a checked job's words was told: one of them passes a limit, or the certificate has a first false
-- line, and nothing was written; or it was written of the words' reports
abbrev pub IsCertificateEnding : Command → Grammar → ℕ → List (List ℕ) → List ℕ → Result (Unit {0}) Fault
    → Option (List ℕ) → Option (List ℕ) → Type 0
IsCertificateEnding command grammar algebra words certificate (Err (faults.Limit word fault)) old new =
    IsFirstLimit command grammar algebra 1 words word fault × Appends old new []
IsCertificateEnding command grammar algebra words certificate (Err (faults.Rejected line)) old new =
    KeepLimits command grammar algebra words × IsFalseFor grammar algebra words certificate line
    × Appends old new []
IsCertificateEnding command grammar algebra words certificate (Err faults.Memory) old new =
    Appends old new []
    ⊎ ((reports : List (List ℕ)) × IsTold command grammar algebra words certificate reports
    × HasWritten (Err faults.Memory) old new reports)
IsCertificateEnding command grammar algebra words certificate result old new =
    (reports : List (List ℕ)) × IsTold command grammar algebra words certificate reports
    × HasWritten result old new reports
