-- What the verification of a certificate answers.
use Rattle.std.specs.Prelude.{◌≡◌, ℕ, ◌+◌, ◌<◌, ◌⊎◌, false, Some, List, ◌∷◌, Contains, codes, length, slice_get}
use Rattle.std.specs.Str.Lines.{lines}
use Rattle.adp_model.specs.declared.grammar.Grammar.{Grammar}
use Rattle.adp_model.specs.PosedProblem.{PosedProblem}
use Rattle.grammar_check.specs.CheckedGrammar.{CheckedGrammar}
use Rattle.table_certificate.specs.declared.verifying.VerifyError.{VerifyError}
use Rattle.table_certificate.specs.declared.verifying.VerifyError.TheVariants as errors
use Rattle.table_certificate.specs.Posed.{posed_words}
use Rattle.table_certificate.specs.BlockLines.{IsAtHead}
use Rattle.table_certificate.specs.CertificateLines.{LineForm, CertLine, forms_of}
use Rattle.table_certificate.specs.JobSplit.{IsSplitAtJob}
use Rattle.table_certificate.specs.LocalCertificate.{IsFirstFalse, IsLocallyRight, is_word_line}

-- what is asked about words under a checked grammar
abbrev pub problems_of : CheckedGrammar → List (List ℕ) → List PosedProblem
problems_of checked words = posed_words checked.grammar checked.algebra words

-- the line behind so many others is told as the first that is false; lines count from 1
abbrev pub IsFalseLine : ℕ → VerifyError → Type 0
IsFalseLine place (errors.Rejected rejected) = rejected.line ≡ place + 1
IsFalseLine place errors.Memory = ⊥

-- the first line that is false has this number, from 1 on; or there was no memory
abbrev pub IsRejection : List PosedProblem → List LineForm → VerifyError → Type 0
IsRejection problems forms (errors.Rejected rejected) =
    (place : ℕ) × (rejected.line ≡ place + 1) × IsFirstFalse problems forms place
IsRejection problems forms errors.Memory = Unit {0}

-- the bytes are accepted with this job: one of their lines is `job`, this job stands behind the first such line, and what
-- stands before it is a right certificate of the words, which only want of memory keeps from being accepted
pub record AreAccepted (grammar : Grammar) (algebra : ℕ) (words : List (List ℕ)) (job bytes : List ℕ) : Type 0 where
  pub line : Contains (lines bytes) (codes "job")
  pub behind : (before behind : List ℕ) → IsSplitAtJob bytes before behind → behind ≡ job
  pub right : (before behind : List ℕ) → IsSplitAtJob bytes before behind
      → IsLocallyRight (posed_words grammar algebra words) (forms_of grammar before)
  pub accepted : (before behind : List ℕ) (error : VerifyError) → IsSplitAtJob bytes before behind
      → IsRejection (posed_words grammar algebra words) (forms_of grammar before) error → error ≡ errors.Memory

-- the text begins with a line `cert`, and behind it stands nothing, or the head of a block
pub record IsBehindCert (grammar : Grammar) (text behind : List ℕ) : Type 0 where
  pub cert : forms_of grammar text ≡ CertLine ∷ forms_of grammar behind
  pub at_head : IsAtHead grammar behind
  pub fewer : length behind < length text

-- the first line isn't `cert`, or there is none; or the second one stands in no block
abbrev pub IsFalseBegin : Grammar → List ℕ → ℕ → Type 0
IsFalseBegin grammar text place =
    ((place ≡ 0) × (slice_get (forms_of grammar text) 0 ≡ Some CertLine → ⊥))
    ⊎ ((place ≡ 1) × ((form : LineForm) × (behind : List LineForm)
    × (forms_of grammar text ≡ CertLine ∷ form ∷ behind) × (is_word_line form ≡ false)))
