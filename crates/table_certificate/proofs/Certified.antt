-- What is written as a certificate is right, and accepted.
use Rattle.std.proofs.Common.{◌≡◌, ℕ, suc, ◌^◌, ◌<◌, ◌⊎◌, inl, inr, All, List, [], ◌∷◌, ◌++◌, codes, length, refl, sym, ap, subst, arith, Contains}
use Rattle.std.specs.Str.Lines.{lines}
use Rattle.std.proofs.lemmas.List.Elements.{All-cons, All-nil}
use Rattle.adp_model.specs.declared.grammar.Grammar.{Grammar}
use Rattle.adp_model.specs.PosedProblem.{PosedProblem}
use Rattle.adp_model.specs.ProblemFields.{IsAdmissible}
use Rattle.adp_model.specs.Report.{line}
use Rattle.table_certificate.specs.CertificateLines.{LineForm, CertLine, forms_of}
use Rattle.table_certificate.specs.JobSplit.{IsSplitAtJob}
use Rattle.table_certificate.specs.LocalCertificate.{IsFirstFalse, IsLocallyRight, IsRight, IsWhole}
use Rattle.table_certificate.specs.declared.verifying.VerifyError.{VerifyError}
use Rattle.table_certificate.specs.declared.verifying.VerifyError.TheVariants as errors
use Rattle.table_certificate.specs.Posed.{posed_words}
use Rattle.table_certificate.specs.Verified.{AreAccepted, IsRejection}
use Rattle.table_certificate.specs.WrittenCertificate.{AreBlockForms, IsCertifiedJob, IsWritten}
use Rattle.table_certificate.proofs.ReadBlocks.{AreLaws, written_forms}

-- ---- a written certificate is right

length-posed : (grammar : Grammar) (algebra : ℕ) (words : List (List ℕ))
    → length (posed_words grammar algebra words) ≡ length words
length-posed grammar algebra [] = refl
length-posed grammar algebra (word ∷ words) = ap suc (length-posed grammar algebra words)

one_grammar : (grammar : Grammar) (algebra : ℕ) (words : List (List ℕ))
    → All (λ p. p.grammar ≡ grammar) (posed_words grammar algebra words)
one_grammar grammar algebra [] = All-nil (λ p. p.grammar ≡ grammar)
one_grammar grammar algebra (word ∷ words) =
    All-cons (λ p. p.grammar ≡ grammar) (record { grammar = grammar; algebra = algebra; word = word })
    (posed_words grammar algebra words) refl (one_grammar grammar algebra words)

pub right_written : AreLaws
    → ((problems : List PosedProblem) (forms : List LineForm) → All IsAdmissible problems → AreBlockForms 1 problems forms → IsLocallyRight problems (CertLine ∷ forms))
    → (grammar : Grammar) (algebra : ℕ) (words : List (List ℕ)) (text : List ℕ)
    → All IsAdmissible (posed_words grammar algebra words) → length words < 2 ^ 64
    → IsWritten (posed_words grammar algebra words) text
    → IsLocallyRight (posed_words grammar algebra words) (forms_of grammar text)
right_written laws right grammar algebra words text all few are =
    let problems : List PosedProblem = posed_words grammar algebra words in
    let many : length problems ≡ length words = length-posed grammar algebra words in
    let read = written_forms laws grammar problems text all (one_grammar grammar algebra words) (omega arith) are in
    subst (IsLocallyRight problems) (sym read.2) (right problems read.0 all read.1)

-- ---- and not rejected

pub not_rejected : (problems : List PosedProblem) (forms : List LineForm) (place : ℕ) → IsLocallyRight problems forms
    → IsFirstFalse problems forms place → ⊥
not_rejected problems forms place local first = by first.wrong
  where
    by : ((place < length forms) × (IsRight problems forms place → ⊥)) ⊎ ((place ≡ length forms) × (IsWhole problems forms → ⊥)) → ⊥
    by (inl wrong) = wrong.1 (local.right place wrong.0)
    by (inr missing) = missing.1 local.whole

-- ---- with its job

-- the laws about single certificates
pub record AreSplitLaws : Type 0 where
  pub right : (grammar : Grammar) (algebra : ℕ) (words : List (List ℕ)) (text : List ℕ)
      → All IsAdmissible (posed_words grammar algebra words) → length words < 2 ^ 64
      → IsWritten (posed_words grammar algebra words) text
      → IsLocallyRight (posed_words grammar algebra words) (forms_of grammar text)
  pub split : (problems : List PosedProblem) (grammar : Grammar) (text job : List ℕ)
      → IsLocallyRight problems (forms_of grammar text) → IsSplitAtJob (text ++ line (codes "job") ++ job) text job
  pub once : (bytes before behind other_before other_behind : List ℕ) → IsSplitAtJob bytes before behind
      → IsSplitAtJob bytes other_before other_behind → (before ≡ other_before) × (behind ≡ other_behind)
  pub line : (bytes before behind : List ℕ) → IsSplitAtJob bytes before behind → Contains (lines bytes) (codes "job")
  pub accepted : (problems : List PosedProblem) (forms : List LineForm) (place : ℕ) → IsLocallyRight problems forms
      → IsFirstFalse problems forms place → ⊥

pub all_accepted : AreSplitLaws → (grammar : Grammar) (algebra : ℕ) (words : List (List ℕ)) (job bytes : List ℕ)
    → All IsAdmissible (posed_words grammar algebra words) → length words < 2 ^ 64
    → IsCertifiedJob (posed_words grammar algebra words) job bytes → AreAccepted grammar algebra words job bytes
all_accepted laws grammar algebra words job bytes all few (text, are, is) = record {
  line = laws.line bytes text job here;
  behind = λ before behind split. sym (laws.once bytes text job before behind here split).1;
  right = right;
  accepted = λ before behind error split. only_memory before error (right before behind split);
}
  where
    problems : List PosedProblem
    problems = posed_words grammar algebra words

    local : IsLocallyRight problems (forms_of grammar text)
    local = laws.right grammar algebra words text all few are

    here : IsSplitAtJob bytes text job
    here = subst (λ (x : List ℕ). IsSplitAtJob x text job) (sym is) (laws.split problems grammar text job local)

    right : (before behind : List ℕ) → IsSplitAtJob bytes before behind → IsLocallyRight problems (forms_of grammar before)
    right before behind split =
        subst (λ (x : List ℕ). IsLocallyRight problems (forms_of grammar x)) (laws.once bytes text job before behind here split).0 local

    only_memory : (before : List ℕ) (error : VerifyError) → IsLocallyRight problems (forms_of grammar before)
        → IsRejection problems (forms_of grammar before) error → error ≡ errors.Memory
    only_memory before (errors.Rejected rejected) good (place, line, first) =
        absurd (laws.accepted problems (forms_of grammar before) place good first)
    only_memory before errors.Memory good rejection = refl
