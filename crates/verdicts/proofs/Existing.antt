-- Words and bytes have a verdict: it can't be that there is none.
use Rattle.std.proofs.Common.{◌≡◌, ℕ, ◌+◌, ◌<◌, ◌≤◌, ◌⊎◌, inl, inr, List, [], ◌∷◌, ◌++◌, codes, length, Contains, refl, ap, subst, sym, ◌∙◌, arith}
use Rattle.std.proofs.lemmas.List.{length-append}
use Rattle.std.specs.Str.Lines.{lines}
use Rattle.adp_model.specs.BigReport.{IsBigReport}
use Rattle.adp_model.specs.PosedProblem.{PosedProblem}
use Rattle.faultless_grammars.specs.Irrefutable.{IsIrrefutable}
use Rattle.table_certificate.specs.CertificateLines.{LineForm, forms_of}
use Rattle.table_certificate.specs.JobSplit.{IsSplitAtJob}
use Rattle.table_certificate.specs.LocalCertificate.{IsFirstFalse, IsLocallyRight, IsRight, IsWhole}
use Rattle.verdicts.specs.declared.command.Mode.TheVariants.{Verify, Big}
use Rattle.verdicts.specs.Certificates.{behind_reports}
use Rattle.verdicts.specs.Command.{AsksToVerify, Command, HasCommand, IsCommand, ReadsJob}
use Rattle.verdicts.specs.Posed.{posed_words}
use Rattle.verdicts.specs.Verdict.{greatest_length, IsCertificateVerdict, IsJobVerdict, IsVerdict, Verdict, Usage, TooLong, Text, Grammar, Limit, Rejected, Reports}
use Rattle.verdicts.proofs.Irrefutably.{FailsOrHolds, and_then, decided, fails_or_holds, it_holds}
use Rattle.verdicts.proofs.Judged.{IsOfJob, IsReported, JobJudged, JobLaws, job_judged}
use Rattle.verdicts.proofs.OneVerdict.{command_unique}

abbrev HasJobVerdict : List (List ℕ) → List ℕ → Type 0
HasJobVerdict words bytes = (verdict : Verdict) × IsJobVerdict words bytes verdict

at_most : (most number : ℕ) → (number ≤ most) ⊎ (most < number)
at_most most number = grind arith

-- ---- a job

module _ (laws : JobLaws) (words : List (List ℕ)) (bytes : List ℕ) (command : Command) (is : IsCommand words command)
    (reads : ReadsJob command.mode) where
  by_job : JobJudged words bytes → HasJobVerdict words bytes
  by_job (inl (verdict, of, fault)) = (verdict, fault)
  by_job (inr reported) =
      let asks = reported.asks in
      let behind = behind_reports asks.asked.command.mode (length asks.job.words) bytes in (
        Reports (reported.reports ++ behind),
        inl (asks.job, asks.algebra, asks.asked, asks.limits, reported.reports, reported.are, refl),
      )

  pub job_has_verdict : IsIrrefutable (HasJobVerdict words bytes)
  job_has_verdict = elim (at_most greatest_length (length bytes)) [
    | inr long ↦ it_holds _ (TooLong, ((command, is, reads), long))
    | inl short ↦ and_then _ _ (job_judged laws words bytes command is reads short) (λ case. it_holds _ (by_job case))
  ]

-- ---- a certificate

abbrev RightOrFalse : List PosedProblem → List LineForm → Type 0
RightOrFalse problems forms = IsLocallyRight problems forms ⊎ ((place : ℕ) × IsFirstFalse problems forms place)

by_lines : (problems : List PosedProblem) (forms : List LineForm) → FailsOrHolds (IsRight problems forms) (length forms)
    → IsWhole problems forms ⊎ (IsWhole problems forms → ⊥) → RightOrFalse problems forms
by_lines problems forms (inl (place, first)) whole =
    inr (place, record { right = first.before; wrong = inl (first.in_range, first.faulty) })
by_lines problems forms (inr all) (inl whole) = inl (record { right = all; whole = whole })
by_lines problems forms (inr all) (inr missing) =
    inr (length forms, record { right = all; wrong = inr (refl, missing) })

right_or_false : (problems : List PosedProblem) (forms : List LineForm) → IsIrrefutable (RightOrFalse problems forms)
right_or_false problems forms =
    and_then _ _ (fails_or_holds (IsRight problems forms) (length forms)) (λ lines.
    and_then _ _ (decided (IsWhole problems forms)) (λ whole. it_holds _ (by_lines problems forms lines whole)))

module _ (laws : JobLaws) (words : List (List ℕ)) (bytes : List ℕ) (command : Command) (is : IsCommand words command)
    (reads : ReadsJob command.mode) where
  abbrev HasCertificateVerdict : Type 0
  HasCertificateVerdict = (verdict : Verdict) × IsCertificateVerdict words bytes verdict

  module _ (short : length bytes ≤ greatest_length) (before behind : List ℕ) (parted : IsSplitAtJob bytes before behind)
    where
      of_job : (verdict : Verdict) → IsOfJob verdict → IsJobVerdict words behind verdict
          → IsCertificateVerdict words bytes verdict
      of_job (Text fault) of fault_is = (short, before, behind, parted, fault_is)
      of_job (Grammar fault) of fault_is = (short, before, behind, parted, fault_is)
      of_job (Limit word fault) of fault_is = (short, before, behind, parted, fault_is)
      of_job Usage of fault_is = absurd of
      of_job TooLong of fault_is = absurd of
      of_job (Rejected line) of fault_is = absurd of
      of_job (Reports reports) of fault_is = absurd of

      by_right : (reported : IsReported words behind)
          → RightOrFalse (posed_words reported.asks.job.grammar reported.asks.algebra reported.asks.job.words)
          (forms_of reported.asks.job.grammar before) → HasCertificateVerdict
      by_right reported (inl right) =
          (Reports reported.reports, (short, before, behind, parted, reported.asks, right, reported.are))
      by_right reported (inr (place, first)) =
          (Rejected (place + 1), (short, inr (before, behind, parted, reported.asks, (place, refl, first))))

      by_judged : JobJudged words behind → IsIrrefutable HasCertificateVerdict
      by_judged (inl (verdict, of, fault)) = it_holds _ (verdict, of_job verdict of fault)
      by_judged (inr reported) =
          and_then _ _ (right_or_false _ _) (λ case. it_holds _ (by_right reported case))

      few_behind : length behind ≤ greatest_length
      few_behind =
          let long : length bytes ≡ length (before ++ parted.ended) + length behind =
          ap (λ (text : List ℕ). length text) parted.parts ∙ length-append (before ++ parted.ended) behind in
          omega (arith, long, short)

      parted_has : IsIrrefutable HasCertificateVerdict
      parted_has = and_then _ _ (job_judged laws words behind command is reads few_behind) by_judged

  module _ (split : Contains (lines bytes) (codes "job") → (before : List ℕ) × (behind : List ℕ) × IsSplitAtJob bytes before behind) where
    by_split : length bytes ≤ greatest_length
        → Contains (lines bytes) (codes "job") ⊎ (Contains (lines bytes) (codes "job") → ⊥)
        → IsIrrefutable HasCertificateVerdict
    by_split short (inl there) =
        let found = split there in
        parted_has short found.0 found.1 found.2
    by_split short (inr none) = it_holds _ (Rejected (length (lines bytes) + 1), (short, inl (none, refl)))

    pub certificate_has_verdict : IsIrrefutable HasCertificateVerdict
    certificate_has_verdict = elim (at_most greatest_length (length bytes)) [
      | inr long ↦ it_holds _ (TooLong, long)
      | inl short ↦ and_then _ _ (decided (Contains (lines bytes) (codes "job"))) (by_split short)
    ]

-- ---- all words and bytes

-- what is known besides of inputs that are parted, and of words that are made
pub record WholeLaws : Type 0 where
  pub job : JobLaws
  pub split : (bytes : List ℕ) → Contains (lines bytes) (codes "job")
      → (before : List ℕ) × (behind : List ℕ) × IsSplitAtJob bytes before behind
  pub made : (seed size : ℕ) → IsIrrefutable ((report : List ℕ) × IsBigReport seed size report)

module _ (laws : WholeLaws) (words : List (List ℕ)) (bytes : List ℕ) where
  abbrev HasVerdict : Type 0
  HasVerdict = (verdict : Verdict) × IsVerdict words bytes verdict

  module _ (command : Command) (is : IsCommand words command) where
    no_verify : (command.mode ≡ Verify → ⊥) → AsksToVerify words → ⊥
    no_verify other (another, is_another, verifies) =
        other (subst (λ (c : Command). c.mode ≡ Verify) (command_unique words another command is_another is) verifies)

    on_job : (command.mode ≡ Verify → ⊥) → HasJobVerdict words bytes → HasVerdict
    on_job other (verdict, judged) = (verdict, inl (no_verify other, judged))

    by_made : (command.mode ≡ Verify → ⊥) → (command.mode ≡ Big) ⊎ (command.mode ≡ Big → ⊥) → IsIrrefutable HasVerdict
    by_made other (inl big) =
        and_then _ _ (laws.made command.seed command.size) (λ made.
        it_holds _ (on_job other (Reports (made.0 ∷ []), inr (command, is, big, made.0, made.1, refl))))
    by_made other (inr reads) =
        and_then _ _ (job_has_verdict laws.job words bytes command is reads) (λ judged. it_holds _ (on_job other judged))

    by_verify : (command.mode ≡ Verify) ⊎ (command.mode ≡ Verify → ⊥) → IsIrrefutable HasVerdict
    by_verify (inl verifies) =
        and_then _ _
        (certificate_has_verdict laws.job words bytes command is (λ big. (let wrong = sym verifies ∙ big in absurd (cc))) (laws.split bytes))
        (λ found. it_holds _ (found.0, inr ((command, is, verifies), found.1)))
    by_verify (inr other) =
        and_then _ _ (decided (command.mode ≡ Big)) (by_made other)

  by_command : HasCommand words ⊎ (HasCommand words → ⊥) → IsIrrefutable HasVerdict
  by_command (inl (command, is)) = and_then _ _ (decided (command.mode ≡ Verify)) (by_verify command is)
  by_command (inr none) = it_holds _ (Usage, inl ((λ verifies. none (verifies.0, verifies.1)), none))

  pub verdict_there : IsIrrefutable HasVerdict
  verdict_there = and_then _ _ (decided (HasCommand words)) by_command
