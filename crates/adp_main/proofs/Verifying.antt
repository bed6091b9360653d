-- How a certificate with its job was checked: from what was told of its words to the verdict on the words of the command
-- line and the bytes.
use Rattle.std.proofs.Common.{◌≡◌, ℕ, zero, suc, ◌+◌, ◌<◌, ◌≤◌, inl, inr, ℤ, List, [], ◌∷◌, ◌++◌, length, take, get_or, Option, None, IfSome, Result, Ok, Err, IfErr, IsErrOf, refl, sym, ap, subst, ◌∙◌, arith}
use Rattle.std.specs.List.{All, AllByRecursion}
use Rattle.std.proofs.lemmas.List.Elements.{All-nil, All-cons}
use Rattle.std.specs.Io.KnownBytes.{Appends}
use Rattle.std.proofs.KnownBytes.{Appends-nil}
use Rattle.adp_model.specs.declared.fault.LimitFault.{LimitFault}
use Rattle.adp_model.specs.declared.grammar.Grammar.{Grammar}
use Rattle.adp_model.specs.ProblemFields.{KeepsLimits}
use Rattle.table_certificate.specs.BestScores.{AreBestScores}
use Rattle.table_certificate.specs.JobSplit.{IsSplitAtJob}
use Rattle.table_certificate.specs.ScoreReports.{score_lines}
use Rattle.table_certificate.specs.Verified.{IsRejection}
use Rattle.table_certificate.specs.CertificateLines.{forms_of}
use Rattle.table_certificate.specs.declared.verifying.VerifyError.{VerifyError}
use Rattle.table_certificate.specs.declared.verifying.VerifyError.TheVariants as verify_errors
use Rattle.verdicts.specs.declared.command.Mode.TheVariants.{Verify}
use Rattle.verdicts.specs.Certificates.{IsFalseFor, IsRightFor, IsWithoutJob}
use Rattle.verdicts.specs.Command.{Command, IsCommand, AsksToVerify}
use Rattle.verdicts.specs.Posed.{posed_word, posed_words}
use Rattle.verdicts.specs.Verdict.{AreReports, AsksWithin, IsReportWith, IsVerdict, greatest_length}
use Rattle.verdicts.specs.WordLimits.{IsFirstLimit, KeepLimits}
use Rattle.verdicts.specs.Verdict as verdicts
use Rattle.nested_jobs.specs.NestedJob.{hidden_in}
use Rattle.report.specs.Faults.{HasShortName}
use Rattle.report.specs.declared.fault.Fault.{Fault}
use Rattle.report.specs.declared.fault.Fault.TheVariants as faults
use Rattle.adp_main.specs.declared.checking.CheckedJob.{CheckedJob}
use Rattle.adp_main.specs.Ending.{IsOfVerdict, ShowsFirst, ShowsPart, ShowsVerdict}
use Rattle.adp_main.specs.Faults.{fault_verdict, status_after}
use Rattle.adp_main.specs.Reporting.{HasWritten, IsAdmissibleIn, IsCheckedJob, IsJobRefusal, IsLimitOf}
use Rattle.adp_main.specs.Verifying.{IsCertificateEnding, IsTold, score_reports, verify_refusal}
use Rattle.adp_main.proofs.FirstLimit.{own_limits}
use Rattle.adp_main.proofs.NestedReports.{TellsNested}
use Rattle.adp_main.proofs.Reported.{all_keep}
use Rattle.adp_main.proofs.Running.{no_wins, no_wins_number}
use Rattle.adp_main.proofs.Behind.{has_grown}

-- ---- the scores of words

pub score_reports-length : (number : ℕ) (scores : List (Option ℤ)) → length (score_reports number scores) ≡ length scores
score_reports-length number [] = refl
score_reports-length number (score ∷ scores) = ap suc (score_reports-length (number + 1) scores)

-- one more report
pub score_reports-more : (number : ℕ) (scores : List (Option ℤ)) (place : ℕ) (score other : Option ℤ)
    → place < length scores → score ≡ get_or scores place other
    → take (place + 1) (score_reports number scores)
    ≡ take place (score_reports number scores) ++ score_lines (number + place) score ∷ []
score_reports-more number [] place score other below is = absurd (omega arith)
score_reports-more number (first ∷ scores) zero score other below is =
    let here : number + 0 ≡ number = omega arith in
    λ i. score_lines (sym here i) (sym is i) ∷ []
score_reports-more number (first ∷ scores) (suc place) score other below is =
    let next : number + 1 + place ≡ number + suc place = omega arith in
    let more = score_reports-more (number + 1) scores place score other (omega (arith, below)) is in
    let count : suc place + 1 ≡ suc (place + 1) = omega arith in
    ap (λ n. take n (score_lines number first ∷ score_reports (number + 1) scores)) count
    ∙ ap (λ (pieces : List (List ℕ)). score_lines number first ∷ pieces) more
    ∙ ap (λ n. score_lines number first ∷ (take place (score_reports (number + 1) scores) ++ score_lines n score ∷ []))
    next

-- as many as words
pub scores-length : (grammar : Grammar) (algebra : ℕ) (words : List (List ℕ)) (scores : List (Option ℤ))
    → AreBestScores (posed_words grammar algebra words) scores → length scores ≡ length words
scores-length grammar algebra [] scores best = ap length best
scores-length grammar algebra (word ∷ words) [] best = absurd best
scores-length grammar algebra (word ∷ words) (score ∷ scores) best = ap suc (scores-length grammar algebra words scores best.1)

module _ (command : Command) (verifies : command.mode ≡ Verify) where
  -- best scores are what is reported
  scores_told : (grammar : Grammar) (algebra number : ℕ) (words : List (List ℕ)) (scores : List (Option ℤ))
      → AreBestScores (posed_words grammar algebra words) scores
      → AreReports command None grammar algebra number words (score_reports number scores)
  scores_told grammar algebra number [] [] best = tt
  scores_told grammar algebra number [] (score ∷ scores) best = absurd cc
  scores_told grammar algebra number (word ∷ words) [] best = absurd best
  scores_told grammar algebra number (word ∷ words) (score ∷ scores) best = (
    (
      no_wins command.workers,
      no_wins_number command.workers,
      subst (λ mode. IsReportWith mode command None number (posed_word grammar algebra word) (no_wins command.workers)
          (score_lines number score)) (sym verifies) (score, best.0, refl),
    ),
    scores_told grammar algebra (number + 1) words scores best.1,
  )

  pub is_told : (grammar : Grammar) (algebra : ℕ) (words : List (List ℕ)) (certificate : List ℕ)
      (scores : List (Option ℤ)) → AllByRecursion (IsAdmissibleIn command) (posed_words grammar algebra words)
      → IsRightFor grammar algebra words certificate → AreBestScores (posed_words grammar algebra words) scores
      → IsTold command grammar algebra words certificate (score_reports 1 scores)
  is_told grammar algebra words certificate scores admissible right best = record {
    right = right;
    reported = record {
      limits = all_keep command grammar algebra words admissible;
      reports_are = scores_told grammar algebra 1 words scores best;
    };
  }

-- each word keeps the limits of its own algebra
pub words_keep : (command : Command) (grammar : Grammar) (algebra : ℕ) (words : List (List ℕ))
    → AllByRecursion (IsAdmissibleIn command) (posed_words grammar algebra words)
    → All (λ (word : List ℕ). KeepsLimits grammar algebra (length word)) words
words_keep command grammar algebra [] all = All-nil (λ (word : List ℕ). KeepsLimits grammar algebra (length word))
words_keep command grammar algebra (word ∷ words) all =
    All-cons (λ (word : List ℕ). KeepsLimits grammar algebra (length word)) word words
    (own_limits command.second (posed_word grammar algebra word) all.0.0) (words_keep command grammar algebra words all.1)

-- ---- how the words were told

module _ (command : Command) (grammar : Grammar) (algebra : ℕ) (words : List (List ℕ)) (certificate : List ℕ) where
  -- a word passes a limit, or memory ran out
  pub limit_ending : (fault : Fault) (held : Option (List ℕ)) → IsLimitOf command grammar algebra words fault
      → IsCertificateEnding command grammar algebra words certificate (Err fault) held held
  limit_ending (faults.Limit word fault) held is = (is, Appends-nil held)
  limit_ending faults.Memory held is = inl (Appends-nil held)
  limit_ending faults.Usage held is = absurd is
  limit_ending faults.Read held is = absurd is
  limit_ending faults.Write held is = absurd is
  limit_ending faults.TooLong held is = absurd is
  limit_ending (faults.Text fault) held is = absurd is
  limit_ending (faults.Grammar fault) held is = absurd is
  limit_ending (faults.Rejected line) held is = absurd is

  -- the certificate is not accepted
  pub rejected_ending : (error : VerifyError) (held : Option (List ℕ))
      → AllByRecursion (IsAdmissibleIn command) (posed_words grammar algebra words)
      → IsRejection (posed_words grammar algebra words) (forms_of grammar certificate) error
      → IsCertificateEnding command grammar algebra words certificate (Err (verify_refusal error)) held held
  rejected_ending (verify_errors.Rejected rejected) held admissible is =
      (all_keep command grammar algebra words admissible, is, Appends-nil held)
  rejected_ending verify_errors.Memory held admissible is = inl (Appends-nil held)

  -- it was written of what the certificate tells
  pub told_ending : (result : Result (Unit {0}) Fault) (old new : Option (List ℕ)) (reports : List (List ℕ))
      → IsTold command grammar algebra words certificate reports → HasWritten result old new reports
      → IsCertificateEnding command grammar algebra words certificate result old new
  told_ending (Ok done) old new reports told written = (reports, told, written)
  told_ending (Err faults.Write) old new reports told written = (reports, told, written)
  told_ending (Err faults.Memory) old new reports told written = inr (reports, told, written)
  told_ending (Err faults.Usage) old new reports told written = absurd written
  told_ending (Err faults.Read) old new reports told written = absurd written
  told_ending (Err faults.TooLong) old new reports told written = absurd written
  told_ending (Err (faults.Text fault)) old new reports told written = absurd written
  told_ending (Err (faults.Grammar fault)) old new reports told written = absurd written
  told_ending (Err (faults.Limit word fault)) old new reports told written = absurd written
  told_ending (Err (faults.Rejected line)) old new reports told written = absurd written

  pub told_grew : (result : Result (Unit {0}) Fault) (old new : Option (List ℕ))
      → IsCertificateEnding command grammar algebra words certificate result old new
      → (bytes : List ℕ) × Appends old new bytes
  told_grew (Ok done) old new h = has_grown (Ok done) old new h.0 h.2
  told_grew (Err faults.Write) old new h = has_grown (Err faults.Write) old new h.0 h.2
  told_grew (Err faults.Memory) old new (inl none) = ([], none)
  told_grew (Err faults.Memory) old new (inr h) = has_grown (Err faults.Memory) old new h.0 h.2
  told_grew (Err (faults.Limit word fault)) old new h = ([], h.1)
  told_grew (Err (faults.Rejected line)) old new h = ([], h.2)
  told_grew (Err faults.Usage) old new h = absurd h.2
  told_grew (Err faults.Read) old new h = absurd h.2
  told_grew (Err faults.TooLong) old new h = absurd h.2
  told_grew (Err (faults.Text fault)) old new h = absurd h.2
  told_grew (Err (faults.Grammar fault)) old new h = absurd h.2

  pub told_short : (result : Result (Unit {0}) Fault) (old new : Option (List ℕ))
      → IsCertificateEnding command grammar algebra words certificate result old new → IfErr result HasShortName
  told_short (Ok done) old new h = tt
  told_short (Err faults.Write) old new h = tt
  told_short (Err faults.Memory) old new h = tt
  told_short (Err (faults.Limit word fault)) old new h = tt
  told_short (Err (faults.Rejected line)) old new h = tt
  told_short (Err faults.Usage) old new h = tt
  told_short (Err faults.Read) old new h = tt
  told_short (Err faults.TooLong) old new h = tt
  told_short (Err (faults.Text fault)) old new h = tt
  told_short (Err (faults.Grammar fault)) old new h = absurd h.2

  pub told_usage : (result : Result (Unit {0}) Fault) (old new : Option (List ℕ))
      → IsCertificateEnding command grammar algebra words certificate result old new → IsErrOf result faults.Usage → ⊥
  told_usage (Err faults.Usage) old new h e = absurd h.2
  told_usage (Ok done) old new h e = cc
  told_usage (Err faults.Write) old new h e = cc
  told_usage (Err faults.Memory) old new h e = cc
  told_usage (Err (faults.Limit word fault)) old new h e = cc
  told_usage (Err (faults.Rejected line)) old new h e = cc
  told_usage (Err faults.Read) old new h e = cc
  told_usage (Err faults.TooLong) old new h e = cc
  told_usage (Err (faults.Text fault)) old new h e = cc
  told_usage (Err (faults.Grammar fault)) old new h e = cc

  pub told_read : (result : Result (Unit {0}) Fault) (old new : Option (List ℕ))
      → IsCertificateEnding command grammar algebra words certificate result old new → IsErrOf result faults.Read → ⊥
  told_read (Err faults.Read) old new h e = absurd h.2
  told_read (Ok done) old new h e = cc
  told_read (Err faults.Write) old new h e = cc
  told_read (Err faults.Memory) old new h e = cc
  told_read (Err (faults.Limit word fault)) old new h e = cc
  told_read (Err (faults.Rejected line)) old new h e = cc
  told_read (Err faults.Usage) old new h e = cc
  told_read (Err faults.TooLong) old new h e = cc
  told_read (Err (faults.Text fault)) old new h e = cc
  told_read (Err (faults.Grammar fault)) old new h e = cc

-- ---- the verdict

module _ (command : Command) (words : List (List ℕ)) (is : IsCommand words command) (verifies : command.mode ≡ Verify)
    (bytes : List ℕ) (short : length bytes ≤ greatest_length) where
  asks_to_verify : AsksToVerify words
  asks_to_verify = (command, is, verifies)

  -- no line is `job`
  pub without_job : (line : ℕ) → IsWithoutJob bytes line → IsVerdict words bytes (verdicts.Rejected line)
  without_job line none = inr (asks_to_verify, (short, inl none))

  pub shows_without : (line : ℕ) → IsWithoutJob bytes line → (held : Option (List ℕ))
      → ShowsVerdict words bytes (status_after (Err (faults.Rejected line))) held held
  shows_without line none held = record {
    verdict = verdicts.Rejected line;
    is_verdict = without_job line none;
    status_is = refl;
    written = Appends-nil held;
  }

  module _ (certificate text : List ℕ) (parted : IsSplitAtJob bytes certificate text) where
    -- the job is refused
    pub refused_job : (fault : Fault) → IsJobRefusal words text fault
        → IfSome (fault_verdict fault) (λ verdict. IsVerdict words bytes verdict)
    refused_job (faults.Text fault) h = inr (asks_to_verify, (short, certificate, text, parted, h))
    refused_job (faults.Grammar fault) h = inr (asks_to_verify, (short, certificate, text, parted, h))
    refused_job faults.Memory h = tt
    refused_job faults.Usage h = absurd h
    refused_job faults.Read h = absurd h
    refused_job faults.Write h = absurd h
    refused_job faults.TooLong h = absurd h
    refused_job (faults.Limit word fault) h = absurd h
    refused_job (faults.Rejected line) h = absurd h

    pub shows_refused : (fault : Fault) → IsJobRefusal words text fault → (held : Option (List ℕ))
        → IsOfVerdict (status_after (Err fault)) → ShowsVerdict words bytes (status_after (Err fault)) held held
    shows_refused (faults.Text fault) h held of = record {
      verdict = verdicts.Text fault;
      is_verdict = inr (asks_to_verify, (short, certificate, text, parted, h));
      status_is = refl;
      written = Appends-nil held;
    }
    shows_refused (faults.Grammar fault) h held of = record {
      verdict = verdicts.Grammar fault;
      is_verdict = inr (asks_to_verify, (short, certificate, text, parted, h));
      status_is = refl;
      written = Appends-nil held;
    }
    shows_refused faults.Memory h held of = absurd of
    shows_refused faults.Usage h held of = absurd h
    shows_refused faults.Read h held of = absurd h
    shows_refused faults.Write h held of = absurd h
    shows_refused faults.TooLong h held of = absurd h
    shows_refused (faults.Limit word fault) h held of = absurd h
    shows_refused (faults.Rejected line) h held of = absurd h

    module _ (job : CheckedJob) (asked : IsCheckedJob words text command job) (tells : TellsNested command text job) where
      -- what holds of the checked job holds of the one that is asked about
      there : (Holds : Command → Grammar → List (List ℕ) → Type 0) → Holds command job.checked.grammar job.words
          → Holds asked.1.command asked.0.grammar asked.0.words
      there Holds =
          subst (λ (it : Command × Grammar × List (List ℕ)). Holds it.0 it.1 it.2)
          (λ i. (sym asked.2 i, asked.3 i, asked.4 i))

      abbrev within : KeepLimits command job.checked.grammar job.checked.algebra job.words → AsksWithin words text
      within kept = record {
        job = asked.0;
        algebra = job.checked.algebra;
        asked = asked.1;
        limits = there (λ c grammar ws. KeepLimits c grammar job.checked.algebra ws) kept;
      }

      limit_verdict : (word : ℕ) (fault : LimitFault)
          → IsFirstLimit command job.checked.grammar job.checked.algebra 1 job.words word fault
          → IsVerdict words bytes (verdicts.Limit word fault)
      limit_verdict word fault h = inr (
        asks_to_verify,
        (
          short,
          certificate,
          text,
          parted,
          (
            asked.0,
            job.checked.algebra,
            asked.1,
            there (λ c grammar ws. IsFirstLimit c grammar job.checked.algebra 1 ws word fault) h,
          ),
        ),
      )

      false_verdict : (line : ℕ) → KeepLimits command job.checked.grammar job.checked.algebra job.words
          → IsFalseFor job.checked.grammar job.checked.algebra job.words certificate line
          → IsVerdict words bytes (verdicts.Rejected line)
      false_verdict line kept h = inr (
        asks_to_verify,
        (
          short,
          inr (
            certificate,
            text,
            parted,
            within kept,
            there (λ c grammar ws. IsFalseFor grammar job.checked.algebra ws certificate line) h,
          ),
        ),
      )

      told_verdict : (reports : List (List ℕ))
          → IsTold command job.checked.grammar job.checked.algebra job.words certificate reports
          → IsVerdict words bytes (verdicts.Reports reports)
      told_verdict reports h = inr (
        asks_to_verify,
        (
          short,
          certificate,
          text,
          parted,
          within h.reported.limits,
          there (λ c grammar ws. IsRightFor grammar job.checked.algebra ws certificate) h.right,
          there (λ c grammar ws. AreReports c (hidden_in text) grammar job.checked.algebra 1 ws reports)
              (tells.reports reports h.reported.reports_are),
        ),
      )

      abbrev Ended : Result (Unit {0}) Fault → Option (List ℕ) → Option (List ℕ) → Type 0
      Ended result old new =
          IsCertificateEnding command job.checked.grammar job.checked.algebra job.words certificate result old new

      pub told_fault : (result : Result (Unit {0}) Fault) (old new : Option (List ℕ)) → Ended result old new
          → IfErr result (λ fault. IfSome (fault_verdict fault) (λ verdict. IsVerdict words bytes verdict))
      told_fault (Ok done) old new h = tt
      told_fault (Err faults.Write) old new h = tt
      told_fault (Err faults.Memory) old new h = tt
      told_fault (Err (faults.Limit word fault)) old new h = limit_verdict word fault h.0
      told_fault (Err (faults.Rejected line)) old new h = false_verdict line h.0 h.1
      told_fault (Err faults.Usage) old new h = absurd h.2
      told_fault (Err faults.Read) old new h = absurd h.2
      told_fault (Err faults.TooLong) old new h = absurd h.2
      told_fault (Err (faults.Text fault)) old new h = absurd h.2
      told_fault (Err (faults.Grammar fault)) old new h = absurd h.2

      pub told_shows : (result : Result (Unit {0}) Fault) (old new : Option (List ℕ)) → Ended result old new
          → IsOfVerdict (status_after result) → ShowsVerdict words bytes (status_after result) old new
      told_shows (Ok done) old new h of = record {
        verdict = verdicts.Reports h.0;
        is_verdict = told_verdict h.0 h.1;
        status_is = refl;
        written = h.2;
      }
      told_shows (Err (faults.Limit word fault)) old new h of = record {
        verdict = verdicts.Limit word fault;
        is_verdict = limit_verdict word fault h.0;
        status_is = refl;
        written = h.1;
      }
      told_shows (Err (faults.Rejected line)) old new h of = record {
        verdict = verdicts.Rejected line;
        is_verdict = false_verdict line h.0 h.1;
        status_is = refl;
        written = h.2;
      }
      told_shows (Err faults.Write) old new h of = absurd of
      told_shows (Err faults.Memory) old new h of = absurd of
      told_shows (Err faults.Usage) old new h of = absurd h.2
      told_shows (Err faults.Read) old new h of = absurd h.2
      told_shows (Err faults.TooLong) old new h of = absurd h.2
      told_shows (Err (faults.Text fault)) old new h of = absurd h.2
      told_shows (Err (faults.Grammar fault)) old new h of = absurd h.2

      pub told_part : (result : Result (Unit {0}) Fault) (old new : Option (List ℕ)) → Ended result old new
          → IsErrOf result faults.Write → ShowsPart words bytes old new
      told_part (Err faults.Write) old new h e =
          record { reports = h.0; is_verdict = told_verdict h.0 h.1; written = h.2 }
      told_part (Ok done) old new h e = cc
      told_part (Err faults.Usage) old new h e = cc
      told_part (Err faults.Read) old new h e = cc
      told_part (Err faults.TooLong) old new h e = cc
      told_part (Err (faults.Text fault)) old new h e = cc
      told_part (Err (faults.Grammar fault)) old new h e = cc
      told_part (Err (faults.Limit word fault)) old new h e = cc
      told_part (Err (faults.Rejected line)) old new h e = cc
      told_part (Err faults.Memory) old new h e = cc

      shows_first : (old new : Option (List ℕ)) → Ended (Err faults.Memory) old new → ShowsFirst words bytes old new
      shows_first old new (inl none) = inl none
      shows_first old new (inr h) = inr (h.0, h.2.0, told_verdict h.0 h.1, h.2.1)

      pub told_first : (result : Result (Unit {0}) Fault) (old new : Option (List ℕ)) → Ended result old new
          → IsErrOf result faults.Memory → ShowsFirst words bytes old new
      told_first (Err faults.Memory) old new h e = shows_first old new h
      told_first (Ok done) old new h e = cc
      told_first (Err faults.Usage) old new h e = cc
      told_first (Err faults.Read) old new h e = cc
      told_first (Err faults.Write) old new h e = cc
      told_first (Err faults.TooLong) old new h e = cc
      told_first (Err (faults.Text fault)) old new h e = cc
      told_first (Err (faults.Grammar fault)) old new h e = cc
      told_first (Err (faults.Limit word fault)) old new h e = cc
      told_first (Err (faults.Rejected line)) old new h e = cc
