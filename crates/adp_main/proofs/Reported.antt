-- From what was written of the reports of a checked job to the verdict on the words and the bytes.
use Rattle.std.proofs.Common.{◌≡◌, ℕ, ◌+◌, List, [], ◌∷◌, ◌++◌, length, Option, None, IfSome, IfErr, IsErrOf, Result, Ok, Err, inl, inr, refl, sym, subst}
use Rattle.std.specs.List.{AllByRecursion}
use Rattle.std.specs.Io.KnownBytes.{Appends}
use Rattle.std.proofs.KnownBytes.{Appends-nil}
use Rattle.adp_model.specs.declared.fault.LimitFault.{LimitFault}
use Rattle.adp_model.specs.declared.grammar.Grammar.{Grammar}
use Rattle.verdicts.specs.Certificates.{behind_reports}
use Rattle.verdicts.specs.Command.{Command, AsksToVerify}
use Rattle.adp_model.specs.PosedProblem.{PosedProblem}
use Rattle.verdicts.specs.Verdict.{IsVerdict, AreReports}
use Rattle.verdicts.specs.WordLimits.{IsFirstLimit, KeepLimits}
use Rattle.verdicts.specs.Verdict as verdicts
use Rattle.report.specs.declared.fault.Fault.{Fault}
use Rattle.report.specs.declared.fault.Fault.TheVariants as faults
use Rattle.adp_main.specs.declared.checking.CheckedJob.{CheckedJob}
use Rattle.adp_main.specs.Ending.{IsOfVerdict, ShowsFirst, ShowsPart, ShowsVerdict}
use Rattle.adp_main.specs.Faults.{fault_verdict, status_after}
use Rattle.adp_main.specs.Reporting.{AreReportsOf, HasWritten, IsAdmissibleIn, IsCheckedJob, IsJobEnding, IsJobRefusal, IsReported}
use Rattle.verdicts.specs.Posed.{posed_word, posed_words}
use Rattle.nested_jobs.specs.NestedJob.{hidden_in}
use Rattle.adp_main.proofs.FirstLimit.{kept_in}
use Rattle.adp_main.proofs.NestedReports.{TellsNested}
use Rattle.report.specs.Faults.{HasShortName}

module _ (command : Command) where
  reports_are : (grammar : Grammar) (algebra number : ℕ) (words reports : List (List ℕ))
      → AreReportsOf command number (posed_words grammar algebra words) reports → AreReports command None grammar algebra number words reports
  reports_are grammar algebra number [] [] h = tt
  reports_are grammar algebra number [] (report ∷ reports) h = absurd h
  reports_are grammar algebra number (word ∷ words) [] h = absurd h
  reports_are grammar algebra number (word ∷ words) (report ∷ reports) h = (h.0, reports_are grammar algebra (number + 1) words reports h.1)

  pub all_keep : (grammar : Grammar) (algebra : ℕ) (words : List (List ℕ)) → AllByRecursion (IsAdmissibleIn command) (posed_words grammar algebra words) → KeepLimits command grammar algebra words
  all_keep grammar algebra [] h = tt
  all_keep grammar algebra (word ∷ words) h = (kept_in command (posed_word grammar algebra word) h.0, all_keep grammar algebra words h.1)

  is_reported : (grammar : Grammar) (algebra : ℕ) (words : List (List ℕ)) (problems : List PosedProblem) → problems ≡ posed_words grammar algebra words
      → AllByRecursion (IsAdmissibleIn command) problems → (reports : List (List ℕ)) → AreReportsOf command 1 problems reports
      → IsReported command grammar algebra words reports
  is_reported grammar algebra words problems e admissible reports h = record {
    limits = all_keep grammar algebra words (subst (λ (ps : List PosedProblem). AllByRecursion (IsAdmissibleIn command) ps) e admissible);
    reports_are = reports_are grammar algebra 1 words reports (subst (λ (ps : List PosedProblem). AreReportsOf command 1 ps reports) e h);
  }

  pub job_ending : (grammar : Grammar) (algebra : ℕ) (words : List (List ℕ)) (input : List ℕ) (problems : List PosedProblem) → problems ≡ posed_words grammar algebra words
      → AllByRecursion (IsAdmissibleIn command) problems → (result : Result (Unit {0}) Fault) (old new : Option (List ℕ))
      → (reports : List (List ℕ)) × AreReportsOf command 1 problems reports
      × HasWritten result old new (reports ++ behind_reports command.mode (length words) input)
      → IsJobEnding command grammar algebra words input result old new
  job_ending grammar algebra words input problems e admissible (Ok x) old new h = (h.0, is_reported grammar algebra words problems e admissible h.0 h.1, h.2)
  job_ending grammar algebra words input problems e admissible (Err faults.Write) old new h = (h.0, is_reported grammar algebra words problems e admissible h.0 h.1, h.2)
  job_ending grammar algebra words input problems e admissible (Err faults.Memory) old new h = inr (h.0, is_reported grammar algebra words problems e admissible h.0 h.1, h.2)
  job_ending grammar algebra words input problems e admissible (Err faults.Usage) old new h = absurd h.2
  job_ending grammar algebra words input problems e admissible (Err faults.Read) old new h = absurd h.2
  job_ending grammar algebra words input problems e admissible (Err faults.TooLong) old new h = absurd h.2
  job_ending grammar algebra words input problems e admissible (Err (faults.Text fault)) old new h = absurd h.2
  job_ending grammar algebra words input problems e admissible (Err (faults.Grammar fault)) old new h = absurd h.2
  job_ending grammar algebra words input problems e admissible (Err (faults.Limit word fault)) old new h = absurd h.2
  job_ending grammar algebra words input problems e admissible (Err (faults.Rejected line)) old new h = absurd h.2

  -- the reports of a checked job are the verdict
  abbrev pieces : CheckedJob → List ℕ → List (List ℕ) → List (List ℕ)
  pieces job bytes reports = reports ++ behind_reports command.mode (length job.words) bytes

  reports_verdict : (words : List (List ℕ)) (bytes : List ℕ) (other : AsksToVerify words → ⊥) (job : CheckedJob) → IsCheckedJob words bytes command job → TellsNested command bytes job → (reports : List (List ℕ))
      → IsReported command job.checked.grammar job.checked.algebra job.words reports
      → IsVerdict words bytes (verdicts.Reports (pieces job bytes reports))
  reports_verdict words bytes other job asked tells reports h =
      inl (
        other,
        inl (
          asked.0,
          job.checked.algebra,
          asked.1,
          subst (λ (it : Command × Grammar × List (List ℕ)). KeepLimits it.0 it.1 job.checked.algebra it.2)
              (λ i. (sym asked.2 i, asked.3 i, asked.4 i)) h.limits,
          reports,
          subst (λ (it : Command × Grammar × List (List ℕ)).
              AreReports it.0 (hidden_in bytes) it.1 job.checked.algebra 1 it.2 reports)
              (λ i. (sym asked.2 i, asked.3 i, asked.4 i)) (tells.reports reports h.reports_are),
          λ i. reports ++ behind_reports (sym asked.2 i).mode (length (asked.4 i)) bytes,
        ),
      )

  pub shows_part : (words : List (List ℕ)) (bytes : List ℕ) (other : AsksToVerify words → ⊥) (job : CheckedJob) → IsCheckedJob words bytes command job → TellsNested command bytes job
      → (result : Result (Unit {0}) Fault) (old new : Option (List ℕ)) → IsJobEnding command job.checked.grammar job.checked.algebra job.words bytes result old new
      → IsErrOf result faults.Write → ShowsPart words bytes old new
  shows_part words bytes other job asked tells (Err faults.Write) old new h e = record { reports = pieces job bytes h.0; is_verdict = reports_verdict words bytes other job asked tells h.0 h.1; written = h.2 }
  shows_part words bytes other job asked tells (Ok x) old new h e = cc
  shows_part words bytes other job asked tells (Err faults.Usage) old new h e = cc
  shows_part words bytes other job asked tells (Err faults.Read) old new h e = cc
  shows_part words bytes other job asked tells (Err faults.TooLong) old new h e = cc
  shows_part words bytes other job asked tells (Err (faults.Text fault)) old new h e = cc
  shows_part words bytes other job asked tells (Err (faults.Grammar fault)) old new h e = cc
  shows_part words bytes other job asked tells (Err (faults.Limit word fault)) old new h e = cc
  shows_part words bytes other job asked tells (Err (faults.Rejected line)) old new h e = cc
  shows_part words bytes other job asked tells (Err faults.Memory) old new h e = cc

  pub shows_first : (words : List (List ℕ)) (bytes : List ℕ) (other : AsksToVerify words → ⊥) (job : CheckedJob) → IsCheckedJob words bytes command job → TellsNested command bytes job → (old new : Option (List ℕ))
      → IsJobEnding command job.checked.grammar job.checked.algebra job.words bytes (Err faults.Memory) old new → ShowsFirst words bytes old new
  shows_first words bytes other job asked tells old new (inl none) = inl none
  shows_first words bytes other job asked tells old new (inr h) = inr (pieces job bytes h.0, h.2.0, reports_verdict words bytes other job asked tells h.0 h.1, h.2.1)

  pub first_of : (words : List (List ℕ)) (bytes : List ℕ) (other : AsksToVerify words → ⊥) (job : CheckedJob) → IsCheckedJob words bytes command job → TellsNested command bytes job
      → (result : Result (Unit {0}) Fault) (old new : Option (List ℕ)) → IsJobEnding command job.checked.grammar job.checked.algebra job.words bytes result old new
      → IsErrOf result faults.Memory → ShowsFirst words bytes old new
  first_of words bytes other job asked tells (Err faults.Memory) old new h e = shows_first words bytes other job asked tells old new h
  first_of words bytes other job asked tells (Err faults.Usage) old new h e = cc
  first_of words bytes other job asked tells (Err faults.Read) old new h e = cc
  first_of words bytes other job asked tells (Err faults.TooLong) old new h e = cc
  first_of words bytes other job asked tells (Err (faults.Text fault)) old new h e = cc
  first_of words bytes other job asked tells (Err (faults.Grammar fault)) old new h e = cc
  first_of words bytes other job asked tells (Ok x) old new h e = cc
  first_of words bytes other job asked tells (Err faults.Write) old new h e = cc
  first_of words bytes other job asked tells (Err (faults.Limit word fault)) old new h e = cc
  first_of words bytes other job asked tells (Err (faults.Rejected line)) old new h e = cc

  limit_verdict : (words : List (List ℕ)) (bytes : List ℕ) (other : AsksToVerify words → ⊥) (job : CheckedJob) → IsCheckedJob words bytes command job → (word : ℕ) (fault : LimitFault)
      → IsFirstLimit command job.checked.grammar job.checked.algebra 1 job.words word fault → IsVerdict words bytes (verdicts.Limit word fault)
  limit_verdict words bytes other job asked word fault h = inl (
    other,
    (
      asked.0,
      job.checked.algebra,
      asked.1,
      subst (λ (it : Command × Grammar × List (List ℕ)).
          IsFirstLimit it.0 it.1 job.checked.algebra 1 it.2 word fault)
          (λ i. (sym asked.2 i, asked.3 i, asked.4 i)) h,
    ),
  )

  pub fault_of : (words : List (List ℕ)) (bytes : List ℕ) (other : AsksToVerify words → ⊥) (job : CheckedJob) → IsCheckedJob words bytes command job
      → (result : Result (Unit {0}) Fault) (old new : Option (List ℕ)) → IsJobEnding command job.checked.grammar job.checked.algebra job.words bytes result old new
      → IfErr result (λ fault. IfSome (fault_verdict fault) (λ verdict. IsVerdict words bytes verdict))
  fault_of words bytes other job asked (Err (faults.Limit word fault)) old new h = limit_verdict words bytes other job asked word fault h.0
  fault_of words bytes other job asked (Ok x) old new h = tt
  fault_of words bytes other job asked (Err faults.Write) old new h = tt
  fault_of words bytes other job asked (Err faults.Memory) old new h = tt
  fault_of words bytes other job asked (Err faults.Usage) old new h = absurd h.2
  fault_of words bytes other job asked (Err faults.Read) old new h = absurd h.2
  fault_of words bytes other job asked (Err faults.TooLong) old new h = absurd h.2
  fault_of words bytes other job asked (Err (faults.Text fault)) old new h = absurd h.2
  fault_of words bytes other job asked (Err (faults.Grammar fault)) old new h = absurd h.2
  fault_of words bytes other job asked (Err (faults.Rejected line)) old new h = absurd h.2

  pub verdict_of : (words : List (List ℕ)) (bytes : List ℕ) (other : AsksToVerify words → ⊥) (job : CheckedJob) → IsCheckedJob words bytes command job → TellsNested command bytes job
      → (result : Result (Unit {0}) Fault) (old new : Option (List ℕ)) → IsJobEnding command job.checked.grammar job.checked.algebra job.words bytes result old new
      → IsOfVerdict (status_after result) → ShowsVerdict words bytes (status_after result) old new
  verdict_of words bytes other job asked tells (Ok x) old new h of = record { verdict = verdicts.Reports (pieces job bytes h.0); is_verdict = reports_verdict words bytes other job asked tells h.0 h.1; status_is = refl; written = h.2 }
  verdict_of words bytes other job asked tells (Err (faults.Limit word fault)) old new h of =
      record { verdict = verdicts.Limit word fault; is_verdict = limit_verdict words bytes other job asked word fault h.0; status_is = refl; written = h.1 }
  verdict_of words bytes other job asked tells (Err faults.Write) old new h of = absurd of
  verdict_of words bytes other job asked tells (Err faults.Memory) old new h of = absurd of
  verdict_of words bytes other job asked tells (Err faults.Usage) old new h of = absurd h.2
  verdict_of words bytes other job asked tells (Err faults.Read) old new h of = absurd h.2
  verdict_of words bytes other job asked tells (Err faults.TooLong) old new h of = absurd h.2
  verdict_of words bytes other job asked tells (Err (faults.Text fault)) old new h of = absurd h.2
  verdict_of words bytes other job asked tells (Err (faults.Grammar fault)) old new h of = absurd h.2
  verdict_of words bytes other job asked tells (Err (faults.Rejected line)) old new h of = absurd h.2

  pub grew_of : (grammar : Grammar) (algebra : ℕ) (words : List (List ℕ)) (input : List ℕ) (result : Result (Unit {0}) Fault) (old new : Option (List ℕ))
      → IsJobEnding command grammar algebra words input result old new → (bytes : List ℕ) × Appends old new bytes
  grew_of grammar algebra words input (Ok x) old new h = (_, h.2)
  grew_of grammar algebra words input (Err faults.Write) old new h = (_, h.2.2)
  grew_of grammar algebra words input (Err faults.Memory) old new (inl none) = ([], none)
  grew_of grammar algebra words input (Err faults.Memory) old new (inr h) = (_, h.2.1)
  grew_of grammar algebra words input (Err (faults.Limit word fault)) old new h = ([], h.1)
  grew_of grammar algebra words input (Err faults.Usage) old new h = absurd h.2
  grew_of grammar algebra words input (Err faults.Read) old new h = absurd h.2
  grew_of grammar algebra words input (Err faults.TooLong) old new h = absurd h.2
  grew_of grammar algebra words input (Err (faults.Text fault)) old new h = absurd h.2
  grew_of grammar algebra words input (Err (faults.Grammar fault)) old new h = absurd h.2
  grew_of grammar algebra words input (Err (faults.Rejected line)) old new h = absurd h.2

  -- a fault of a checked job is none of its grammar
  pub short_of : (grammar : Grammar) (algebra : ℕ) (words : List (List ℕ)) (input : List ℕ) (result : Result (Unit {0}) Fault) (old new : Option (List ℕ))
      → IsJobEnding command grammar algebra words input result old new → IfErr result HasShortName
  short_of grammar algebra words input (Ok x) old new h = tt
  short_of grammar algebra words input (Err (faults.Grammar fault)) old new h = absurd h.2
  short_of grammar algebra words input (Err faults.Usage) old new h = tt
  short_of grammar algebra words input (Err faults.Read) old new h = tt
  short_of grammar algebra words input (Err faults.Write) old new h = tt
  short_of grammar algebra words input (Err faults.TooLong) old new h = tt
  short_of grammar algebra words input (Err (faults.Text fault)) old new h = tt
  short_of grammar algebra words input (Err (faults.Limit word fault)) old new h = tt
  short_of grammar algebra words input (Err (faults.Rejected line)) old new h = tt
  short_of grammar algebra words input (Err faults.Memory) old new h = tt

  -- the job was refused, and nothing was written
  pub refused : (words : List (List ℕ)) (bytes : List ℕ) (other : AsksToVerify words → ⊥) (fault : Fault) → IsJobRefusal words bytes fault → (old : Option (List ℕ))
      → IsOfVerdict (status_after (Err fault)) → ShowsVerdict words bytes (status_after (Err fault)) old old
  refused words bytes other (faults.Text fault) h old of = record { verdict = verdicts.Text fault; is_verdict = inl (other, h); status_is = refl; written = Appends-nil old }
  refused words bytes other (faults.Grammar fault) h old of = record { verdict = verdicts.Grammar fault; is_verdict = inl (other, h); status_is = refl; written = Appends-nil old }
  refused words bytes other faults.Memory h old of = absurd of
  refused words bytes other faults.Usage h old of = absurd h
  refused words bytes other faults.Read h old of = absurd h
  refused words bytes other faults.Write h old of = absurd h
  refused words bytes other faults.TooLong h old of = absurd h
  refused words bytes other (faults.Limit word fault) h old of = absurd h
  refused words bytes other (faults.Rejected line) h old of = absurd h

  pub refusal_verdict : (words : List (List ℕ)) (bytes : List ℕ) (other : AsksToVerify words → ⊥) (fault : Fault) → IsJobRefusal words bytes fault → IfSome (fault_verdict fault) (λ verdict. IsVerdict words bytes verdict)
  refusal_verdict words bytes other (faults.Text fault) h = inl (other, h)
  refusal_verdict words bytes other (faults.Grammar fault) h = inl (other, h)
  refusal_verdict words bytes other (faults.Rejected line) h = absurd h
  refusal_verdict words bytes other faults.Memory h = tt
  refusal_verdict words bytes other faults.Usage h = absurd h
  refusal_verdict words bytes other faults.Read h = absurd h
  refusal_verdict words bytes other faults.Write h = absurd h
  refusal_verdict words bytes other faults.TooLong h = absurd h
  refusal_verdict words bytes other (faults.Limit word fault) h = absurd h
