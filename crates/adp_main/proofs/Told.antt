-- What is told of a job that was read: its notes, and that its grammar has sizes and ranks.
use Rattle.std.proofs.Common.{◌≡◌, ℕ, List, length, Option, Some, Err, IsErrOf, inl, inr, refl, sym, subst, ◌∙◌}
use Rattle.adp_model.specs.declared.grammar.Grammar.{Grammar}
use Rattle.adp_model.specs.declared.job.Job.{Job}
use Rattle.verdicts.specs.CheckableJobs.{AreCheckable, IsCheckableInput, IsJobPart}
use Rattle.adp_model.specs.Checks.{IsChecked}
use Rattle.verdicts.specs.Command.{Command, AsksToVerify}
use Rattle.adp_model.specs.PosedProblem.{PosedProblem}
use Rattle.verdicts.specs.Verdict.{AsksUnder}
use Rattle.evaluators.specs.declared.finished.RunNote.{RunNote}
use Rattle.report.specs.declared.fault.Fault.{Fault}
use Rattle.report.specs.declared.fault.Fault.TheVariants as faults
use Rattle.adp_main.specs.declared.checking.CheckedJob.{CheckedJob}
use Rattle.adp_main.specs.declared.status.Status.{Status}
use Rattle.adp_main.specs.declared.status.Status.TheVariants.{Done}
use Rattle.adp_main.specs.Faults.{status_of}
use Rattle.verdicts.specs.Certificates.{behind_reports}
use Rattle.verdicts.specs.Posed.{posed_words}
use Rattle.adp_main.specs.Reporting.{IsCheckedJob, IsJobRefusal}
use Rattle.adp_main.specs.RunNotes.{AreNoted, IsJobNoted, ShowsRuns}
use Rattle.nested_jobs.specs.NestedJob.{hidden_in}
use Rattle.adp_main.proofs.NestedReports.{TellsNested}

pub undone : (fault : Fault) → status_of fault ≡ Done → ⊥
undone faults.Usage e = cc
undone faults.Read e = cc
undone faults.Write e = cc
undone faults.TooLong e = cc
undone (faults.Text fault) e = cc
undone (faults.Grammar fault) e = cc
undone (faults.Limit word fault) e = cc
undone (faults.Rejected line) e = cc
undone faults.Memory e = cc

abbrev pub OneGrammar : Type 0
OneGrammar = (words : List (List ℕ)) (bytes : List ℕ) (a b : Job) (m n : ℕ) → AsksUnder words bytes a m
    → AsksUnder words bytes b n → a.grammar ≡ b.grammar

abbrev pub OneAlgebra : Type 0
OneAlgebra = (words : List (List ℕ)) (bytes : List ℕ) (a b : Job) (m n : ℕ) → AsksUnder words bytes a m
    → AsksUnder words bytes b n → m ≡ n

-- the grammar that was checked is that of every job that the words and the bytes ask about
pub checkable : OneGrammar → OneAlgebra → (words : List (List ℕ)) (bytes : List ℕ) (command : Command)
    (checked : CheckedJob) → IsCheckedJob words bytes command checked
    → (least : List ℕ) × (greatest : List (Option ℕ)) × (ranks : List ℕ)
    × IsChecked checked.checked.grammar checked.checked.algebra least greatest ranks
    → AreCheckable words bytes
checkable one_grammar one_algebra words bytes command checked asked (least, greatest, ranks, passes) = λ job algebra asks.
    let grammar : checked.checked.grammar ≡ job.grammar =
    asked.3 ∙ one_grammar words bytes asked.0 job checked.checked.algebra algebra asked.1 asks in
    let number = one_algebra words bytes asked.0 job checked.checked.algebra algebra asked.1 asks in (
      least,
      greatest,
      ranks,
      subst (λ (it : Grammar × ℕ). IsChecked it.0 it.1 least greatest ranks)
          (λ i. (grammar i, number i)) passes,
    )

-- the job of an input is all of it, where no certificate is checked
pub checkable_whole : (words : List (List ℕ)) (bytes : List ℕ) → (AsksToVerify words → ⊥) → AreCheckable words bytes
    → IsCheckableInput words bytes
checkable_whole words bytes other checks = by
  where
    by : (text : List ℕ) → IsJobPart words bytes text → AreCheckable words text
    by text (inl (finds, same)) = subst (AreCheckable words) (sym same) checks
    by text (inr (verifies, before, parted)) = absurd (other verifies)

pub runs_of : (words : List (List ℕ)) (bytes : List ℕ) (command : Command) (checked : CheckedJob)
    → (AsksToVerify words → ⊥) → IsCheckedJob words bytes command checked → TellsNested command bytes checked
    → (status : Status) (old new : Option (List RunNote)) (held held' : Option (List ℕ))
    → IsJobNoted command (posed_words checked.checked.grammar checked.checked.algebra checked.words)
    (behind_reports command.mode (length checked.words) bytes) status old new held held'
    → ShowsRuns words (Some bytes) status old new held held'
runs_of words bytes command checked finds asked tells status old new held held' (inl (same, none)) =
    inl (same, λ done. absurd (none done))
runs_of words bytes command checked finds asked tells status old new held held' (inr noted) =
    let problems : posed_words checked.checked.grammar checked.checked.algebra checked.words
    ≡ posed_words asked.0.grammar checked.checked.algebra asked.0.words =
    λ i. posed_words (asked.3 i) checked.checked.algebra (asked.4 i) in
    let here = subst (λ (it : List PosedProblem × ℕ).
    AreNoted command (hidden_in bytes) it.0 (behind_reports command.mode it.1 bytes) status old new held held')
    (λ i. (problems i, length (asked.4 i)))
    (tells.noted (behind_reports command.mode (length checked.words) bytes) status old new held held' noted) in
    inr (inl (
      finds,
      bytes,
      refl,
      record {
        job = asked.0;
        algebra = checked.checked.algebra;
        asked = asked.1;
        noted = subst (λ (it : Command). AreNoted it (hidden_in bytes)
            (posed_words asked.0.grammar checked.checked.algebra asked.0.words)
            (behind_reports it.mode (length asked.0.words) bytes) status old new held held') (sym asked.2) here;
      },
    ))
