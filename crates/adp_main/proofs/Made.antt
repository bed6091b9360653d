-- How a run ends that makes its word.
use Rattle.std.proofs.Common.{◌≡◌, ℕ, List, [], ◌∷◌, Option, Result, Ok, Err, inl, inr, refl, sym, subst}
use Rattle.std.specs.List.{concat}
use Rattle.std.specs.Io.KnownBytes.{Appends}
use Rattle.std.proofs.lemmas.List.{append-nil}
use Rattle.adp_io.specs.Streams.{AppendsProperPrefix}
use Rattle.adp_model.specs.BigReport.{IsBigReport}
use Rattle.verdicts.specs.declared.command.Mode.TheVariants.{Big}
use Rattle.verdicts.specs.Command.{Command, IsCommand, AsksToVerify}
use Rattle.verdicts.specs.Verdict.{IsVerdict}
use Rattle.verdicts.specs.Verdict as verdicts
use Rattle.evaluators.specs.declared.finished.RunNote.{RunNote}
use Rattle.report.specs.declared.fault.Fault.{Fault}
use Rattle.report.specs.declared.fault.Fault.TheVariants as faults
use Rattle.adp_main.specs.declared.status.Status.{Status}
use Rattle.adp_main.specs.declared.status.Status.TheVariants.{Usage, ReadFault, WriteFault, Limit, Memory}
use Rattle.adp_main.specs.Faults.{status_after}
use Rattle.adp_main.specs.Ending.{IsBeforeWriting, IsOfVerdict, ShowsFirst, ShowsPart, ShowsVerdict}
use Rattle.adp_main.specs.RunNotes.{AddsNotes, IsBigRun, ShowsRuns}
use Rattle.adp_main.specs.Writing.{IsWordEnding}

-- what holds of the status and the output of such a run
pub record MadeEnding (words : List (List ℕ)) (status : Status) (old new : Option (List RunNote))
    (held held' : Option (List ℕ)) : Type 0 where
  pub not_usage : status ≡ Usage → ⊥
  pub not_read : status ≡ ReadFault → ⊥
  pub keeps : status ≡ Limit → ⊥
  pub writes : IsBeforeWriting status → ⊥
  pub grew : (bytes : List ℕ) × Appends held held' bytes
  pub verdict : IsOfVerdict status → (bytes : List ℕ) → ShowsVerdict words bytes status held held'
  pub part : status ≡ WriteFault → (bytes : List ℕ) → ShowsPart words bytes held held'
  pub first : status ≡ Memory → (bytes : List ℕ) → ShowsFirst words bytes held held'
  pub noted : (left : Option (List ℕ)) → ShowsRuns words left status old new held held'

one_report : (report : List ℕ) → concat (report ∷ []) ≡ report
one_report report = append-nil report

module _ (words : List (List ℕ)) (command : Command) (is : IsCommand words command) (makes : command.mode ≡ Big)
    (other : AsksToVerify words → ⊥) where
  reported : (bytes report : List ℕ) → IsBigReport command.seed command.size report
      → IsVerdict words bytes (verdicts.Reports (report ∷ []))
  reported bytes report made = inl (other, inr (command, is, makes, report, made, refl))

  pub made_ending : (result : Result (Unit {0}) Fault) (old new : Option (List RunNote)) (held held' : Option (List ℕ))
      → IsWordEnding (IsBigRun command) result old new held held' → MadeEnding words (status_after result) old new held held'
  made_ending (Ok written) old new held held' (report, noted, (made, note, one, for), adds, whole) = record {
    not_usage = λ e. cc;
    not_read = λ e. cc;
    keeps = λ e. cc;
    writes = λ before. before;
    grew = (report, whole);
    verdict = λ _ bytes. record {
      verdict = verdicts.Reports (report ∷ []);
      is_verdict = reported bytes report made;
      status_is = refl;
      written = subst (Appends held held') (sym (one_report report)) whole;
    };
    part = λ e. cc;
    first = λ e. cc;
    noted = λ _. inr (inr (
      refl,
      record {
        command = command;
        is_command = is;
        makes = makes;
        note = note;
        is_note = for;
        noted = subst (AddsNotes old new) one adds;
      },
    ));
  }
  made_ending (Err faults.Write) old new held held' (same, report, noted, (made, note, one, for), part) = record {
    not_usage = λ e. cc;
    not_read = λ e. cc;
    keeps = λ e. cc;
    writes = λ before. before;
    grew = (_, part.2);
    verdict = λ of. absurd of;
    part = λ _ bytes. record {
      reports = report ∷ [];
      is_verdict = reported bytes report made;
      written = subst (AppendsProperPrefix held held') (sym (one_report report)) part;
    };
    first = λ e. cc;
    noted = λ _. inl (same, λ e. absurd cc);
  }
  made_ending (Err faults.Memory) old new held held' (same, inl none) = record {
    not_usage = λ e. cc;
    not_read = λ e. cc;
    keeps = λ e. cc;
    writes = λ before. before;
    grew = ([], none);
    verdict = λ of. absurd of;
    part = λ e. cc;
    first = λ _ bytes. inl none;
    noted = λ _. inl (same, λ e. absurd cc);
  }
  made_ending (Err faults.Memory) old new held held' (same, inr (report, noted, (made, note, one, for), whole)) = record {
    not_usage = λ e. cc;
    not_read = λ e. cc;
    keeps = λ e. cc;
    writes = λ before. before;
    grew = (report, whole);
    verdict = λ of. absurd of;
    part = λ e. cc;
    first = λ _ bytes. inr (
      report ∷ [],
      1,
      reported bytes report made,
      subst (Appends held held') (sym (one_report report)) whole,
    );
    noted = λ _. inl (same, λ e. absurd cc);
  }
  made_ending (Err faults.Usage) old new held held' h = absurd h
  made_ending (Err faults.Read) old new held held' h = absurd h
  made_ending (Err faults.TooLong) old new held held' h = absurd h
  made_ending (Err (faults.Text fault)) old new held held' h = absurd h
  made_ending (Err (faults.Grammar fault)) old new held held' h = absurd h
  made_ending (Err (faults.Limit word fault)) old new held held' h = absurd h
  made_ending (Err (faults.Rejected line)) old new held held' h = absurd h
