-- How one word ends: its report and what was noted of it.
use Rattle.std.proofs.Common.{◌≡◌, ℕ, zero, suc, ◌+◌, ◌<◌, ◌≤◌, inl, inr, List, [], ◌∷◌, ◌++◌, length, take, get_or, Option, None, Some, Result, Ok, Err, refl, sym, ap, subst, ◌∙◌, arith}
use Rattle.std.specs.List.{concat, AllByRecursion}
use Rattle.std.specs.Io.KnownBytes.{Appends}
use Rattle.std.proofs.KnownBytes.{Appends-nil, Appends-trans}
use Rattle.std.proofs.lemmas.List.{append-nil, append_assoc, take_more, length-take-le}
use Rattle.adp_io.specs.Streams.{AppendsProperPrefix}
use Rattle.adp_model.specs.PosedProblem.{PosedProblem}
use Rattle.verdicts.specs.declared.command.Mode.{Mode}
use Rattle.verdicts.specs.declared.command.Mode.TheVariants.{Serial, KBest, Lex}
use Rattle.verdicts.specs.Command.{Command}
use Rattle.adp_model.specs.Bounds.{IsScoreBound}
use Rattle.lex_product.specs.CompiledGrammar.{compiled_problem, multiplier_of}
use Rattle.lex_product.specs.PairReport.{IsPairReport}
use Rattle.verdicts.specs.SecondAlgebra.{IsAdmissibleWith, IsSecond}
use Rattle.verdicts.specs.Verdict.{IsReportIn, IsReportWith}
use Rattle.evaluators.specs.declared.finished.Finished.{Finished}
use Rattle.evaluators.specs.declared.finished.RunNote.{RunNote}
use Rattle.report.specs.declared.fault.Fault.{Fault}
use Rattle.report.specs.declared.fault.Fault.TheVariants as faults
use Rattle.adp_main.specs.declared.status.Status.{Status}
use Rattle.adp_main.specs.declared.status.Status.TheVariants.{Done, WriteFault, Memory}
use Rattle.adp_main.specs.Faults.{status_of}
use Rattle.adp_main.specs.Reporting.{AreReportsOf, HasWritten}
use Rattle.adp_main.specs.RunNotes.{AddsNotes, AreNoted, AreRunsOf, IsNoteFor, IsNoteIn, IsRunOf, SweepsOnce}
use Rattle.adp_main.specs.Writing.{IsReportWritten, IsRunWith, IsWordEnding}
use Rattle.adp_main.proofs.Written.{AllReported, stopped, one_more, grew_more, broken}

-- wins of so many evaluators, none of which has won
abbrev pub no_wins : ℕ → List ℕ
no_wins zero = []
no_wins (suc count) = 0 ∷ no_wins count

pub no_wins_number : (count : ℕ) → length (no_wins count) ≡ count
no_wins_number zero = refl
no_wins_number (suc count) = ap suc (no_wins_number count)

-- the note of a run has as many wins as there are evaluators
note_wins : (mode : Mode) (command : Command) (p : PosedProblem) (note : RunNote) → IsNoteIn mode command p note
    → length note.wins ≡ command.workers
note_wins Lex command p note (second, bound, named, bounded, for) = for.wins_each
note_wins mode command p note for = for.wins_each

-- the note for a word's own problem, in a mode that asks for no second algebra
note_in : (mode : Mode) → (mode ≡ Lex → ⊥) → (command : Command) (p : PosedProblem) (note : RunNote)
    → IsNoteFor command p note → IsNoteIn mode command p note
note_in Lex other command p note for = absurd (other refl)
note_in mode other command p note for = for

-- the report of one sweep tells no wins
without_wins : (command : Command) (number : ℕ) (p : PosedProblem) (wins others report : List ℕ)
    → SweepsOnce command.mode → IsReportWith command.mode command None number p wins report
    → IsReportWith command.mode command None number p others report
without_wins command number p wins others report (inl serial) is =
    subst (λ mode. IsReportWith mode command None number p others report) (sym serial)
    (subst (λ mode. IsReportWith mode command None number p wins report) serial is)
without_wins command number p wins others report (inr kbest) is =
    subst (λ mode. IsReportWith mode command None number p others report) (sym kbest)
    (subst (λ mode. IsReportWith mode command None number p wins report) kbest is)

-- a report beside what was noted of it is one that the command asks for
pub run_report : (command : Command) (number : ℕ) (p : PosedProblem) (report : List ℕ) (noted : List RunNote)
    → IsRunOf command None number p report noted → IsReportIn command None number p report
run_report command number p report noted (inl (sweeps, none, is)) = (
  no_wins command.workers,
  no_wins_number command.workers,
  without_wins command number p [] (no_wins command.workers) report sweeps is,
)
run_report command number p report noted (inr (other, note, one, for, is)) =
    (note.wins, note_wins command.mode command p note for, is)

-- ---- word by word

module _ (command : Command) where
  pub runs_joined : (number : ℕ) (ps qs : List PosedProblem) (rs ss : List (List ℕ)) (notes others : List RunNote)
      → AreRunsOf command None number ps rs notes → AreRunsOf command None (number + length ps) qs ss others
      → AreRunsOf command None number (ps ++ qs) (rs ++ ss) (notes ++ others)
  runs_joined number [] qs [] ss notes others h k =
      let e : number + 0 ≡ number = omega arith in
      subst (λ (it : List RunNote). AreRunsOf command None number qs ss (it ++ others)) (sym h)
      (subst (λ n. AreRunsOf command None n qs ss others) e k)
  runs_joined number [] qs (r ∷ rs) ss notes others h k = absurd h
  runs_joined number (p ∷ ps) qs [] ss notes others h k = absurd h
  runs_joined number (p ∷ ps) qs (r ∷ rs) ss notes others (noted, rest, is, run, runs) k =
      let e : number + length (p ∷ ps) ≡ number + 1 + length ps = omega arith in (
        noted,
        rest ++ others,
        ap (λ (it : List RunNote). it ++ others) is ∙ append_assoc noted rest others,
        run,
        runs_joined (number + 1) ps qs rs ss rest others runs
            (subst (λ n. AreRunsOf command None n qs ss others) e k),
      )

  -- one more word
  pub one_more_run : (ps : List PosedProblem) (k : ℕ) (p : PosedProblem) → k < length ps → p ≡ get_or ps k p
      → (rs : List (List ℕ)) (notes : List RunNote) → AreRunsOf command None 1 (take k ps) rs notes
      → (report : List ℕ) (noted : List RunNote) → IsRunOf command None (k + 1) p report noted
      → AreRunsOf command None 1 (take (k + 1) ps) (rs ++ report ∷ []) (notes ++ noted)
  one_more_run ps k p below is rs notes runs report noted run =
      let e : k + 1 ≡ 1 + length (take k ps) = omega (arith, length-take-le k ps (omega arith)) in
      let more : take (k + 1) ps ≡ take k ps ++ p ∷ [] =
      take_more ps k p below ∙ ap (λ q. take k ps ++ q ∷ []) (sym is) in
      subst (λ qs. AreRunsOf command None 1 qs (rs ++ report ∷ []) (notes ++ noted)) (sym more)
      (runs_joined 1 (take k ps) (p ∷ []) rs (report ∷ []) notes noted runs
      (noted, [], sym (append-nil noted), subst (λ n. IsRunOf command None n p report noted) e run, refl))

  pub run_reports : (number : ℕ) (ps : List PosedProblem) (rs : List (List ℕ)) (notes : List RunNote)
      → AreRunsOf command None number ps rs notes → AreReportsOf command number ps rs
  run_reports number [] [] notes h = tt
  run_reports number [] (r ∷ rs) notes h = absurd h
  run_reports number (p ∷ ps) [] notes h = absurd h
  run_reports number (p ∷ ps) (r ∷ rs) notes (noted, rest, is, run, runs) =
      (run_report command number p r noted run, run_reports (number + 1) ps rs rest runs)

pub adds_none : (notes : Option (List RunNote)) → AddsNotes notes notes []
adds_none None = refl
adds_none (Some old) = ap Some (sym (append-nil old))

pub adds_more : (old mid new : Option (List RunNote)) (notes noted : List RunNote) → AddsNotes old mid notes
    → AddsNotes mid new noted → AddsNotes old new (notes ++ noted)
adds_more None mid new notes noted h k = subst (λ it. AddsNotes it new noted) h k
adds_more (Some old) mid new notes noted h k =
    subst (λ it. AddsNotes it new noted) h k ∙ ap Some (append_assoc old notes noted)

-- ---- how the words of a job ended

module _ (command : Command) (each : AllReported command) (ps : List PosedProblem)
    (admissible : AllByRecursion (IsAdmissibleWith command.second) ps) (k : ℕ) (rs : List (List ℕ)) (notes : List RunNote)
    (runs : AreRunsOf command None 1 (take k ps) rs notes) (old mid new : Option (List RunNote))
    (held held' held'' : Option (List ℕ)) (told : AddsNotes old mid notes) (grew : Appends held held' (concat rs)) where
  reports : AreReportsOf command 1 (take k ps) rs
  reports = run_reports command 1 (take k ps) rs notes runs

  -- a word was not reported
  pub failed_written : (p : PosedProblem) → k < length ps → p ≡ get_or ps k p → (fault : Fault)
      → IsWordEnding (IsRunOf command None (k + 1) p) (Err fault) mid new held' held''
      → (all : List (List ℕ)) × AreReportsOf command 1 ps all × HasWritten (Err fault) held held'' all
  failed_written p below is faults.Write (same, report, noted, run, part) =
      broken command each ps k p below is admissible rs reports report report
      (run_report command (k + 1) p report noted run) refl held held' held'' grew part
  failed_written p below is faults.Memory (same, inl none) =
      stopped command each ps k admissible rs reports held held''
      (subst (Appends held held'') (append-nil (concat rs)) (Appends-trans held held' held'' (concat rs) [] grew none))
  failed_written p below is faults.Memory (same, inr (report, noted, run, whole)) =
      stopped command each ps (k + 1) admissible (rs ++ report ∷ [])
      (one_more command ps k p below is rs reports report (run_report command (k + 1) p report noted run)) held held''
      (grew_more rs report report refl held held' held'' grew whole)
  failed_written p below is faults.Usage h = absurd h
  failed_written p below is faults.Read h = absurd h
  failed_written p below is faults.TooLong h = absurd h
  failed_written p below is (faults.Text fault) h = absurd h
  failed_written p below is (faults.Grammar fault) h = absurd h
  failed_written p below is (faults.Limit word fault) h = absurd h
  failed_written p below is (faults.Rejected line) h = absurd h

  stopped_noted : (status : Status) → (status ≡ Done → ⊥) → new ≡ mid → (more : List ℕ) → Appends held' held'' more
      → AreNoted command None ps [] status old new held held''
  stopped_noted status undone same more after = record {
    count = k;
    reports = rs;
    notes = notes;
    runs = runs;
    noted = subst (λ it. AddsNotes old it notes) (sym same) told;
    written = (more, Appends-trans held held' held'' (concat rs) more grew after);
    done = λ e. absurd (undone e);
  }

  pub failed_noted : (p : PosedProblem) (fault : Fault)
      → IsWordEnding (IsRunOf command None (k + 1) p) (Err fault) mid new held' held''
      → AreNoted command None ps [] (status_of fault) old new held held''
  failed_noted p faults.Write (same, report, noted, run, part) =
      stopped_noted WriteFault (λ e. cc) same (take part.0 report) part.2
  failed_noted p faults.Memory (same, inl none) = stopped_noted Memory (λ e. cc) same [] none
  failed_noted p faults.Memory (same, inr (report, noted, run, whole)) = stopped_noted Memory (λ e. cc) same report whole
  failed_noted p faults.Usage h = absurd h
  failed_noted p faults.Read h = absurd h
  failed_noted p faults.TooLong h = absurd h
  failed_noted p (faults.Text fault) h = absurd h
  failed_noted p (faults.Grammar fault) h = absurd h
  failed_noted p (faults.Limit word fault) h = absurd h
  failed_noted p (faults.Rejected line) h = absurd h

  -- all words were reported
  pub all_noted : length ps ≤ k → AreNoted command None ps [] Done old mid held held'
  all_noted all = record {
    count = k;
    reports = rs;
    notes = notes;
    runs = runs;
    noted = told;
    written = ([], subst (Appends held held') (sym (append-nil (concat rs))) grew);
    done = λ _. (all, subst (λ (pieces : List (List ℕ)). Appends held held' (concat pieces)) (sym (append-nil rs)) grew);
  }

-- ---- one word

-- how a word was reported, of whose runs more is known
pub ending_of : {A B : List ℕ → List RunNote → Type 0}
    → ((report : List ℕ) (noted : List RunNote) → A report noted → B report noted)
    → (result : Result (Unit {0}) Fault) (old new : Option (List RunNote)) (held held' : Option (List ℕ))
    → IsWordEnding A result old new held held' → IsWordEnding B result old new held held'
ending_of more (Ok written) old new held held' (report, noted, run, told, whole) =
    (report, noted, more report noted run, told, whole)
ending_of more (Err faults.Write) old new held held' (same, report, noted, run, part) =
    (same, report, noted, more report noted run, part)
ending_of more (Err faults.Memory) old new held held' (same, inl none) = (same, inl none)
ending_of more (Err faults.Memory) old new held held' (same, inr (report, noted, run, whole)) =
    (same, inr (report, noted, more report noted run, whole))
ending_of more (Err faults.Usage) old new held held' h = absurd h
ending_of more (Err faults.Read) old new held held' h = absurd h
ending_of more (Err faults.TooLong) old new held held' h = absurd h
ending_of more (Err (faults.Text fault)) old new held held' h = absurd h
ending_of more (Err (faults.Grammar fault)) old new held held' h = absurd h
ending_of more (Err (faults.Limit word fault)) old new held held' h = absurd h
ending_of more (Err (faults.Rejected line)) old new held held' h = absurd h

-- memory ran out before the report was written
pub not_written : {A : List ℕ → List RunNote → Type 0} (runs : Option (List RunNote)) (held : Option (List ℕ))
    → IsWordEnding A (Err faults.Memory) runs runs held held
not_written runs held = (refl, inl (Appends-nil held))

-- the report that a mode asks for is the command's, whose mode it is
pub in_mode : (command : Command) (mode : Mode) (number : ℕ) (p : PosedProblem) (report : List ℕ) → command.mode ≡ mode
    → IsReportWith mode command None number p [] report → IsReportWith command.mode command None number p [] report
in_mode command mode number p report asked is =
    subst (λ it. IsReportWith it command None number p [] report) (sym asked) is

-- a report that is written, with nothing noted beside it
pub unnoted : (A : List ℕ → List RunNote → Type 0) (report : List ℕ) → A report []
    → (result : Result (Unit {0}) Fault) (runs : Option (List RunNote)) (held held' : Option (List ℕ))
    → IsReportWritten result held held' report → IsWordEnding A result runs runs held held'
unnoted A report is (Ok written) runs held held' whole = (report, [], is, adds_none runs, whole)
unnoted A report is (Err faults.Write) runs held held' part = (refl, report, [], is, part)
unnoted A report is (Err faults.Usage) runs held held' h = absurd h
unnoted A report is (Err faults.Read) runs held held' h = absurd h
unnoted A report is (Err faults.TooLong) runs held held' h = absurd h
unnoted A report is (Err (faults.Text fault)) runs held held' h = absurd h
unnoted A report is (Err (faults.Grammar fault)) runs held held' h = absurd h
unnoted A report is (Err (faults.Limit word fault)) runs held held' h = absurd h
unnoted A report is (Err (faults.Rejected line)) runs held held' h = absurd h
unnoted A report is (Err faults.Memory) runs held held' h = absurd h

-- a report by one sweep
pub swept_word : (command : Command) (number : ℕ) (p : PosedProblem) (report bytes : List ℕ)
    → SweepsOnce command.mode → IsReportWith command.mode command None number p [] report → bytes ≡ report → (result : Result (Unit {0}) Fault)
    (runs : Option (List RunNote)) (held held' : Option (List ℕ)) → IsReportWritten result held held' bytes
    → IsWordEnding (IsRunOf command None number p) result runs runs held held'
swept_word command number p report bytes sweeps is same result runs held held' written =
    unnoted (IsRunOf command None number p) report (inl (sweeps, refl, is)) result runs held held'
    (subst (λ (it : List ℕ). IsReportWritten result held held' it) same written)

-- a mode that is none of those runs evaluators
runs_them : (mode : Mode) → (mode ≡ Serial → ⊥) → (mode ≡ KBest → ⊥) → SweepsOnce mode → ⊥
runs_them mode other unlisted (inl serial) = other serial
runs_them mode other unlisted (inr kbest) = unlisted kbest

-- a report by evaluators
pub evaluated_word : (command : Command) (mode : Mode) (number : ℕ) (p : PosedProblem) (finished : Finished)
    (report bytes : List ℕ) → command.mode ≡ mode → (mode ≡ Serial → ⊥) → (mode ≡ KBest → ⊥)
    → (mode ≡ Lex → ⊥)
    → IsReportWith mode command None number p finished.wins.items report → bytes ≡ report
    → (result : Result (Unit {0}) Fault) (old new : Option (List RunNote)) (held held' : Option (List ℕ))
    → IsWordEnding (IsRunWith command p finished bytes) result old new held held'
    → IsWordEnding (IsRunOf command None number p) result old new held held'
evaluated_word command mode number p finished report bytes asked other unlisted single is same =
    ending_of (λ written noted (run : IsRunWith command p finished bytes written noted). inr (
      λ sweeps. runs_them mode other unlisted (subst SweepsOnce asked sweeps),
      run.1,
      run.2,
      note_in command.mode (λ lex. single (sym asked ∙ lex)) command p run.1 run.3,
      subst (λ (it : Mode × List ℕ × List ℕ). IsReportWith it.0 command None number p it.1 it.2)
          (λ i. (sym asked i, sym run.4 i, sym (run.0 ∙ same) i)) is,
    ))

-- a report by evaluators under the compiled algebra of two
pub compiled_run : (command : Command) (number : ℕ) (p q : PosedProblem) (second bound : ℕ) (finished : Finished)
    (report bytes : List ℕ) → command.mode ≡ Lex → IsSecond command.second p.grammar second
    → IsScoreBound p.grammar second (length p.word) bound → q ≡ compiled_problem p second (multiplier_of bound)
    → (other : ℕ) × IsSecond command.second p.grammar other × IsPairReport number p other report → bytes ≡ report
    → (result : Result (Unit {0}) Fault) (old new : Option (List RunNote)) (held held' : Option (List ℕ))
    → IsWordEnding (IsRunWith command q finished bytes) result old new held held'
    → IsWordEnding (IsRunOf command None number p) result old new held held'
compiled_run command number p q second bound finished report bytes lex named bounded compiled (other, also, is) same =
    ending_of (λ written noted (run : IsRunWith command q finished bytes written noted). inr (
      λ sweeps. runs_them Lex (λ e. cc) (λ e. cc) (subst SweepsOnce lex sweeps),
      run.1,
      run.2,
      subst (λ mode. IsNoteIn mode command p run.1) (sym lex)
          (second, bound, named, bounded, subst (λ it. IsNoteFor command it run.1) compiled run.3),
      subst (λ mode. IsReportWith mode command None number p run.1.wins written) (sym lex)
          (other, also, subst (IsPairReport number p other) (sym (run.0 ∙ same)) is),
    ))
