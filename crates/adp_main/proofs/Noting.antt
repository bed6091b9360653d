-- What a gate notes of evaluators that have run is the note that was asked for.
use Rattle.std.proofs.Common.{◌≡◌, ℕ, List, [], ◌∷◌, length, map, sum, Bool, true, Option, None, Some, Result, Ok, Err, IfOk, inr, vec_len, refl, sym, ap, subst, ◌∙◌, arith}
use Rattle.std.proofs.lemmas.List.{length-map}
use Rattle.std.proofs.lemmas.List.Elements.{All-map}
use Rattle.std.specs.Io.KnownBytes.{Appends}
use Rattle.adp_model.specs.PosedProblem.{PosedProblem, axiom_cell}
use Rattle.adp_model.specs.Answers.{IsAnswer}
use Rattle.adp_model.specs.Demand.{IsDemandedCount}
use Rattle.verdicts.specs.declared.command.Mode.{Mode}
use Rattle.verdicts.specs.declared.command.Mode.TheVariants.{Replay}
use Rattle.verdicts.specs.Command.{Command}
use Rattle.evaluators.specs.declared.finished.Finished.{Finished}
use Rattle.evaluators.specs.declared.finished.RunNote.{RunNote}
use Rattle.evaluators.specs.Runs.{IsFinished, IsNoteOf, GrowsByNote, HaveAllEnded, wins_of, moves_of, ended_of}
use Rattle.evaluators.specs.Ends.{IsRunToEnd}
use Rattle.evaluators.specs.Schedules.{HasKeptSchedule}
use Rattle.report.specs.declared.fault.Fault.{Fault}
use Rattle.report.specs.declared.fault.Fault.TheVariants as faults
use Rattle.adp_main.specs.RunNotes.{AddsNotes, HasRun, HaveRun, IsNoteFor, IsRunFor}
use Rattle.adp_main.specs.Writing.{IsReportWritten, IsRunWith, IsWordEnding, IsWrittenWith}

-- a problem has one number of demanded cells
abbrev pub CountsAgree : Type 0
CountsAgree = (p : PosedProblem) (a b : ℕ) → IsDemandedCount p a → IsDemandedCount p b → a ≡ b

-- machines that have all ended have run as each mode runs them that follows no schedule
all_ended : (mode : Mode) → (mode ≡ Replay → ⊥) → (schedule : List ℕ) (finished : Finished) → HaveAllEnded finished
    → HasRun mode schedule finished
all_ended Replay free schedule finished all = absurd (free refl)
all_ended mode free schedule finished all = all

-- what a run left tells how far its machines came
have_run : (mode : Mode) (schedule : List ℕ) (finished : Finished) → HasRun mode schedule finished
    → HaveRun mode schedule finished.wins.items (map moves_of finished.machines.items)
    (map ended_of finished.machines.items)
have_run Replay schedule finished kept = kept
have_run mode schedule finished all = All-map (λ end. end ≡ true) ended_of finished.machines.items all

-- what is known of a call that ran evaluators
pub ran_freely : {E : Type 0} (command : Command) (p : PosedProblem) (seed workers : ℕ)
    → (command.mode ≡ Replay → ⊥) → seed ≡ command.seed → workers ≡ command.workers
    → (result : Result Finished E) → IfOk result (IsFinished p seed)
    → IfOk result (λ finished. vec_len finished.machines ≡ workers) → IfOk result HaveAllEnded
    → IfOk result (IsRunFor command p)
ran_freely command p seed workers free seeded each (Ok finished) done machines all = record {
  is_finished = subst (λ (seed : ℕ). IsFinished p seed finished) seeded done;
  machines = machines ∙ each;
  run = all_ended command.mode free command.schedule finished all;
}
ran_freely command p seed workers free seeded each (Err error) done machines all = tt

-- the same of one of several problems
pub ran_to_end : (command : Command) (seed workers : ℕ) → (command.mode ≡ Replay → ⊥) → seed ≡ command.seed
    → workers ≡ command.workers → (p : PosedProblem) (finished : Finished) → IsRunToEnd workers seed p finished
    → IsRunFor command p finished
ran_to_end command seed workers free seeded each p finished run =
    ran_freely {E = Unit {0}} command p seed workers free seeded each (Ok finished) run.is_finished run.machines
    run.have_ended

pub followed : {E : Type 0} (command : Command) (p : PosedProblem) (seed workers : ℕ) (schedule : List ℕ)
    → command.mode ≡ Replay → seed ≡ command.seed → workers ≡ command.workers → schedule ≡ command.schedule
    → (result : Result Finished E) → IfOk result (IsFinished p seed)
    → IfOk result (λ finished. vec_len finished.machines ≡ workers) → IfOk result (HasKeptSchedule schedule)
    → IfOk result (IsRunFor command p)
followed command p seed workers schedule replay seeded each same (Ok finished) done machines kept = record {
  is_finished = subst (λ (seed : ℕ). IsFinished p seed finished) seeded done;
  machines = machines ∙ each;
  run = subst (λ (it : Mode × List ℕ). HasRun it.0 it.1 finished) (λ i. (sym replay i, same i)) kept;
}
followed command p seed workers schedule replay seeded each same (Err error) done machines kept = tt

module _ (agree : CountsAgree) (command : Command) (p : PosedProblem) (finished : Finished)
    (ran : IsRunFor command p finished) where
  machines : length finished.machines.items ≡ command.workers
  machines = omega (arith, finished.machines.ok.0, ran.machines)

  note_for : (note : RunNote) → IsNoteOf p command.seed finished note → IsNoteFor command p note
  note_for note is = record {
    finished = finished;
    ran = ran;
    is_note = is;
    word = is.word;
    algebra = is.algebra;
    seed = is.seed_is;
    answer = subst (λ a. IsAnswer p (axiom_cell p) a) (sym is.answer) ran.is_finished.answer;
    cells = is.cells;
    wins = agree p (sum note.wins) note.cells
        (subst (λ (wins : List ℕ). IsDemandedCount p (sum wins)) (sym is.wins) ran.is_finished.wins_sum) is.cells;
    wins_each = ap length (is.wins ∙ ran.is_finished.wins_are) ∙ length-map finished.machines.items wins_of ∙ machines;
    moves_each = ap length is.moves ∙ length-map finished.machines.items moves_of ∙ machines;
    ended_each = ap length is.ended ∙ length-map finished.machines.items ended_of ∙ machines;
    run = subst (λ (it : List ℕ × List ℕ × List Bool). HaveRun command.mode command.schedule it.0 it.1 it.2)
        (λ i. (sym is.wins i, sym is.moves i, sym is.ended i))
        (have_run command.mode command.schedule finished ran.run);
  }

  -- what was written with the note of the run
  pub run_noted : (report : List ℕ) (note : RunNote) → IsNoteOf p command.seed finished note
      → (bytes : List ℕ) (noted : List RunNote) → IsWrittenWith report note bytes noted
      → IsRunWith command p finished report bytes noted
  run_noted report note is bytes noted written = (written.0, note, written.1, note_for note is, is.wins)

-- told notes grew by this one
adds_note : (E : Type 0) (done : Unit {0}) (note : RunNote) (old new : Option (List RunNote))
    → GrowsByNote {E = E} note (Ok done) old new → AddsNotes old new (note ∷ [])
adds_note E done note None new grows = grows
adds_note E done note (Some old) new grows = grows

-- the report was written whole and the note handed on
pub noted_written : (E : Type 0) (done : Unit {0}) (report : List ℕ) (note : RunNote) (old new : Option (List RunNote))
    (held held' : Option (List ℕ)) → GrowsByNote {E = E} note (Ok done) old new → Appends held held' report
    → IsWordEnding (IsWrittenWith report note) (Ok done) old new held held'
noted_written E done report note old new held held' grows whole =
    (report, note ∷ [], (refl, refl), adds_note E done note old new grows, whole)

-- the report was not written whole
pub noted_unwritten : (report : List ℕ) (note : RunNote) (fault : Fault) (runs : Option (List RunNote))
    (held held' : Option (List ℕ)) → IsReportWritten (Err fault) held held' report
    → IsWordEnding (IsWrittenWith report note) (Err fault) runs runs held held'
noted_unwritten report note faults.Write runs held held' part = (refl, report, note ∷ [], (refl, refl), part)
noted_unwritten report note faults.Usage runs held held' h = absurd h
noted_unwritten report note faults.Read runs held held' h = absurd h
noted_unwritten report note faults.TooLong runs held held' h = absurd h
noted_unwritten report note (faults.Text fault) runs held held' h = absurd h
noted_unwritten report note (faults.Grammar fault) runs held held' h = absurd h
noted_unwritten report note (faults.Limit word fault) runs held held' h = absurd h
noted_unwritten report note (faults.Rejected line) runs held held' h = absurd h
noted_unwritten report note faults.Memory runs held held' h = absurd h

-- there was no memory for the note
pub noted_untold : (report : List ℕ) (note : RunNote) (old new : Option (List RunNote)) (held held' : Option (List ℕ))
    → new ≡ old → Appends held held' report
    → IsWordEnding (IsWrittenWith report note) (Err faults.Memory) old new held held'
noted_untold report note old new held held' untold whole =
    (untold, inr (report, note ∷ [], (refl, refl), whole))
