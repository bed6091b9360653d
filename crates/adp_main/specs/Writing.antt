-- How one word was reported.
use Rattle.std.specs.Prelude.{◌≡◌, ℕ, ◌⊎◌, List, [], ◌∷◌, Option, Result, Ok, Err}
use Rattle.std.specs.Io.KnownBytes.{Appends}
use Rattle.adp_io.specs.Streams.{AppendsProperPrefix}
use Rattle.adp_model.specs.PosedProblem.{PosedProblem}
use Rattle.verdicts.specs.Command.{Command}
use Rattle.evaluators.specs.declared.finished.Finished.{Finished}
use Rattle.evaluators.specs.declared.finished.RunNote.{RunNote}
use Rattle.report.specs.declared.fault.Fault.{Fault}
use Rattle.report.specs.declared.fault.Fault.TheVariants as faults
use Rattle.adp_main.specs.RunNotes.{AddsNotes, IsNoteFor}

-- the bytes are this report, and what is noted is the note of this run
abbrev pub IsRunWith : Command → PosedProblem → Finished → List ℕ → List ℕ → List RunNote → Type 0
IsRunWith command p finished report bytes noted =
    (bytes ≡ report) × (note : RunNote) × (noted ≡ note ∷ []) × IsNoteFor command p note
    × (note.wins ≡ finished.wins.items)

-- the bytes are this report, and this note is noted
abbrev pub IsWrittenWith : List ℕ → RunNote → List ℕ → List RunNote → Type 0
IsWrittenWith report note bytes noted = (bytes ≡ report) × (noted ≡ note ∷ [])

-- a report was written whole, or a part of it was
abbrev pub IsReportWritten : Result (Unit {0}) Fault → Option (List ℕ) → Option (List ℕ) → List ℕ → Type 0
IsReportWritten (Ok written) held held' report = Appends held held' report
IsReportWritten (Err faults.Write) held held' report = AppendsProperPrefix held held' report
IsReportWritten (Err fault) held held' report = ⊥

-- how a word was reported that has such a report and such notes: the report was written whole, and noted unless memory
-- ran out then; or a part of it was written; or nothing, where memory ran out before
abbrev pub IsWordEnding : (List ℕ → List RunNote → Type 0) → Result (Unit {0}) Fault → Option (List RunNote)
    → Option (List RunNote) → Option (List ℕ) → Option (List ℕ) → Type 0
IsWordEnding is_run (Ok written) old new held held' =
    (report : List ℕ) × (noted : List RunNote) × is_run report noted × AddsNotes old new noted
    × Appends held held' report
IsWordEnding is_run (Err faults.Write) old new held held' =
    (new ≡ old) × (report : List ℕ) × (noted : List RunNote) × is_run report noted
    × AppendsProperPrefix held held' report
IsWordEnding is_run (Err faults.Memory) old new held held' =
    (new ≡ old) × (Appends held held' []
    ⊎ ((report : List ℕ) × (noted : List RunNote) × is_run report noted × Appends held held' report))
IsWordEnding is_run (Err fault) old new held held' = ⊥
