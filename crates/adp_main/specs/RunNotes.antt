-- What a gate was told of the evaluators that ran, beside what was written.
use Rattle.std.specs.Prelude.{◌≡◌, ℕ, ◌+◌, ◌≤◌, ◌⊎◌, Bool, true, List, [], ◌∷◌, ◌++◌, length, take, sum, vec_len, All, Option, None, Some, IfSome}
use Rattle.std.specs.List.{concat}
use Rattle.std.specs.Io.KnownBytes.{Appends}
use Rattle.adp_model.specs.declared.job.Job.{Job}
use Rattle.adp_model.specs.PosedProblem.{PosedProblem, axiom_cell}
use Rattle.adp_model.specs.Answers.{IsAnswer}
use Rattle.adp_model.specs.Bounds.{IsScoreBound}
use Rattle.adp_model.specs.Demand.{IsDemandedCount}
use Rattle.adp_model.specs.BigReport.{made_problem, IsBigReport}
use Rattle.verdicts.specs.declared.command.Mode.{Mode}
use Rattle.verdicts.specs.declared.command.Mode.TheVariants.{Serial, Replay, Lex, KBest, Big}
use Rattle.verdicts.specs.Command.{Command, IsCommand, AsksToVerify}
use Rattle.verdicts.specs.Certificates.{behind_reports}
use Rattle.verdicts.specs.SecondAlgebra.{IsSecond}
use Rattle.verdicts.specs.Verdict.{AsksUnder, IsReportWith}
use Rattle.nested_jobs.specs.NestedJob.{hidden_in}
use Rattle.lex_product.specs.CompiledGrammar.{compiled_problem, multiplier_of}
use Rattle.evaluators.specs.declared.finished.Finished.{Finished}
use Rattle.evaluators.specs.declared.finished.RunNote.{RunNote}
use Rattle.evaluators.specs.Runs.{HaveAllEnded, IsFinished, IsNoteOf}
use Rattle.evaluators.specs.Schedules.{AreScheduled, HasKeptSchedule}
use Rattle.adp_main.specs.declared.status.Status.{Status}
use Rattle.adp_main.specs.declared.status.Status.TheVariants.{Done}
use Rattle.verdicts.specs.Posed.{posed_words}

-- how far the machines of a run came, of which this is told: each has ended; or, in the order of a schedule, the first
-- has ended, and each other one made the steps of its entries
abbrev pub HaveRun : Mode → List ℕ → List ℕ → List ℕ → List Bool → Type 0
HaveRun Replay schedule wins moves ended = AreScheduled schedule wins moves ended
HaveRun mode schedule wins moves ended = All (λ end. end ≡ true) ended

-- the same of what a run left
abbrev pub HasRun : Mode → List ℕ → Finished → Type 0
HasRun Replay schedule finished = HasKeptSchedule schedule finished
HasRun mode schedule finished = HaveAllEnded finished

-- what evaluators left that a command ran for this problem
pub record IsRunFor (command : Command) (p : PosedProblem) (finished : Finished) : Type 0 where
  pub is_finished : IsFinished p command.seed finished
  pub machines : vec_len finished.machines ≡ command.workers
  pub run : HasRun command.mode command.schedule finished

-- the note of the run for a problem that a command asks for
pub record IsNoteFor (command : Command) (p : PosedProblem) (note : RunNote) : Type 0 where
  -- behind the note stands what the run left: a closed table, and the machines
  pub finished : Finished
  pub ran : IsRunFor command p finished
  pub is_note : IsNoteOf p command.seed finished note
  pub word : note.word ≡ p.word
  pub algebra : note.algebra ≡ p.algebra
  pub seed : note.seed ≡ command.seed
  pub answer : IsAnswer p (axiom_cell p) note.answer
  pub cells : IsDemandedCount p note.cells
  -- each demanded cell was put into the table once
  pub wins : sum note.wins ≡ note.cells
  -- there are as many machines as evaluators were asked for
  pub wins_each : length note.wins ≡ command.workers
  pub moves_each : length note.moves ≡ command.workers
  pub ended_each : length note.ended ≡ command.workers
  pub run : HaveRun command.mode command.schedule note.wins note.moves note.ended

-- the note of the run for a word in a mode: that for the word's problem; or, for two algebras in order, that for the
-- problem under the compiled one, whose algebra and answer the note has
abbrev pub IsNoteIn : Mode → Command → PosedProblem → RunNote → Type 0
IsNoteIn Lex command p note =
    (second : ℕ) × (bound : ℕ) × IsSecond command.second p.grammar second
    × IsScoreBound p.grammar second (length p.word) bound
    × IsNoteFor command (compiled_problem p second (multiplier_of bound)) note
IsNoteIn mode command p note = IsNoteFor command p note

-- a mode that runs no evaluators for a word: it answers by one sweep
abbrev pub SweepsOnce : Mode → Type 0
SweepsOnce mode = (mode ≡ Serial) ⊎ (mode ≡ KBest)

-- the report of the word with this number under a grammar of which so many rules are hidden, and what was noted beside
-- it: the note of the run, or nothing of one sweep
abbrev pub IsRunOf : Command → Option ℕ → ℕ → PosedProblem → List ℕ → List RunNote → Type 0
IsRunOf command hidden number p report noted =
    (SweepsOnce command.mode × (noted ≡ []) × IsReportWith command.mode command hidden number p [] report)
    ⊎ ((SweepsOnce command.mode → ⊥) × (note : RunNote) × (noted ≡ note ∷ []) × IsNoteIn command.mode command p note
    × IsReportWith command.mode command hidden number p note.wins report)

-- the report of the word that is made, and the note of its run beside it
abbrev pub IsBigRun : Command → List ℕ → List RunNote → Type 0
IsBigRun command report noted =
    IsBigReport command.seed command.size report
    × (note : RunNote) × (noted ≡ note ∷ []) × IsNoteFor command (made_problem command.seed command.size) note

-- the reports of these problems in order, the first of which has this number, and all that was noted beside them
abbrev pub AreRunsOf : Command → Option ℕ → ℕ → List PosedProblem → List (List ℕ) → List RunNote → Type 0
AreRunsOf command hidden number [] [] notes = notes ≡ []
AreRunsOf command hidden number (p ∷ ps) (report ∷ reports) notes =
    (noted : List RunNote) × (others : List RunNote) × (notes ≡ noted ++ others)
    × IsRunOf command hidden number p report noted × AreRunsOf command hidden (number + 1) ps reports others
AreRunsOf command hidden number problems reports notes = ⊥

-- told notes grew by these
abbrev pub AddsNotes : Option (List RunNote) → Option (List RunNote) → List RunNote → Type 0
AddsNotes None new notes = new ≡ None
AddsNotes (Some old) new notes = new ≡ Some (old ++ notes)

-- the first of these problems were reported and noted: notes grew by theirs, each once its report was written whole; a
-- run that is done reported and noted all, and wrote these pieces behind their reports, and nothing else
pub record AreNoted (command : Command) (hidden : Option ℕ) (problems : List PosedProblem) (behind : List (List ℕ))
    (status : Status)
    (old new : Option (List RunNote)) (held held' : Option (List ℕ)) : Type 0 where
  pub count : ℕ
  pub reports : List (List ℕ)
  pub notes : List RunNote
  pub runs : AreRunsOf command hidden 1 (take count problems) reports notes
  pub noted : AddsNotes old new notes
  pub written : (more : List ℕ) × Appends held held' (concat reports ++ more)
  pub done : status ≡ Done → (length problems ≤ count) × Appends held held' (concat (reports ++ behind))

-- nothing was noted, in a run that is not done; or the first of these problems were reported, under their own grammar,
-- and noted
abbrev pub IsJobNoted : Command → List PosedProblem → List (List ℕ) → Status → Option (List RunNote)
    → Option (List RunNote) → Option (List ℕ) → Option (List ℕ) → Type 0
IsJobNoted command problems behind status old new held held' =
    ((new ≡ old) × (status ≡ Done → ⊥)) ⊎ AreNoted command None problems behind status old new held held'

-- the words of a job were reported and noted: where line 1 of the bytes is that of the format with nested alternatives,
-- the reports tell nested trees
pub record RunsOfJob (words : List (List ℕ)) (bytes : List ℕ) (status : Status) (old new : Option (List RunNote))
    (held held' : Option (List ℕ)) : Type 0 where
  pub job : Job
  pub algebra : ℕ
  pub asked : AsksUnder words bytes job algebra
  pub noted : AreNoted asked.command (hidden_in bytes) (posed_words job.grammar algebra job.words)
      (behind_reports asked.command.mode (length job.words) bytes) status old new held held'

-- the run for the word that is made was noted
pub record RunOfMade (words : List (List ℕ)) (old new : Option (List RunNote)) : Type 0 where
  pub command : Command
  pub is_command : IsCommand words command
  pub makes : command.mode ≡ Big
  pub note : RunNote
  pub is_note : IsNoteFor command (made_problem command.seed command.size) note
  pub noted : AddsNotes old new (note ∷ [])

-- what a run with this status told its gate: nothing, which is not done then, or checked a certificate; where it checks
-- none, notes of the words of the job that its input spells; or, where it is done, the note of the word that is made
abbrev pub ShowsRuns : List (List ℕ) → Option (List ℕ) → Status → Option (List RunNote) → Option (List RunNote)
    → Option (List ℕ) → Option (List ℕ) → Type 0
ShowsRuns words left status old new held held' =
    ((new ≡ old) × (status ≡ Done → AsksToVerify words))
    ⊎ (((AsksToVerify words → ⊥) × (bytes : List ℕ) × IfSome left (λ told. bytes ≡ told)
    × RunsOfJob words bytes status old new held held')
    ⊎ ((status ≡ Done) × RunOfMade words old new))
