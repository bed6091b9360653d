-- How the first of some words were reported.
use Rattle.std.specs.Prelude.{◌≡◌, ℕ, ◌+◌, ◌<◌, ◌≤◌, List, length, take, get_or, Option, None, Result, Ok, Err}
use Rattle.std.specs.List.{concat}
use Rattle.std.specs.Io.KnownBytes.{Appends}
use Rattle.adp_model.specs.PosedProblem.{PosedProblem}
use Rattle.verdicts.specs.Command.{Command}
use Rattle.evaluators.specs.declared.finished.RunNote.{RunNote}
use Rattle.report.specs.declared.fault.Fault.{Fault}
use Rattle.adp_main.specs.declared.status.Status.TheVariants.{WriteFault}
use Rattle.adp_main.specs.Faults.{status_of}
use Rattle.adp_main.specs.RunNotes.{AddsNotes, AreRunsOf, IsRunOf}
use Rattle.adp_main.specs.Writing.{IsWordEnding}

-- these problems were reported in order, the first of which has this number, each whole, and noted
pub record AreReported (command : Command) (number : ℕ) (problems : List PosedProblem)
    (old new : Option (List RunNote)) (held held' : Option (List ℕ)) : Type 0 where
  pub reports : List (List ℕ)
  pub notes : List RunNote
  pub runs : AreRunsOf command None number problems reports notes
  pub noted : AddsNotes old new notes
  pub written : Appends held held' (concat reports)

-- those of these problems before the one at this place were reported, and that one was not: a fault was met
pub record IsReportedUpTo (command : Command) (number : ℕ) (problems : List PosedProblem) (place : ℕ) (fault : Fault)
    (old new : Option (List RunNote)) (held held' : Option (List ℕ)) : Type 0 where
  pub inside : place < length problems
  pub notes : Option (List RunNote)
  pub bytes : Option (List ℕ)
  pub before : AreReported command number (take place problems) old notes held bytes
  pub problem : PosedProblem
  pub is_problem : problem ≡ get_or problems place problem
  pub ending : IsWordEnding (IsRunOf command None (number + place) problem) (Err fault) notes new bytes held'

-- how the first of these problems were reported: so many of them whole, or those before one at which a fault was met
abbrev pub AreFirstEnding : Command → ℕ → List PosedProblem → Result ℕ Fault → Option (List RunNote)
    → Option (List RunNote) → Option (List ℕ) → Option (List ℕ) → Type 0
AreFirstEnding command number problems (Ok count) old new held held' =
    (count ≤ length problems) × AreReported command number (take count problems) old new held held'
AreFirstEnding command number problems (Err fault) old new held held' =
    (place : ℕ) × IsReportedUpTo command number problems place fault old new held held'

-- words were not reported, since a write failed
abbrev pub IsWriteFault : Result ℕ Fault → Type 0
IsWriteFault (Ok count) = ⊥
IsWriteFault (Err fault) = status_of fault ≡ WriteFault
