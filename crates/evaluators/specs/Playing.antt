-- What holds of machines and workers while a schedule is played.
use Rattle.std.specs.Prelude.{ℕ, ◌+◌, List, [], ◌∷◌, map}
use Rattle.memo_words.specs.declared.words.Words.{Words}
use Rattle.memo_table.specs.declared.probe.Probe.{Probe}
use Rattle.cell_core.specs.MachineViews.{MachineView}
use Rattle.evaluators.specs.Runs.{wins_of, moves_of, ended_of}
use Rattle.evaluators.specs.Working.{TableWorker, IsReady}
use Rattle.evaluators.specs.Schedules.{KeepsEntries, AreScheduled, entries_of}

abbrev pub HasKeptEntries : ℕ → MachineView Probe → Type 0
HasKeptEntries entries machine = KeepsEntries entries (wins_of machine) (moves_of machine) (ended_of machine)

abbrev pub HaveKeptSchedule : List ℕ → List (MachineView Probe) → Type 0
HaveKeptSchedule schedule machines =
    AreScheduled schedule (map wins_of machines) (map moves_of machines) (map ended_of machines)

-- the items, which are numbered from this number on, each have what is said of their number
abbrev pub AllFrom : {A : Type 0} → (ℕ → A → Type 0) → ℕ → List A → Type 0
AllFrom Has number [] = Unit {0}
AllFrom Has number (item ∷ items) = Has number item × AllFrom Has (number + 1) items

-- the worker of this number is ready to go on, and its machine has made its steps of the schedule
pub record IsPlayed (words : Words) (schedule : List ℕ) (number : ℕ) (worker : TableWorker) : Type 0 where
  pub ready : IsReady words worker
  pub kept : HasKeptEntries (entries_of number schedule) worker.machine
