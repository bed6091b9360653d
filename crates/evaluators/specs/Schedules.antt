-- What a schedule asks of machines: each of its entries steps the machine of that number once.
use Rattle.std.specs.Prelude.{◌≡◌, ℕ, ◌+◌, ◌≤◌, ◌⊎◌, Bool, true, List, [], ◌∷◌, map, count_by, nat_eq}
use Rattle.evaluators.specs.declared.finished.Finished.{Finished}
use Rattle.evaluators.specs.Runs.{moves_of, ended_of}

-- how many entries of the schedule are this machine's
abbrev pub entries_of : ℕ → List ℕ → ℕ
entries_of number schedule = count_by (nat_eq number) schedule

-- a machine made a step for each of its entries, or fewer where it has ended, and won no more often than it moved
pub record KeepsEntries (entries wins moves : ℕ) (ended : Bool) : Type 0 where
  pub steps : (moves ≡ entries) ⊎ ((moves ≤ entries) × (ended ≡ true))
  pub few_wins : wins ≤ moves

-- so do the machines from this number on
abbrev pub KeepEntriesFrom : List ℕ → ℕ → List ℕ → List ℕ → List Bool → Type 0
KeepEntriesFrom schedule number [] [] [] = Unit {0}
KeepEntriesFrom schedule number (won ∷ wins) (moved ∷ moves) (end ∷ ended) =
    KeepsEntries (entries_of number schedule) won moved end × KeepEntriesFrom schedule (number + 1) wins moves ended
KeepEntriesFrom schedule number wins moves ended = ⊥

-- the first machine has ended, and each other one made its steps
abbrev pub AreScheduled : List ℕ → List ℕ → List ℕ → List Bool → Type 0
AreScheduled schedule (won ∷ wins) (moved ∷ moves) (end ∷ ended) =
    (end ≡ true) × KeepEntriesFrom schedule 1 wins moves ended
AreScheduled schedule wins moves ended = ⊥

-- the machines that are left kept to the schedule
abbrev pub HasKeptSchedule : List ℕ → Finished → Type 0
HasKeptSchedule schedule finished =
    AreScheduled schedule finished.wins.items (map moves_of finished.machines.items)
    (map ended_of finished.machines.items)
