-- What those who are told of each step tell of the machines.
use Rattle.std.specs.Prelude.{◌≡◌, ℕ, ◌-◌, ◌^◌, min, Option, Some, None, IfSome, List, [], ◌∷◌, ◌++◌}
use Rattle.memo_table.specs.declared.probe.Probe.{Probe}
use Rattle.cell_core.specs.MachineViews.{MachineView}
use Rattle.evaluators.specs.Runs.{moves_of}
use Rattle.evaluators.specs.Schedules.{entries_of}
use Rattle.evaluators.specs.Playing.{AllFrom}

-- one more step of the machine of this number; where the steps are told no more, they stay untold
abbrev pub GrowsByStep : ℕ → Option (List ℕ) → Option (List ℕ) → Type 0
GrowsByStep number None new = new ≡ None
GrowsByStep number (Some told) None = Unit {0}
GrowsByStep number (Some told) (Some more) = more ≡ told ++ number ∷ []

-- the machine of this number made the steps that are told of it, and no others: it moved as often, where its moves stay
-- at 2 ^ 64 - 1 once they are there
abbrev pub HasToldMoves : Option (List ℕ) → ℕ → ℕ → Type 0
HasToldMoves told number moves = IfSome told (λ numbers. moves ≡ min (entries_of number numbers) (2 ^ 64 - 1))

-- steps of the machine of this number were told: what held of its moves holds of those after, and other machines are as
-- they were
pub record IsToldOn (number : ℕ) (before after : Option (List ℕ)) (moves moves' : ℕ) : Type 0 where
  pub own : HasToldMoves before number moves → HasToldMoves after number moves'
  pub others : (other still : ℕ) → (other ≡ number → ⊥) → HasToldMoves before other still
      → HasToldMoves after other still

-- all machines made the steps that are told of them
abbrev pub HaveToldMoves : Option (List ℕ) → List (MachineView Probe) → Type 0
HaveToldMoves told machines = AllFrom (λ number machine. HasToldMoves told number (moves_of machine)) 0 machines
