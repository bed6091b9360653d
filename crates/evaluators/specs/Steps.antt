-- What the history of a table's words says of machines: which of its steps each of them made.
use Rattle.std.specs.Prelude.{◌≡◌, ℕ, ◌-◌, ◌^◌, min, List, [], ◌∷◌, ◌++◌, length}
use Rattle.history_table.specs.declared.history.Mark.{Mark}
use Rattle.history_table.specs.History.{IsHistoryOf}
use Rattle.memo_words.specs.Passes.{won_in}
use Rattle.memo_table.specs.declared.probe.Probe.{Probe}
use Rattle.cell_core.specs.MachineViews.{MachineView}

-- these are the steps of the machine: they are as many as it moved, as far as moves are counted, and its wins are the
-- exchanges of record words among them that found 0
pub record AreStepsOf (slots : ℕ) (machine : MachineView Probe) (marks : List Mark) : Type 0 where
  pub moves : machine.machine.moves ≡ min (length marks) (2 ^ 64 - 1)
  pub wins : machine.machine.wins ≡ won_in slots marks

-- each list has the steps of one machine, in the order of the machines
abbrev pub AreStepsOfEach : ℕ → List (MachineView Probe) → List (List Mark) → Type 0
AreStepsOfEach slots [] [] = Unit {0}
AreStepsOfEach slots (machine ∷ machines) (marks ∷ lists) =
    AreStepsOf slots machine marks × AreStepsOfEach slots machines lists
AreStepsOfEach slots machines lists = ⊥

-- all lists in one, the last of them first
abbrev pub together : List (List Mark) → List Mark
together [] = []
together (marks ∷ lists) = together lists ++ marks

-- the machines' steps, all together, are one whole history of the words
pub record HaveHistory (slots : ℕ) (machines : List (MachineView Probe)) (words : List ℕ) : Type 0 where
  pub lists : List (List Mark)
  pub steps : AreStepsOfEach slots machines lists
  pub whole : IsHistoryOf (together lists) words
