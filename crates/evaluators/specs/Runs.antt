-- What evaluators leave, and how a run is remembered.
use Rattle.std.specs.Prelude.{◌≡◌, ◌↔◌, ℕ, suc, Bool, true, Option, Some, None, Result, Ok, Err, List, [], ◌∷◌, ◌++◌, map, sum, All}
use Rattle.adp_model.specs.declared.cell.Cell.{Cell}
use Rattle.adp_model.specs.PosedProblem.{PosedProblem, axiom_cell}
use Rattle.adp_model.specs.Answers.{IsAnswer}
use Rattle.adp_model.specs.Demand.{IsDemanded, IsDemandedCount}
use Rattle.memo_words.specs.Kept.{IsPublished}
use Rattle.memo_words.specs.Layout.{slots_of}
use Rattle.memo_table.specs.declared.probe.Probe.{Probe}
use Rattle.cell_core.specs.MachineViews.{MachineView}
use Rattle.evaluators.specs.declared.finished.Finished.{Finished}
use Rattle.evaluators.specs.declared.finished.RunNote.{RunNote}
use Rattle.evaluators.specs.Steps.{HaveHistory}
use Rattle.evaluators.specs.Working.{IsOf}

abbrev pub wins_of : MachineView Probe → ℕ
wins_of machine = machine.machine.wins

abbrev pub moves_of : MachineView Probe → ℕ
moves_of machine = machine.machine.moves

abbrev pub ended_of : MachineView Probe → Bool
ended_of machine = machine.machine.ended

-- the machines are of the problem, the first of them with the orders of this number, the next with those of the next
abbrev pub AreMachinesFrom : PosedProblem → ℕ → ℕ → List (MachineView Probe) → Type 0
AreMachinesFrom p seed number [] = Unit {0}
AreMachinesFrom p seed number (machine ∷ machines) =
    IsOf p seed number machine × AreMachinesFrom p seed (suc number) machines

-- the first machine has ended
abbrev pub HasFirstEnded : List (MachineView Probe) → Type 0
HasFirstEnded [] = ⊥
HasFirstEnded (machine ∷ machines) = ended_of machine ≡ true

-- what evaluators leave when they have run for this problem under this seed
pub record IsFinished (p : PosedProblem) (seed : ℕ) (finished : Finished) : Type 0 where
  -- the closed table is the problem's, and has exactly the demanded cells
  pub closed : finished.closed.plan.problem ≡ p
  pub exactly : (cell : Cell) → IsPublished finished.closed.plan finished.closed.words cell ↔ IsDemanded p cell
  pub answer : IsAnswer p (axiom_cell p) finished.answer
  pub machines : AreMachinesFrom p seed 0 finished.machines.items
  pub first : HasFirstEnded finished.machines.items
  pub wins_are : finished.wins.items ≡ map wins_of finished.machines.items
  -- each cell was put into the table once
  pub wins_sum : IsDemandedCount p (sum finished.wins.items)
  -- the words of the closed table have one history, of which each step is one machine's
  pub history : HaveHistory (slots_of finished.closed.plan) finished.machines.items finished.closed.words

-- the note of a run
pub record IsNoteOf (p : PosedProblem) (seed : ℕ) (finished : Finished) (note : RunNote) : Type 0 where
  pub word : note.word ≡ p.word
  pub algebra : note.algebra ≡ p.algebra
  pub seed_is : note.seed ≡ seed
  pub answer : note.answer ≡ finished.answer
  pub cells : IsDemandedCount p note.cells
  pub wins : note.wins ≡ finished.wins.items
  pub moves : note.moves ≡ map moves_of finished.machines.items
  pub ended : note.ended ≡ map ended_of finished.machines.items

-- evaluators ran for this problem under this seed, and this is the note of what they left
pub record IsOfRun (p : PosedProblem) (seed : ℕ) (note : RunNote) : Type 0 where
  pub finished : Finished
  pub is_finished : IsFinished p seed finished
  pub is_note : IsNoteOf p seed finished note

-- evaluators ran for some problem under some seed, and this is the note of what they left
abbrev pub IsOfSomeRun : RunNote → Type 0
IsOfSomeRun note = (p : PosedProblem) × (seed : ℕ) × IsOfRun p seed note

-- told notes grew by this one; where there was no memory they are as before
abbrev pub GrowsByNote : {E : Type 0} → RunNote → Result (Unit {0}) E → Option (List RunNote) → Option (List RunNote)
    → Type 0
GrowsByNote note (Err error) old new = new ≡ old
GrowsByNote note (Ok done) None new = new ≡ None
GrowsByNote note (Ok done) (Some notes) new = new ≡ Some (notes ++ note ∷ [])

-- every machine has ended
abbrev pub HaveAllEnded : Finished → Type 0
HaveAllEnded finished = All (λ machine. ended_of machine ≡ true) finished.machines.items
