-- What contracts see of a machine, and of a fresh one.
use Rattle.std.specs.Prelude.{◌≡◌, ◌↔◌, ℕ, Bool, true, false, Option, Some, None, []}
use Rattle.adp_model.specs.declared.cell.Answer.{Answer}
use Rattle.adp_model.specs.declared.cell.Cell.{Cell}
use Rattle.memo_model.specs.declared.visit.Hand.{Hand}
use Rattle.adp_model.specs.PosedProblem.{PosedProblem, axiom_cell}
use Rattle.adp_model.specs.Demand.{IsDemanded}
use Rattle.memo_model.specs.Memos.{Meaning, HasLoaded}
use Rattle.memo_model.specs.Machines.{MachineState}
use Rattle.cell_tables.specs.Noted.{Notes, IsNoted}
use Rattle.rand_pcg.specs.Lcg.{Lcg}
use Rattle.cell_core.specs.declared.work.Work.{Work}
use Rattle.cell_core.specs.Working.{frames_of}

-- a machine and its orders; its notes are given up at its end
pub record MachineView (Probe : Type 0) : Type 0 where
  pub machine : MachineState (Option Notes) Probe
  pub orders : Lcg

-- the notes are there, and the cell is noted
abbrev pub IsNotedIn : Option Notes → Cell → Type 0
IsNotedIn None cell = ⊥
IsNotedIn (Some notes) cell = IsNoted notes cell

-- the machine by its parts
abbrev pub state_of : {Probe : Type 0} → PosedProblem → Option Notes → Work Probe → MachineState (Option Notes) Probe
state_of p notes work = record {
  problem = p;
  notes = notes;
  hand = work.hand;
  frames = frames_of work.top work.below.items;
  ready = work.ready;
  opened = work.opened;
  wins = work.wins;
  moves = work.moves;
  ended = work.ended;
  score = work.score;
}

-- a machine of the problem that has begun with nothing; where no cell is demanded it has already ended with None
pub record IsFresh {Probe : Type 0} (p : PosedProblem) (orders : Lcg) (view : MachineView Probe) : Type 0 where
  pub problem : view.machine.problem ≡ p
  pub orders_are : view.orders ≡ orders
  pub nothing_noted : (cell : Cell) → IsNotedIn view.machine.notes cell → ⊥
  pub no_hand : view.machine.hand ≡ None
  pub no_frame : view.machine.frames ≡ []
  pub no_answer : view.machine.ready ≡ None
  pub none_opened : view.machine.opened ≡ 0
  pub no_wins : view.machine.wins ≡ 0
  pub no_moves : view.machine.moves ≡ 0
  pub ended : (view.machine.ended ≡ true) ↔ (IsDemanded p (axiom_cell p) → ⊥)
  pub no_score : view.machine.score ≡ None

-- whether the next step loads a record word, by the look that is made and the answer that is there; `fresh` says it of
-- fresh probes
abbrev pub loads_at : {Pass Probe : Type 0}
    → Meaning Pass Probe → Bool → Bool → Option (Hand Probe) → Option Answer → Bool
loads_at memo fresh true hand ready = false
loads_at memo fresh false (Some hand) ready = memo.loads hand.probe
loads_at memo fresh false None (Some answer) = false
loads_at memo fresh false None None = fresh

abbrev pub next_loads : {Pass Probe : Type 0} → Meaning Pass Probe → Bool → MachineState (Option Notes) Probe → Bool
next_loads memo fresh machine = loads_at memo fresh machine.ended machine.hand machine.ready

-- the cell for which the next step looks, where it is a step of a look
abbrev pub looked_for : {Probe : Type 0} → PosedProblem → Option (Hand Probe) → Option Answer → Option Cell
looked_for p (Some hand) ready = Some hand.cell
looked_for p None (Some answer) = None
looked_for p None None = Some (axiom_cell p)

-- a step that looked for this cell loaded its record word exactly where that was told
abbrev pub LoadsAsTold : {Pass Probe : Type 0} → Meaning Pass Probe → Pass → Option Cell → Bool → Type 0
LoadsAsTold memo pass None told = told ≡ false
LoadsAsTold memo pass (Some cell) told = (told ≡ true) ↔ ((found : ℕ) × HasLoaded memo pass cell found)
