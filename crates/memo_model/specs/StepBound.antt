-- How many steps of the memo a machine has left at most.
use Rattle.std.specs.Prelude.{ℕ, ◌+◌, ◌*◌, Bool, true, false, not, ◌&&◌, nat_eq, if◌then◌else◌, Option, Some, None, List, [], ◌∷◌, count_by, sum_by}
use Rattle.adp_model.specs.declared.cell.Cell.{Cell}
use Rattle.memo_model.specs.declared.visit.Frame.{Frame}
use Rattle.memo_model.specs.declared.visit.Hand.{Hand}
use Rattle.adp_model.specs.PosedProblem.{PosedProblem}
use Rattle.adp_model.specs.SplitArguments.{SplitArgument}
use Rattle.memo_model.specs.Visits.{is_behind}
use Rattle.memo_model.specs.Memos.{Meaning}
use Rattle.memo_model.specs.Machines.{MachineState, is_known}

-- the steps of a fresh probe, where so many cells are demanded
abbrev pub probe_steps : ℕ → ℕ
probe_steps m = 2 * m + 5

-- the steps of a machine, where m cells are demanded and their viable splits have so many rule arguments
abbrev pub step_bound : ℕ → ℕ → ℕ
step_bound m arguments = (arguments + 1) * probe_steps m + 4 * m

abbrev pub is_cell : Cell → Cell → Bool
is_cell cell other = nat_eq cell.rule other.rule && (nat_eq cell.from other.from && nat_eq cell.to other.to)

-- the argument is still to be looked up: where its cell is a frame's, the frame's visit has still to come to it; where
-- it is no frame's, the pass doesn't know it, and it may be opened yet
abbrev pub is_left : {Probe : Type 0} → PosedProblem → (Cell → Bool) → List (Frame Probe) → SplitArgument → Bool
is_left p knows [] argument = not (knows argument.cell)
is_left p knows (frame ∷ below) argument =
    if is_cell argument.cell frame.visit.cell then is_behind p frame.visit argument
    else is_left p knows below argument

-- how many of the arguments are left
abbrev pub left_of : {Probe : Type 0} → PosedProblem → (Cell → Bool) → List (Frame Probe) → List SplitArgument → ℕ
left_of p knows frames arguments = count_by (is_left p knows frames) arguments

module _ {Pass Probe : Type 0} (memo : Meaning Pass Probe) (p : PosedProblem) (m : ℕ)
    (arguments : List SplitArgument) where
  -- those of the look that is being made; where nothing has begun, those of the look for the axiom's cell
  abbrev pub steps_at_hand : Option (Hand Probe) → List (Frame Probe) → ℕ
  steps_at_hand None [] = probe_steps m
  steps_at_hand None (top ∷ below) = 0
  steps_at_hand (Some hand) frames = memo.remaining m hand.probe

  -- none of a machine that has ended; else those at hand, those of the frames' probes, and those of a fresh probe for
  -- each argument that is left
  abbrev pub steps_left : Bool → Option (Hand Probe) → List (Frame Probe) → Pass → ℕ
  steps_left true hand frames pass = 0
  steps_left false hand frames pass =
      steps_at_hand hand frames + sum_by (λ (frame : Frame Probe). memo.remaining m frame.probe) frames
      + probe_steps m * left_of p (is_known memo pass) frames arguments

-- the remaining bound of a machine and a pass, where m cells are demanded and `arguments` are all rule arguments of
-- their viable splits
abbrev pub remaining_bound : {Notes Pass Probe : Type 0} → Meaning Pass Probe → ℕ → List SplitArgument
    → MachineState Notes Probe → Pass → ℕ
remaining_bound memo m arguments machine pass =
    steps_left memo machine.problem m arguments machine.ended machine.hand machine.frames pass
