-- What holds of the parts of a machine that change from step to step.
use Rattle.std.specs.Prelude.{◌≡◌, ℕ, ℤ, ◌+◌, ◌*◌, ◌≤◌, ◌⊎◌, Bool, true, false, Option, Some, None, List, [], ◌∷◌, reverse, length, vec_capacity}
use Rattle.adp_model.specs.declared.cell.Cell.{Cell}
use Rattle.memo_model.specs.declared.visit.Frame.{Frame}
use Rattle.memo_model.specs.declared.visit.Hand.{Hand}
use Rattle.adp_model.specs.PosedProblem.{PosedProblem, axiom_cell}
use Rattle.adp_model.specs.Demand.{IsDemanded}
use Rattle.adp_model.specs.SplitArguments.{SplitArgument}
use Rattle.memo_model.specs.Memos.{Meaning}
use Rattle.memo_model.specs.Machines.{IsGoing, IsAtEnd, AreFewOpened, KnowsSoMany}
use Rattle.memo_model.specs.StepBound.{steps_left}
use Rattle.cell_core.specs.declared.work.Work.{Work}
use Rattle.cell_core.specs.declared.work.Turn.{Turn}
use Rattle.cell_core.specs.declared.work.Turn.TheVariants as turns

-- the frames from the top down
abbrev pub frames_of : {Probe : Type 0} → Option (Frame Probe) → List (Frame Probe) → List (Frame Probe)
frames_of None below = []
frames_of (Some top) below = top ∷ reverse below

abbrev pub all_frames : {Probe : Type 0} → Work Probe → List (Frame Probe)
all_frames work = frames_of work.top work.below.items

-- the work with a look in hand, and the work with a frame on top
abbrev pub with_hand : {Probe : Type 0} → Work Probe → Hand Probe → Work Probe
with_hand work hand = record {
  hand = Some hand;
  top = work.top;
  below = work.below;
  ready = work.ready;
  opened = work.opened;
  wins = work.wins;
  moves = work.moves;
  ended = work.ended;
  score = work.score;
}

abbrev pub with_top : {Probe : Type 0} → Work Probe → Frame Probe → Work Probe
with_top work top = record {
  hand = work.hand;
  top = Some top;
  below = work.below;
  ready = work.ready;
  opened = work.opened;
  wins = work.wins;
  moves = work.moves;
  ended = work.ended;
  score = work.score;
}

-- there is room for all frames, and no frame is below where there is none on top
pub record HasRoom {Probe : Type 0} (p : PosedProblem) (work : Work Probe) : Type 0 where
  pub room : (length p.word + 1) * length p.grammar.rules ≤ vec_capacity work.below
  pub nothing_below : work.ended ≡ false → work.top ≡ None → work.below.items ≡ []

module _ {Pass Probe : Type 0} (memo : Meaning Pass Probe) where
  -- the machine invariant, but for the next argument, which may still have to be sought
  pub record IsSound (p : PosedProblem) (Noted : Cell → Type 0) (work : Work Probe) (pass : Pass) : Type 0 where
    pub has_room : HasRoom p work
    pub going : work.ended ≡ false
        → IsGoing memo p Noted work.hand (frames_of work.top work.below.items) work.ready pass
    pub at_end : work.ended ≡ true
        → IsAtEnd memo p work.hand (frames_of work.top work.below.items) work.score pass
    pub noted : (cell : Cell) → Noted cell → memo.known pass cell
    pub few_opened : AreFewOpened memo p work.opened (frames_of work.top work.below.items) pass
    pub few_wins : KnowsSoMany memo p work.wins pass

  -- the steps that a machine at this work has left
  abbrev pub work_left : PosedProblem → ℕ → List SplitArgument → Work Probe → Pass → ℕ
  work_left p m arguments work pass =
      steps_left memo p m arguments work.ended work.hand (frames_of work.top work.below.items) pass

-- nothing has begun; where no cell is demanded the work has ended
pub record IsFreshWork {Probe : Type 0} (p : PosedProblem) (work : Work Probe) : Type 0 where
  pub room : (length p.word + 1) * length p.grammar.rules ≤ vec_capacity work.below
  pub hand : work.hand ≡ None
  pub top : work.top ≡ None
  pub below : work.below.items ≡ []
  pub ready : work.ready ≡ None
  pub opened : work.opened ≡ 0
  pub wins : work.wins ≡ 0
  pub moves : work.moves ≡ 0
  pub going : work.ended ≡ false → IsDemanded p (axiom_cell p)
  pub at_end : work.ended ≡ true → IsDemanded p (axiom_cell p) → ⊥
  pub score : work.score ≡ None

-- the frame is on top of those that were there, and all else is as before
pub record IsOpened {Probe : Type 0} (work work' : Work Probe) (frame : Frame Probe) : Type 0 where
  pub top : work'.top ≡ Some frame
  pub frames : reverse work'.below.items ≡ frames_of work.top work.below.items
  pub capacity : vec_capacity work.below ≤ vec_capacity work'.below
  pub hand : work'.hand ≡ work.hand
  pub ready : work'.ready ≡ work.ready
  pub opened : work'.opened ≡ work.opened + 1
  pub wins : work'.wins ≡ work.wins
  pub moves : work'.moves ≡ work.moves
  pub ended : work'.ended ≡ work.ended
  pub score : work'.score ≡ work.score

-- the top frame was taken, and the next one is on top, or none is left and the work has ended with this score
pub record IsClosed {Probe : Type 0} (work work' : Work Probe) (score : Option ℤ) : Type 0 where
  pub hand : work'.hand ≡ work.hand
  pub ready : work'.ready ≡ None
  pub capacity : vec_capacity work'.below ≡ vec_capacity work.below
  pub opened : work'.opened ≡ work.opened
  pub wins : work'.wins ≡ work.wins
  pub moves : work'.moves ≡ work.moves
  pub next : ((next : Frame Probe) × (work'.top ≡ Some next)
      × (reverse work.below.items ≡ next ∷ reverse work'.below.items) × (work'.ended ≡ work.ended))
      ⊎ ((work'.top ≡ None) × (reverse work.below.items ≡ []) × (work'.ended ≡ true) × (work'.score ≡ score))

-- what a turn tells of the machine after it
abbrev pub IsTurn : Bool → Option ℤ → Turn → Type 0
IsTurn ended score turns.Going = ended ≡ false
IsTurn ended score (turns.Ended found) = (ended ≡ true) × (found ≡ score)
