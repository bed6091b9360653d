-- The machine invariant: what holds of a machine and a pass between any two steps. Frames are listed from the top down.
use Rattle.std.specs.Prelude.{◌≡◌, ℕ, ℤ, ◌+◌, ◌≤◌, ◌⊎◌, Bool, true, false, Option, Some, None, List, [], ◌∷◌, length, count_by}
use mathlib.Core.Logic.{inl, inr}
use Rattle.std.specs.List.{AllByRecursion}
use Rattle.adp_model.specs.declared.cell.Answer.{Answer}
use Rattle.adp_model.specs.declared.cell.Cell.{Cell}
use Rattle.memo_model.specs.declared.probe.Stage.TheVariants.{Open, Unpublished, Publishing}
use Rattle.memo_model.specs.declared.visit.Position.{Position}
use Rattle.memo_model.specs.declared.visit.Visit.{Visit}
use Rattle.memo_model.specs.declared.visit.Frame.{Frame}
use Rattle.memo_model.specs.declared.visit.Hand.{Hand}
use Rattle.adp_model.specs.PosedProblem.{PosedProblem, axiom_cell}
use Rattle.adp_model.specs.Answers.{IsAnswer}
use Rattle.adp_model.specs.Demand.{IsDemanded, IsDemandedChild, AreDemanded}
use Rattle.adp_model.specs.SplitArguments.{SplitArgument, AsksFor}
use Rattle.memo_model.specs.Visits.{argument_at, is_behind, is_before, IsWalk}
use Rattle.memo_model.specs.Memos.{Meaning, IsScoreOf}

-- what contracts see of a machine
pub record MachineState (Notes Probe : Type 0) : Type 0 where
  pub problem : PosedProblem
  -- the cells that it noted with their scores
  pub notes : Notes
  -- the look that is being made, where there is one
  pub hand : Option (Hand Probe)
  -- the opened cells, from the top down
  pub frames : List (Frame Probe)
  -- the answer of the top frame's cell, where all its arguments were looked up
  pub ready : Option Answer
  -- how many frames it opened, how many of its publications were won, how many steps of the memo it made
  pub opened : ℕ
  pub wins : ℕ
  pub moves : ℕ
  -- whether it has ended, and then the score of the axiom's cell
  pub ended : Bool
  pub score : Option ℤ

-- ---- visits

-- how far a frame's visit has come. `Known` are the cells that the pass knows, `Noted` those that the machine noted,
-- and `sought` is the cell that is being looked up or was opened from this frame, where there is one
pub record IsVisit (p : PosedProblem) (Known Noted : Cell → Type 0) (sought : Option Cell)
    (visit : Visit) : Type 0 where
  pub walk : IsWalk p visit
  -- the frame's cell isn't known to the pass
  pub not_known : Known visit.cell → ⊥
  -- the cell that is sought is that of the argument at the position
  pub at_hand : (child : Cell) → sought ≡ Some child
      → (position : Position) × (visit.at ≡ Some position) × AsksFor p (argument_at visit.cell position) child
  -- each rule argument that is visited before the position is noted
  pub before : (position : Position) (argument : SplitArgument) (child : Cell) → visit.at ≡ Some position
      → argument.cell ≡ visit.cell → AsksFor p argument child
      → is_before p visit argument (argument_at visit.cell position) ≡ true → Noted child
  -- so is the one at the position, unless it is sought
  pub passed : (argument : SplitArgument) (child : Cell) → argument.cell ≡ visit.cell → AsksFor p argument child
      → is_behind p visit argument ≡ false → Noted child ⊎ (sought ≡ Some child)

-- each frame's cell is sought from the frame below it, and that of the lowest frame is the axiom's
abbrev pub AreFrames : {Probe : Type 0} → PosedProblem → (Cell → Type 0) → (Cell → Type 0) → Option Cell
    → List (Frame Probe) → Type 0
AreFrames p Known Noted sought [] = (child : Cell) → sought ≡ Some child → child ≡ axiom_cell p
AreFrames p Known Noted sought (frame ∷ below) =
    IsVisit p Known Noted sought frame.visit × AreFrames p Known Noted (Some frame.visit.cell) below

-- the cell that is being looked up
abbrev pub sought_by : {Probe : Type 0} → Option (Hand Probe) → Option Cell
sought_by None = None
sought_by (Some hand) = Some hand.cell

-- where there is a frame, a look is being made or an answer is there
abbrev pub IsUnderWay : {Probe : Type 0} → Option (Hand Probe) → Option Answer → List (Frame Probe) → Type 0
IsUnderWay None None frames = frames ≡ []
IsUnderWay None (Some answer) frames = Unit {0}
IsUnderWay (Some hand) ready frames = Unit {0}

-- whether a test of a fact says that it holds
abbrev pub holds : {A B : Type 0} → A ⊎ B → Bool
holds (inl fact) = true
holds (inr other) = false

module _ {Pass Probe : Type 0} (memo : Meaning Pass Probe) where
  -- whether the pass knows the cell
  abbrev pub is_known : Pass → Cell → Bool
  is_known pass cell = holds (memo.known_or_not pass cell)

  -- ---- probes

  -- the probe in hand is the cell's, open, and follows the pass
  pub record IsInHand (pass : Pass) (hand : Hand Probe) : Type 0 where
    pub cell : memo.cell hand.probe ≡ hand.cell
    pub still_open : memo.stage hand.probe ≡ Open
    pub follows : memo.follows hand.probe pass

  -- the frame's probe is its cell's, and follows the pass
  pub record IsFollowing (pass : Pass) (frame : Frame Probe) : Type 0 where
    pub cell : memo.cell frame.probe ≡ frame.visit.cell
    pub follows : memo.follows frame.probe pass

  -- besides, it is unpublished
  pub record IsWaiting (pass : Pass) (frame : Frame Probe) : Type 0 where
    pub following : IsFollowing pass frame
    pub unpublished : memo.stage frame.probe ≡ Unpublished

  -- only the top frame's probe may be publishing, and only where its answer is there
  abbrev pub AreProbes : Option Answer → Pass → List (Frame Probe) → Type 0
  AreProbes ready pass [] = Unit {0}
  AreProbes None pass (top ∷ below) = IsWaiting pass top × AllByRecursion (IsWaiting pass) below
  AreProbes (Some answer) pass (top ∷ below) =
      (IsFollowing pass top × ((memo.stage top.probe ≡ Unpublished) ⊎ (memo.stage top.probe ≡ Publishing)))
      × AllByRecursion (IsWaiting pass) below

  -- where an answer is there, it is that of the top frame's cell, whose demanded children are all noted, and no look is
  -- being made
  abbrev pub IsReady : PosedProblem → (Cell → Type 0) → Option Answer → Option (Hand Probe) → List (Frame Probe)
      → Type 0
  IsReady p Noted None hand frames = Unit {0}
  IsReady p Noted (Some answer) hand [] = ⊥
  IsReady p Noted (Some answer) hand (top ∷ below) =
      (hand ≡ None) × IsAnswer p top.visit.cell answer
      × ((child : Cell) → IsDemandedChild p top.visit.cell child → Noted child)

  -- ---- machines

  -- a machine that goes on
  pub record IsGoing (p : PosedProblem) (Noted : Cell → Type 0) (hand : Option (Hand Probe))
      (frames : List (Frame Probe)) (ready : Option Answer) (pass : Pass) : Type 0 where
    pub demanded : IsDemanded p (axiom_cell p)
    pub visits : AreFrames p (memo.known pass) Noted (sought_by hand) frames
    pub in_hand : (it : Hand Probe) → hand ≡ Some it → IsInHand pass it
    pub probes : AreProbes ready pass frames
    pub ready_is : IsReady p Noted ready hand frames

  -- a machine that has ended: nothing is left, and the pass knows the axiom's cell, whose score the machine keeps, or
  -- no cell is demanded
  pub record IsAtEnd (p : PosedProblem) (hand : Option (Hand Probe)) (frames : List (Frame Probe)) (score : Option ℤ)
      (pass : Pass) : Type 0 where
    pub no_hand : hand ≡ None
    pub no_frame : frames ≡ []
    pub known : IsDemanded p (axiom_cell p) → memo.known pass (axiom_cell p) × IsScoreOf p (axiom_cell p) score
    pub none : (IsDemanded p (axiom_cell p) → ⊥) → score ≡ None

  -- of the demanded cells the pass knows so many at least
  abbrev pub KnowsSoMany : PosedProblem → ℕ → Pass → Type 0
  KnowsSoMany p number pass =
      (cells : List Cell) → AreDemanded p cells → number ≤ count_by (is_known pass) cells

  -- the frames opened are at most those that stand and the demanded cells that the pass knows
  abbrev pub AreFewOpened : PosedProblem → ℕ → List (Frame Probe) → Pass → Type 0
  AreFewOpened p opened frames pass =
      (cells : List Cell) → AreDemanded p cells → opened ≤ length frames + count_by (is_known pass) cells

  -- the machine invariant
  pub record IsMachine {Notes : Type 0} (IsNoted : Notes → Cell → Type 0) (machine : MachineState Notes Probe)
      (pass : Pass) : Type 0 where
    pub going : machine.ended ≡ false
        → IsGoing machine.problem (IsNoted machine.notes) machine.hand machine.frames machine.ready pass
    pub at_end : machine.ended ≡ true → IsAtEnd machine.problem machine.hand machine.frames machine.score pass
    pub under_way : IsUnderWay machine.hand machine.ready machine.frames
    -- each noted cell is known to the pass
    pub noted : (cell : Cell) → IsNoted machine.notes cell → memo.known pass cell
    pub few_opened : AreFewOpened machine.problem machine.opened machine.frames pass
    pub few_wins : KnowsSoMany machine.problem machine.wins pass
