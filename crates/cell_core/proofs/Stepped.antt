-- The machine invariant, and what holds of a machine's work.
use Rattle.std.proofs.Common.{◌≡◌, ◌<◌, ◌≤◌, ℕ, Bool, true, Option, Some, None, List, sym, subst, ◌∙◌, arith}
use Rattle.std.proofs.lemmas.Bool.{false≢true}
use Rattle.adp_model.specs.declared.cell.Answer.{Answer}
use Rattle.adp_model.specs.declared.cell.Cell.{Cell}
use Rattle.memo_model.specs.declared.visit.Frame.{Frame}
use Rattle.memo_model.specs.declared.visit.Hand.{Hand}
use Rattle.adp_model.specs.PosedProblem.{PosedProblem}
use Rattle.adp_model.specs.SplitArguments.{SplitArgument}
use Rattle.memo_model.specs.Memos.{Meaning}
use Rattle.memo_model.specs.Machines.{MachineState, IsUnderWay, IsMachine}
use Rattle.cell_tables.specs.Noted.{Notes, IsNoted}
use Rattle.cell_core.specs.declared.work.Work.{Work}
use Rattle.cell_core.specs.Working.{frames_of, all_frames, HasRoom, IsSound, work_left}
use Rattle.cell_core.specs.MachineViews.{state_of, IsNotedIn, loads_at, looked_for, LoadsAsTold}

-- the work with another number of steps
abbrev pub with_moves : {Probe : Type 0} → Work Probe → ℕ → Work Probe
with_moves work moves = record {
  hand = work.hand;
  top = work.top;
  below = work.below;
  ready = work.ready;
  opened = work.opened;
  wins = work.wins;
  moves = moves;
  ended = work.ended;
  score = work.score;
}

-- the state of a machine with this work, but with this number of steps and these frames below the top one
abbrev pub state_over : {Probe : Type 0} → PosedProblem → Option Notes → Work Probe → ℕ → List (Frame Probe)
    → MachineState (Option Notes) Probe
state_over p notes work moves below = record {
  problem = p;
  notes = notes;
  hand = work.hand;
  frames = frames_of work.top below;
  ready = work.ready;
  opened = work.opened;
  wins = work.wins;
  moves = moves;
  ended = work.ended;
  score = work.score;
}

-- the work with this in hand and this on top
abbrev pub with_parts : {Probe : Type 0} → Work Probe → Option (Hand Probe) → Option (Frame Probe) → Work Probe
with_parts work hand top = record {
  hand = hand;
  top = top;
  below = work.below;
  ready = work.ready;
  opened = work.opened;
  wins = work.wins;
  moves = work.moves;
  ended = work.ended;
  score = work.score;
}

-- what is left falls by a step, and does not rise by what is sought then
pub falls_then : (after between before at_first : ℕ) → after ≤ between → between < before → before ≤ at_first
    → after < at_first
falls_then after between before at_first sought made begun = omega arith

module _ {Pass Probe : Type 0} (memo : Meaning Pass Probe) (p : PosedProblem) (pass : Pass) where
  pub sound_from : (notes : Notes) (work : Work Probe) → HasRoom p work
      → IsMachine memo IsNotedIn (state_of p (Some notes) work) pass → IsSound memo p (IsNoted notes) work pass
  sound_from notes work room is = record {
    has_room = room;
    going = is.going;
    at_end = is.at_end;
    noted = is.noted;
    few_opened = is.few_opened;
    few_wins = is.few_wins;
  }

  pub machine_from : (notes : Notes) (work : Work Probe) (moves : ℕ) → IsSound memo p (IsNoted notes) work pass
      → IsUnderWay work.hand work.ready (all_frames work)
      → IsMachine memo IsNotedIn (state_of p (Some notes) (with_moves work moves)) pass
  machine_from notes work moves sound under_way = record {
    going = sound.going;
    at_end = sound.at_end;
    under_way = under_way;
    noted = sound.noted;
    few_opened = sound.few_opened;
    few_wins = sound.few_wins;
  }

  -- the notes are given up at the end, and the frames below stay
  pub machine_at_end : (Noted : Cell → Type 0) (notes : Option Notes) (work : Work Probe) (moves : ℕ) (below : List (Frame Probe))
      → notes ≡ None → below ≡ work.below.items → work.ended ≡ true → IsSound memo p Noted work pass
      → IsUnderWay work.hand work.ready (all_frames work) → IsMachine memo IsNotedIn (state_over p notes work moves below) pass
  machine_at_end Noted notes work moves below gone stay ended sound under_way =
      subst (λ notes. IsMachine memo IsNotedIn (state_over p notes work moves below) pass) (sym gone)
      (subst (λ frames. IsMachine memo IsNotedIn (state_over p None work moves frames) pass) (sym stay) (record {
        going = λ e. absurd (false≢true (sym e ∙ ended));
        at_end = sound.at_end;
        under_way = under_way;
        noted = λ cell none. absurd none;
        few_opened = sound.few_opened;
        few_wins = sound.few_wins;
      }))

  -- the parts are those of the work
  pub sound_by_parts : (Noted : Cell → Type 0) (work : Work Probe) (hand : Option (Hand Probe)) (top : Option (Frame Probe))
      → work.hand ≡ hand → work.top ≡ top → IsSound memo p Noted work pass
      → IsSound memo p Noted (with_parts work hand top) pass
  sound_by_parts Noted work hand top in_hand on_top sound =
      subst (λ top. IsSound memo p Noted (with_parts work hand top) pass) on_top
      (subst (λ hand. IsSound memo p Noted (with_parts work hand work.top) pass) in_hand sound)

  pub left_by_parts : (m : ℕ) (arguments : List SplitArgument) (work : Work Probe) (hand : Option (Hand Probe)) (top : Option (Frame Probe))
      → work.hand ≡ hand → work.top ≡ top
      → work_left memo p m arguments (with_parts work hand top) pass ≤ work_left memo p m arguments work pass
  left_by_parts m arguments work hand top in_hand on_top =
      subst (λ top. work_left memo p m arguments (with_parts work hand top) pass ≤ work_left memo p m arguments work pass) on_top
      (subst
      (λ hand. work_left memo p m arguments (with_parts work hand work.top) pass ≤ work_left memo p m arguments work pass)
      in_hand (omega arith))

  pub loads_by_parts : (fresh ended ended' : Bool) (hand hand' : Option (Hand Probe)) (ready ready' : Option Answer)
      → ended ≡ ended' → hand ≡ hand' → ready ≡ ready'
      → LoadsAsTold memo pass (looked_for p hand' ready') (loads_at memo fresh ended' hand' ready')
      → LoadsAsTold memo pass (looked_for p hand ready) (loads_at memo fresh ended hand ready)
  loads_by_parts fresh ended ended' hand hand' ready ready' at_end in_hand answered told =
      subst (λ e. LoadsAsTold memo pass (looked_for p hand ready) (loads_at memo fresh e hand ready)) (sym at_end)
      (subst (λ h. LoadsAsTold memo pass (looked_for p h ready) (loads_at memo fresh ended' h ready)) (sym in_hand)
      (subst (λ r. LoadsAsTold memo pass (looked_for p hand' r) (loads_at memo fresh ended' hand' r)) (sym answered) told))
