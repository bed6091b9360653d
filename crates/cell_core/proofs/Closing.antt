-- A frame leaves: what holds of the machine's work is kept, and fewer steps are left.
use Rattle.std.proofs.Common.{◌≡◌, ◌≢◌, ◌↔◌, ℕ, ◌+◌, ◌<◌, ◌≤◌, ◌⊎◌, inl, inr, true, false, Option, Some, None, List, [], ◌∷◌, sym, subst, ap, ◌∙◌, arith}
use Rattle.std.specs.Prelude.{reverse, ℤ}
use Rattle.std.proofs.lemmas.Bool.{false≢true}
use Rattle.std.proofs.lemmas.Option.{none-some}
use Rattle.adp_model.specs.declared.cell.Answer.{Answer}
use Rattle.adp_model.specs.declared.cell.Cell.{Cell}
use Rattle.memo_model.specs.declared.visit.Frame.{Frame}
use Rattle.adp_model.specs.PosedProblem.{PosedProblem}
use Rattle.adp_model.specs.SplitArguments.{SplitArgument}
use Rattle.memo_model.specs.Memos.{Meaning, IsScoreOf, IsAdded}
use Rattle.rand_pcg.specs.Lcg.{Lcg}
use Rattle.cell_core.specs.declared.work.Work.{Work}
use Rattle.cell_core.specs.Working.{frames_of, all_frames, with_top, HasRoom, IsSound, IsClosed, work_left}
use Rattle.cell_core.specs.FrameChanges.{standing, EndsPublication, IsFrameGone}
use Rattle.cell_core.proofs.Worked.{IsAt, IsWorking, IsStepped, publish_next_sound, publish_end_sound, publish_next_left, publish_end_left}
use Rattle.cell_core.proofs.Changes.{frame_gone}
use Rattle.cell_core.proofs.Stepped.{with_parts}

-- the work with another number of wins
abbrev pub with_wins : {Probe : Type 0} → Work Probe → ℕ → Work Probe
with_wins work wins = record {
  hand = work.hand;
  top = work.top;
  below = work.below;
  ready = work.ready;
  opened = work.opened;
  wins = wins;
  moves = work.moves;
  ended = work.ended;
  score = work.score;
}

-- where the work goes on there is a frame
pub on_with_a_top : {Probe : Type 0} (work work' : Work Probe) (score : Option ℤ) → IsClosed work work' score
    → work'.ended ≡ false → work'.top ≢ None
on_with_a_top {Probe} work work' score closed e f = go closed.next
  where
    go : ((next : Frame Probe) × (work'.top ≡ Some next) × (reverse work.below.items ≡ next ∷ reverse work'.below.items)
        × (work'.ended ≡ work.ended))
        ⊎ ((work'.top ≡ None) × (reverse work.below.items ≡ []) × (work'.ended ≡ true) × (work'.score ≡ score))
        → ⊥
    go (inl next) = none-some next.0 (sym f ∙ next.1)
    go (inr end) = false≢true (sym e ∙ end.2)

-- what was on top doesn't matter
pub closed_under : {Probe : Type 0} (work work' : Work Probe) (top : Option (Frame Probe)) (score : Option ℤ)
    → IsClosed (with_parts work work.hand top) work' score → IsClosed work work' score
closed_under work work' top score closed = record {
  hand = closed.hand;
  ready = closed.ready;
  capacity = closed.capacity;
  opened = closed.opened;
  wins = closed.wins;
  moves = closed.moves;
  next = closed.next;
}

module _ {Pass Probe : Type 0} {memo : Meaning Pass Probe} {p : PosedProblem} {Noted : Cell → Type 0}
    {pass pass' : Pass} {work' : Work Probe} {answer : Answer} {wins : ℕ} {score : Option ℤ}
    (work : Work Probe) (top : Frame Probe)
    (it : IsWorking memo p Noted pass (with_top work top) None (top ∷ reverse work.below.items) (Some answer))
    (step : IsStepped memo pass pass') (closed : IsClosed (with_wins work wins) work' score) where
  abbrev below : List (Frame Probe)
  below = reverse work.below.items

  -- what became of the frames below
  abbrev Next : Type 0
  Next =
      ((next : Frame Probe) × (work'.top ≡ Some next) × (below ≡ next ∷ reverse work'.below.items)
      × (work'.ended ≡ work.ended))
      ⊎ ((work'.top ≡ None) × (below ≡ []) × (work'.ended ≡ true) × (work'.score ≡ score))

  next_frames : (next : Frame Probe) → work'.top ≡ Some next
      → frames_of work'.top work'.below.items ≡ next ∷ reverse work'.below.items
  next_frames next is = ap (λ t. frames_of t work'.below.items) is

  no_frames : work'.top ≡ None → frames_of work'.top work'.below.items ≡ []
  no_frames is = ap (λ t. frames_of t work'.below.items) is

  room : HasRoom p work'
  room = record {
    room = let r = it.sound.has_room.room in let c = closed.capacity in omega arith;
    nothing_below = λ e f. absurd (on_with_a_top (with_wins work wins) work' score closed e f);
  }

  at_next : (next : Frame Probe) → work'.top ≡ Some next → work'.ended ≡ work.ended
      → IsAt work' None (next ∷ reverse work'.below.items) None
  at_next next is going = record {
    going = going ∙ it.at.going;
    hand_is = closed.hand ∙ it.at.hand_is;
    frames_are = next_frames next is;
    ready_is = closed.ready;
  }

  pub closed_sound : (Noted' : Cell → Type 0) → IsAdded top.visit.cell (memo.known pass) (memo.known pass')
      → ((other : Cell) → Noted' other ↔ (Noted other ⊎ (other ≡ top.visit.cell)))
      → (won : ℕ) → won ≤ 1 → wins ≡ work.wins + won → IsScoreOf p top.visit.cell score → IsSound memo p Noted' work' pass'
  closed_sound Noted' added noted_now won at_most gained scored = go closed.next
    where
      go : Next → IsSound memo p Noted' work' pass'
      go (inl next) =
          publish_next_sound it step room added noted_now closed.opened won at_most (closed.wins ∙ gained)
          next.0 (reverse work'.below.items) next.2 (at_next next.0 next.1 next.3)
      go (inr end) =
          publish_end_sound it step room added noted_now closed.opened won at_most (closed.wins ∙ gained)
          end.1 end.2 (closed.hand ∙ it.at.hand_is) (no_frames end.0)
          (subst (IsScoreOf p top.visit.cell) (sym end.3) scored)

  pub closed_left : (m : ℕ) (arguments : List SplitArgument) → memo.known pass' top.visit.cell → (probe' : Probe)
      → memo.remaining m probe' < memo.remaining m top.probe
      → work_left memo p m arguments work' pass' < work_left memo p m arguments (with_top work top) pass
  closed_left m arguments known probe' less = go closed.next
    where
      go : Next → work_left memo p m arguments work' pass' < work_left memo p m arguments (with_top work top) pass
      go (inl next) =
          publish_next_left it step room m arguments next.0 (reverse work'.below.items) next.2
          (at_next next.0 next.1 next.3) known probe' less
      go (inr end) = publish_end_left it step room m arguments end.2 probe' less

  pub closed_frames : (orders : Lcg) → EndsPublication memo pass pass' top.visit.cell → memo.known pass' top.visit.cell
      → IsFrameGone memo pass pass' (standing (all_frames (with_top work top)) work.opened orders)
      (standing (all_frames work') work'.opened orders)
  closed_frames orders ends known = go closed.next
    where
      go : Next → IsFrameGone memo pass pass' (standing (all_frames (with_top work top)) work.opened orders)
          (standing (all_frames work') work'.opened orders)
      go (inl next) =
          frame_gone memo p pass pass' top (top ∷ below) (all_frames work') work.opened work'.opened orders
          (ap (λ xs. top ∷ xs) (next.2 ∙ sym (next_frames next.0 next.1))) closed.opened ends known
      go (inr end) =
          frame_gone memo p pass pass' top (top ∷ below) (all_frames work') work.opened work'.opened orders
          (ap (λ xs. top ∷ xs) (end.1 ∙ sym (no_frames end.0))) closed.opened ends known
