use Rattle.std.proofs.Common.{inl, inr, ◌+◌, ◌∷◌, Some, None, refl, sym, subst, ◌∙◌, arith}
use native.Mathlib.Nat.{le_trans}
use Rattle.std.specs.Prelude.{reverse}
use Rattle.std.proofs.lemmas.Option.{none-some}
use Rattle.adp_model.specs.declared.cell.Cell.{Cell}
use Rattle.adp_model.specs.Answers.{IsAnswer}
use Rattle.adp_model.specs.Demand.{IsDemanded, IsDemandedChild, IsDemandedCount}
use Rattle.memo_model.specs.Memos.{IsAdded, HasExchanged}
use Rattle.cell_core.specs.Working.{frames_of, all_frames, with_top}
use Rattle.cell_core.proofs.Heights.{heights}
use Rattle.cell_core.proofs.Changes.{few_wins_so}
use Rattle.cell_core.proofs.Worked.{IsWorking, IsStepped, published_demanded, top_following, top_unpublished, answer_right, children_known, publish_on_sound, publish_on_left, room_top}
use Rattle.cell_core.specs.FrameChanges.{standing, ChangesFrames}
use Rattle.cell_core.proofs.Stepped.{sound_by_parts, left_by_parts}
use Rattle.cell_core.proofs.Closing.{with_wins, closed_under, on_with_a_top, closed_sound, closed_left, closed_frames}
use Rattle.cell_core.proofs.work.publish.Given.{Over}
use Rattle.cell_core.proofs.work.publish.Goals as goal
use Rattle.cell_core.proofs.work.publish.Goals.{In-Some, After-publish_step}

-- the publication of the top frame, before the step
publishing : (g : Over) (c : In-Some g)
    → IsWorking g.M.Memo.meaning c.args.problem.now (g.N.Notes.noted c.args.notes.now) c.args.pass.now
    (with_top c.args.work.now c.in-Some.field-0) None (c.in-Some.field-0 ∷ reverse c.args.work.now.below.items)
    (Some c.args.answer)
publishing g c = record {
  high = heights c.args.problem.now c.admissible.ensures c.heights_fall.ensures.falls c.heights_fall.ensures.few;
  at = record { going = c.requires.going; hand_is = c.requires.no_hand; frames_are = refl; ready_is = c.requires.answer };
  sound = sound_by_parts g.M.Memo.meaning c.args.problem.now c.args.pass.now (g.N.Notes.noted c.args.notes.now)
      c.args.work.now c.args.work.now.hand (Some c.in-Some.field-0) refl c.in-Some.is c.requires.sound;
}

-- the step
stepped : (g : Over) (c : After-publish_step g)
    → IsStepped g.M.Memo.meaning c.args.pass.now c.publish_step.new.pass
stepped g c = record {
  follow = λ probe apart f. g.met.M.Memo.follows_on probe _ _ c.publish_step.ensures.on apart f;
  stay = c.publish_step.ensures.known;
}

-- ---- the publication is stepped

pub publish_step-requires-clause-own : goal.publish_step-requires-clause-own
publish_step-requires-clause-own g c = c.requires.own

pub publish_step-requires-clause-unpublished : goal.publish_step-requires-clause-unpublished
publish_step-requires-clause-unpublished g c =
    top_unpublished (publishing g (goal.at.publish_step-requires-clause-unpublished g c).In-Some)

pub publish_step-requires-clause-follows : goal.publish_step-requires-clause-follows
publish_step-requires-clause-follows g c =
    (top_following (publishing g (goal.at.publish_step-requires-clause-follows g c).In-Some)).follows

pub publish_step-requires-clause-answer : goal.publish_step-requires-clause-answer
publish_step-requires-clause-answer g c =
    let it = publishing g (goal.at.publish_step-requires-clause-answer g c).In-Some in
    subst (λ q. IsAnswer q (g.M.Memo.meaning.cell c.in-Some.field-0.probe) c.args.answer) (sym c.requires.memo)
    (subst (λ (cell : Cell). IsAnswer c.args.problem.now cell c.args.answer) (sym (top_following it).cell)
    (answer_right it))

pub publish_step-requires-clause-children : goal.publish_step-requires-clause-children
publish_step-requires-clause-children g c = λ child h.
    let it = publishing g (goal.at.publish_step-requires-clause-children g c).In-Some in
    children_known it child
    (subst (λ (cell : Cell). IsDemandedChild c.args.problem.now cell child) (top_following it).cell
    (subst (λ q. IsDemandedChild q (g.M.Memo.meaning.cell c.in-Some.field-0.probe) child) c.requires.memo h))

-- ---- it goes on

pub returns-in-Going-clause-notes : goal.returns-in-Going-clause-notes
returns-in-Going-clause-notes g c = c.requires.notes

pub returns-in-Going-clause-own : goal.returns-in-Going-clause-own
returns-in-Going-clause-own g c = c.publish_step.ensures.own

pub returns-in-Going-clause-share : goal.returns-in-Going-clause-share
returns-in-Going-clause-share g c = c.publish_step.ensures.share

pub returns-in-Going-clause-known : goal.returns-in-Going-clause-known
returns-in-Going-clause-known g c = c.publish_step.ensures.known

pub returns-in-Going-clause-wins : goal.returns-in-Going-clause-wins
returns-in-Going-clause-wins g c = let w = c.in-Going.ensures.publish.2 in (0, omega arith, omega arith, omega arith)

pub returns-in-Going-clause-moves : goal.returns-in-Going-clause-moves
returns-in-Going-clause-moves g c = refl

pub returns-in-Going-clause-frames : goal.returns-in-Going-clause-frames
returns-in-Going-clause-frames g c =
    subst
    (λ t. ChangesFrames g.M.Memo.meaning c.args.problem.now c.args.pass.now c.publish_step.new.pass
    (standing (frames_of t c.args.work.now.below.items) c.args.work.now.opened c.args.orders.now)
    (standing
    (frames_of (Some (record { visit = c.in-Some.field-0.visit; probe = c.publish_step.new.probe }))
    c.args.work.now.below.items)
    c.args.work.now.opened c.args.orders.now))
    (sym c.in-Some.is) (inl refl)

pub returns-in-Going-clause-next : goal.returns-in-Going-clause-next
returns-in-Going-clause-next g c = λ r e t. none-some _ (sym t)

pub returns-in-Going-clause-no_hand : goal.returns-in-Going-clause-no_hand
returns-in-Going-clause-no_hand g c = c.requires.no_hand

pub returns-in-Going-clause-steps : goal.returns-in-Going-clause-steps
returns-in-Going-clause-steps g c = c.publish_step.ensures.steps

pub returns-in-Going-clause-sound : goal.returns-in-Going-clause-sound
returns-in-Going-clause-sound g c =
    let at = goal.at.returns-in-Going-clause-sound g c in
    let it = publishing g at.In-Some in
    let e = c.in-Going.ensures in
    publish_on_sound it (stepped g at.After-publish_step) (room_top (publishing g at.In-Some).sound.has_room _ _ _ _ _ _)
    (record { going = c.requires.going; hand_is = c.requires.no_hand; frames_are = refl; ready_is = c.requires.answer })
    (record { opened = refl; wins = refl }) refl e.publish.1
    (record { cell = e.cell ∙ (top_following it).cell; follows = e.follows }) e.publish.0

pub returns-in-Going-clause-lower : goal.returns-in-Going-clause-lower
returns-in-Going-clause-lower g c = λ m arguments counted.
    let at = goal.at.returns-in-Going-clause-lower g c in
    let w = c.args.work.now in
    le_trans
    (publish_on_left (publishing g at.In-Some) (stepped g at.After-publish_step)
    (room_top (publishing g at.In-Some).sound.has_room w.hand w.ready w.opened w.wins w.moves w.score)
    {top' = record { visit = c.in-Some.field-0.visit; probe = c.publish_step.new.probe }} m arguments
    (record { going = c.requires.going; hand_is = c.requires.no_hand; frames_are = refl; ready_is = c.requires.answer })
    refl (c.publish_step.ensures.fewer m (subst (λ q. IsDemandedCount q m) (sym c.requires.memo) counted)))
    (left_by_parts g.M.Memo.meaning c.args.problem.now c.args.pass.now m arguments c.args.work.now
    c.args.work.now.hand (Some c.in-Some.field-0) refl c.in-Some.is)

-- ---- the answer is published, by this step or before it

pub overflow_add-work : goal.overflow_add-work
overflow_add-work g c =
    let listed = c.demanded_cells_are_listed.ensures.count c.args.problem.now c.admissible.ensures in
    let few = few_wins_so g.M.Memo.meaning c.args.problem.now c.args.pass.now listed c.args.work.now.wins
    c.requires.sound.few_wins in
    omega arith

-- ---- it is won

pub close-requires-clause-demanded : goal.close-requires-clause-demanded
close-requires-clause-demanded g c =
    subst (λ q. IsDemanded q c.in-Some.field-0.visit.cell) (sym c.requires.notes)
    (published_demanded (publishing g (goal.at.close-requires-clause-demanded g c).In-Some))

pub close-requires-clause-score : goal.close-requires-clause-score
close-requires-clause-score g c =
    c.score_of-score.ensures (g.N.Notes.problem c.args.notes.now) c.in-Some.field-0.visit.cell
    (subst (λ q. IsAnswer q c.in-Some.field-0.visit.cell c.args.answer) (sym c.requires.notes)
    (answer_right (publishing g (goal.at.close-requires-clause-score g c).In-Some)))

pub returns-in-Won-clause-notes : goal.returns-in-Won-clause-notes
returns-in-Won-clause-notes g c = c.close.ensures.notes ∙ c.requires.notes

pub returns-in-Won-clause-own : goal.returns-in-Won-clause-own
returns-in-Won-clause-own g c = c.publish_step.ensures.own

pub returns-in-Won-clause-share : goal.returns-in-Won-clause-share
returns-in-Won-clause-share g c = c.publish_step.ensures.share

pub returns-in-Won-clause-known : goal.returns-in-Won-clause-known
returns-in-Won-clause-known g c = c.publish_step.ensures.known

pub returns-in-Won-clause-wins : goal.returns-in-Won-clause-wins
returns-in-Won-clause-wins g c =
    let w = c.in-Won.ensures.publish.2 in
    let same = c.close.ensures.closed.wins in
    (1, omega arith, omega arith, omega arith)

pub returns-in-Won-clause-moves : goal.returns-in-Won-clause-moves
returns-in-Won-clause-moves g c = c.close.ensures.closed.moves

pub returns-in-Won-clause-frames : goal.returns-in-Won-clause-frames
returns-in-Won-clause-frames g c =
    let at = goal.at.returns-in-Won-clause-frames g c in
    let it = publishing g at.In-Some in
    let e = c.in-Won.ensures in
    let closed = closed_under (with_wins c.args.work.now (c.args.work.now.wins + 1)) c.close.new.work
    (Some (record { visit = c.in-Some.field-0.visit; probe = c.publish_step.new.probe })) _ c.close.ensures.closed in
    let own = top_following it in
    let added = subst (λ (cell : Cell).
    IsAdded cell (g.M.Memo.meaning.known c.args.pass.now) (g.M.Memo.meaning.known c.publish_step.new.pass)) own.cell
    e.publish.1 in
    subst
    (λ t. ChangesFrames g.M.Memo.meaning c.args.problem.now c.args.pass.now c.publish_step.new.pass
    (standing (frames_of t c.args.work.now.below.items) c.args.work.now.opened c.args.orders.now)
    (standing (all_frames c.close.new.work) c.close.new.work.opened c.args.orders.now))
    (sym c.in-Some.is)
    (inr (inr (closed_frames {wins = c.args.work.now.wins + 1} c.args.work.now c.in-Some.field-0 it
    (stepped g at.After-publish_step) closed c.args.orders.now
    (record {
      found = 0;
      on_word = subst (λ (cell : Cell). HasExchanged g.M.Memo.meaning c.publish_step.new.pass cell 0) own.cell
          (e.won.0 refl);
      won = λ _. e.publish.2;
      lost = λ some. absurd (omega arith);
    })
    added.known)))

pub returns-in-Won-clause-next : goal.returns-in-Won-clause-next
returns-in-Won-clause-next g c = λ r e. on_with_a_top _ _ _ c.close.ensures.closed e

pub returns-in-Won-clause-no_hand : goal.returns-in-Won-clause-no_hand
returns-in-Won-clause-no_hand g c = c.close.ensures.closed.hand ∙ c.requires.no_hand

pub returns-in-Won-clause-steps : goal.returns-in-Won-clause-steps
returns-in-Won-clause-steps g c = c.publish_step.ensures.steps

pub returns-in-Won-clause-sound : goal.returns-in-Won-clause-sound
returns-in-Won-clause-sound g c =
    let at = goal.at.returns-in-Won-clause-sound g c in
    let it = publishing g at.In-Some in
    let e = c.in-Won.ensures in
    let closed = closed_under (with_wins c.args.work.now (c.args.work.now.wins + 1)) c.close.new.work
    (Some (record { visit = c.in-Some.field-0.visit; probe = c.publish_step.new.probe })) _ c.close.ensures.closed in
    let own = top_following it in
    let added = subst (λ (cell : Cell).
    IsAdded cell (g.M.Memo.meaning.known c.args.pass.now) (g.M.Memo.meaning.known c.publish_step.new.pass)) own.cell
    e.publish.1 in
    closed_sound {wins = c.args.work.now.wins + 1} c.args.work.now c.in-Some.field-0 it (stepped g at.After-publish_step)
    closed (g.N.Notes.noted c.close.new.notes) added c.close.ensures.noted 1
    (omega arith) (omega arith)
    (c.score_of-score.ensures c.args.problem.now c.in-Some.field-0.visit.cell (answer_right it))

pub returns-in-Won-clause-lower : goal.returns-in-Won-clause-lower
returns-in-Won-clause-lower g c = λ m arguments counted.
    let at = goal.at.returns-in-Won-clause-lower g c in
    let it = publishing g at.In-Some in
    let e = c.in-Won.ensures in
    let closed = closed_under (with_wins c.args.work.now (c.args.work.now.wins + 1)) c.close.new.work
    (Some (record { visit = c.in-Some.field-0.visit; probe = c.publish_step.new.probe })) _ c.close.ensures.closed in
    let own = top_following it in
    let added = subst (λ (cell : Cell).
    IsAdded cell (g.M.Memo.meaning.known c.args.pass.now) (g.M.Memo.meaning.known c.publish_step.new.pass)) own.cell
    e.publish.1 in
    le_trans
    (closed_left {wins = c.args.work.now.wins + 1} c.args.work.now c.in-Some.field-0 it (stepped g at.After-publish_step)
    closed m arguments added.known c.publish_step.new.probe
    (c.publish_step.ensures.fewer m (subst (λ q. IsDemandedCount q m) (sym c.requires.memo) counted)))
    (left_by_parts g.M.Memo.meaning c.args.problem.now c.args.pass.now m arguments c.args.work.now
    c.args.work.now.hand (Some c.in-Some.field-0) refl c.in-Some.is)

-- ---- it is lost

pub close-requires-in-Lost-clause-demanded : goal.close-requires-in-Lost-clause-demanded
close-requires-in-Lost-clause-demanded g c =
    subst (λ q. IsDemanded q c.in-Some.field-0.visit.cell) (sym c.requires.notes)
    (published_demanded (publishing g (goal.at.close-requires-in-Lost-clause-demanded g c).In-Some))

pub close-requires-in-Lost-clause-score : goal.close-requires-in-Lost-clause-score
close-requires-in-Lost-clause-score g c =
    c.score_of-score.ensures (g.N.Notes.problem c.args.notes.now) c.in-Some.field-0.visit.cell
    (subst (λ q. IsAnswer q c.in-Some.field-0.visit.cell c.args.answer) (sym c.requires.notes)
    (answer_right (publishing g (goal.at.close-requires-in-Lost-clause-score g c).In-Some)))

pub returns-in-Lost-clause-notes : goal.returns-in-Lost-clause-notes
returns-in-Lost-clause-notes g c = c.close-in-Lost.ensures.notes ∙ c.requires.notes

pub returns-in-Lost-clause-own : goal.returns-in-Lost-clause-own
returns-in-Lost-clause-own g c = c.publish_step.ensures.own

pub returns-in-Lost-clause-share : goal.returns-in-Lost-clause-share
returns-in-Lost-clause-share g c = c.publish_step.ensures.share

pub returns-in-Lost-clause-known : goal.returns-in-Lost-clause-known
returns-in-Lost-clause-known g c = c.publish_step.ensures.known

pub returns-in-Lost-clause-wins : goal.returns-in-Lost-clause-wins
returns-in-Lost-clause-wins g c =
    let w = c.in-Lost.ensures.publish.2 in
    let same = c.close-in-Lost.ensures.closed.wins in
    (0, omega arith, omega arith, omega arith)

pub returns-in-Lost-clause-moves : goal.returns-in-Lost-clause-moves
returns-in-Lost-clause-moves g c = c.close-in-Lost.ensures.closed.moves

pub returns-in-Lost-clause-frames : goal.returns-in-Lost-clause-frames
returns-in-Lost-clause-frames g c =
    let at = goal.at.returns-in-Lost-clause-frames g c in
    let it = publishing g at.In-Some in
    let e = c.in-Lost.ensures in
    let closed = closed_under (with_wins c.args.work.now c.args.work.now.wins) c.close-in-Lost.new.work
    (Some (record { visit = c.in-Some.field-0.visit; probe = c.publish_step.new.probe })) _ c.close-in-Lost.ensures.closed in
    let own = top_following it in
    let added = subst (λ (cell : Cell).
    IsAdded cell (g.M.Memo.meaning.known c.args.pass.now) (g.M.Memo.meaning.known c.publish_step.new.pass)) own.cell
    e.publish.1 in
    let l = e.lost.0 refl in
    subst
    (λ t. ChangesFrames g.M.Memo.meaning c.args.problem.now c.args.pass.now c.publish_step.new.pass
    (standing (frames_of t c.args.work.now.below.items) c.args.work.now.opened c.args.orders.now)
    (standing (all_frames c.close-in-Lost.new.work) c.close-in-Lost.new.work.opened c.args.orders.now))
    (sym c.in-Some.is)
    (inr (inr (closed_frames {wins = c.args.work.now.wins} c.args.work.now c.in-Some.field-0 it
    (stepped g at.After-publish_step) closed c.args.orders.now
    (record {
      found = l.0;
      on_word = subst (λ (cell : Cell). HasExchanged g.M.Memo.meaning c.publish_step.new.pass cell l.0) own.cell l.2;
      won = λ none. absurd (let some = l.1 in omega arith);
      lost = λ _. e.publish.2;
    })
    added.known)))

pub returns-in-Lost-clause-next : goal.returns-in-Lost-clause-next
returns-in-Lost-clause-next g c = λ r e. on_with_a_top _ _ _ c.close-in-Lost.ensures.closed e

pub returns-in-Lost-clause-no_hand : goal.returns-in-Lost-clause-no_hand
returns-in-Lost-clause-no_hand g c = c.close-in-Lost.ensures.closed.hand ∙ c.requires.no_hand

pub returns-in-Lost-clause-steps : goal.returns-in-Lost-clause-steps
returns-in-Lost-clause-steps g c = c.publish_step.ensures.steps

pub returns-in-Lost-clause-sound : goal.returns-in-Lost-clause-sound
returns-in-Lost-clause-sound g c =
    let at = goal.at.returns-in-Lost-clause-sound g c in
    let it = publishing g at.In-Some in
    let e = c.in-Lost.ensures in
    let closed = closed_under (with_wins c.args.work.now c.args.work.now.wins) c.close-in-Lost.new.work
    (Some (record { visit = c.in-Some.field-0.visit; probe = c.publish_step.new.probe })) _ c.close-in-Lost.ensures.closed in
    let own = top_following it in
    let added = subst (λ (cell : Cell).
    IsAdded cell (g.M.Memo.meaning.known c.args.pass.now) (g.M.Memo.meaning.known c.publish_step.new.pass)) own.cell
    e.publish.1 in
    closed_sound {wins = c.args.work.now.wins} c.args.work.now c.in-Some.field-0 it (stepped g at.After-publish_step)
    closed (g.N.Notes.noted c.close-in-Lost.new.notes) added c.close-in-Lost.ensures.noted 0
    (omega arith) (omega arith)
    (c.score_of-score.ensures c.args.problem.now c.in-Some.field-0.visit.cell (answer_right it))

pub returns-in-Lost-clause-lower : goal.returns-in-Lost-clause-lower
returns-in-Lost-clause-lower g c = λ m arguments counted.
    let at = goal.at.returns-in-Lost-clause-lower g c in
    let it = publishing g at.In-Some in
    let e = c.in-Lost.ensures in
    let closed = closed_under (with_wins c.args.work.now c.args.work.now.wins) c.close-in-Lost.new.work
    (Some (record { visit = c.in-Some.field-0.visit; probe = c.publish_step.new.probe })) _ c.close-in-Lost.ensures.closed in
    let own = top_following it in
    let added = subst (λ (cell : Cell).
    IsAdded cell (g.M.Memo.meaning.known c.args.pass.now) (g.M.Memo.meaning.known c.publish_step.new.pass)) own.cell
    e.publish.1 in
    le_trans
    (closed_left {wins = c.args.work.now.wins} c.args.work.now c.in-Some.field-0 it (stepped g at.After-publish_step)
    closed m arguments added.known c.publish_step.new.probe
    (c.publish_step.ensures.fewer m (subst (λ q. IsDemandedCount q m) (sym c.requires.memo) counted)))
    (left_by_parts g.M.Memo.meaning c.args.problem.now c.args.pass.now m arguments c.args.work.now
    c.args.work.now.hand (Some c.in-Some.field-0) refl c.in-Some.is)
