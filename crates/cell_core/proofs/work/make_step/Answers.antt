use Rattle.std.proofs.Common.{◌≡◌, ◌↔◌, ℕ, true, false, None, refl, sym, subst, ◌∙◌}
use native.Mathlib.Nat.{le_trans}
use Rattle.adp_model.specs.declared.cell.Cell.{Cell}
use Rattle.memo_model.specs.Memos.{HasLoaded}
use Rattle.cell_core.specs.Working.{all_frames}
use Rattle.cell_core.specs.FrameChanges.{Standing, standing, ChangesFrames}
use Rattle.cell_core.proofs.Stepped.{falls_then, sound_by_parts, left_by_parts, loads_by_parts}
use Rattle.cell_core.proofs.work.make_step.Goals as goal

pub returns-in-Some-clause-frames : goal.returns-in-Some-clause-frames
returns-in-Some-clause-frames g c =
    subst
    (λ (after : Standing).
    ChangesFrames g.M.Memo.meaning c.args.problem.now c.args.pass.now c.look.new.pass
    (standing (all_frames c.args.work.now) c.args.work.now.opened c.args.orders.now) after)
    (sym (c.settle.ensures.stands c.look.new.orders)) c.look.ensures.frames

pub returns-in-Some-ready-clause-frames : goal.returns-in-Some-ready-clause-frames
returns-in-Some-ready-clause-frames g c =
    subst
    (λ (after : Standing).
    ChangesFrames g.M.Memo.meaning c.args.problem.now c.args.pass.now c.publish.new.pass
    (standing (all_frames c.args.work.now) c.args.work.now.opened c.args.orders.now) after)
    (sym (c.settle-in-Some-ready.ensures.stands c.args.orders.now)) c.publish.ensures.frames

pub returns-in-None-ready-clause-frames : goal.returns-in-None-ready-clause-frames
returns-in-None-ready-clause-frames g c =
    subst
    (λ (after : Standing).
    ChangesFrames g.M.Memo.meaning c.args.problem.now c.args.pass.now c.look-in-None-ready.new.pass
    (standing (all_frames c.args.work.now) c.args.work.now.opened c.args.orders.now) after)
    (sym (c.settle-in-None-ready.ensures.stands c.look-in-None-ready.new.orders)) c.look-in-None-ready.ensures.frames

pub look-requires-clause-memo : goal.look-requires-clause-memo
look-requires-clause-memo g c = c.requires.memo

pub look-requires-clause-notes : goal.look-requires-clause-notes
look-requires-clause-notes g c = c.requires.notes

pub look-requires-clause-own : goal.look-requires-clause-own
look-requires-clause-own g c = c.requires.own

pub look-requires-clause-going : goal.look-requires-clause-going
look-requires-clause-going g c = c.requires.going

pub look-requires-clause-no_hand : goal.look-requires-clause-no_hand
look-requires-clause-no_hand g c = c.take.ensures.after

pub look-requires-clause-sound : goal.look-requires-clause-sound
look-requires-clause-sound g c =
    sound_by_parts g.M.Memo.meaning c.args.problem.now c.args.pass.now (g.N.Notes.noted c.args.notes.now) c.args.work.now _ _
    (sym c.take.ensures.value ∙ c.in-Some.is) refl c.requires.sound

pub settle-requires-clause-memo : goal.settle-requires-clause-memo
settle-requires-clause-memo g c = c.requires.memo

pub settle-requires-clause-notes : goal.settle-requires-clause-notes
settle-requires-clause-notes g c = c.look.ensures.notes

pub settle-requires-clause-own : goal.settle-requires-clause-own
settle-requires-clause-own g c = c.look.ensures.own

pub settle-requires-clause-sound : goal.settle-requires-clause-sound
settle-requires-clause-sound g c = c.look.ensures.sound

pub settle-requires-clause-begun : goal.settle-requires-clause-begun
settle-requires-clause-begun g c = λ h r e. c.look.ensures.next h e

pub publish-requires-clause-memo : goal.publish-requires-clause-memo
publish-requires-clause-memo g c = c.requires.memo

pub publish-requires-clause-notes : goal.publish-requires-clause-notes
publish-requires-clause-notes g c = c.requires.notes

pub publish-requires-clause-own : goal.publish-requires-clause-own
publish-requires-clause-own g c = c.requires.own

pub publish-requires-clause-going : goal.publish-requires-clause-going
publish-requires-clause-going g c = c.requires.going

pub publish-requires-clause-no_hand : goal.publish-requires-clause-no_hand
publish-requires-clause-no_hand g c = c.take.ensures.after

pub publish-requires-clause-answer : goal.publish-requires-clause-answer
publish-requires-clause-answer g c = c.in-Some-ready.is

pub publish-requires-clause-sound : goal.publish-requires-clause-sound
publish-requires-clause-sound g c =
    sound_by_parts g.M.Memo.meaning c.args.problem.now c.args.pass.now (g.N.Notes.noted c.args.notes.now) c.args.work.now _ _
    (sym c.take.ensures.value ∙ c.in-None.is ∙ sym c.take.ensures.after) refl c.requires.sound

pub settle-requires-in-Some-ready-clause-memo : goal.settle-requires-in-Some-ready-clause-memo
settle-requires-in-Some-ready-clause-memo g c = c.requires.memo

pub settle-requires-in-Some-ready-clause-notes : goal.settle-requires-in-Some-ready-clause-notes
settle-requires-in-Some-ready-clause-notes g c = c.publish.ensures.notes

pub settle-requires-in-Some-ready-clause-own : goal.settle-requires-in-Some-ready-clause-own
settle-requires-in-Some-ready-clause-own g c = c.publish.ensures.own

pub settle-requires-in-Some-ready-clause-sound : goal.settle-requires-in-Some-ready-clause-sound
settle-requires-in-Some-ready-clause-sound g c = c.publish.ensures.sound

pub settle-requires-in-Some-ready-clause-begun : goal.settle-requires-in-Some-ready-clause-begun
settle-requires-in-Some-ready-clause-begun g c = λ h r e. c.publish.ensures.next r e

pub first_look-hand-requires-clause-memo : goal.first_look-hand-requires-clause-memo
first_look-hand-requires-clause-memo g c = c.requires.memo

pub first_look-hand-requires-clause-own : goal.first_look-hand-requires-clause-own
first_look-hand-requires-clause-own g c = c.requires.own

pub first_look-hand-requires-clause-going : goal.first_look-hand-requires-clause-going
first_look-hand-requires-clause-going g c = c.requires.going

pub first_look-hand-requires-clause-no_hand : goal.first_look-hand-requires-clause-no_hand
first_look-hand-requires-clause-no_hand g c = c.take.ensures.after

pub first_look-hand-requires-clause-no_answer : goal.first_look-hand-requires-clause-no_answer
first_look-hand-requires-clause-no_answer g c = c.in-None-ready.is

pub first_look-hand-requires-clause-sound : goal.first_look-hand-requires-clause-sound
first_look-hand-requires-clause-sound g c =
    sound_by_parts g.M.Memo.meaning c.args.problem.now c.args.pass.now (g.N.Notes.noted c.args.notes.now) c.args.work.now _ _
    (sym c.take.ensures.value ∙ c.in-None.is ∙ sym c.take.ensures.after) refl c.requires.sound

pub look-requires-in-None-ready-clause-memo : goal.look-requires-in-None-ready-clause-memo
look-requires-in-None-ready-clause-memo g c = c.requires.memo

pub look-requires-in-None-ready-clause-notes : goal.look-requires-in-None-ready-clause-notes
look-requires-in-None-ready-clause-notes g c = c.requires.notes

pub look-requires-in-None-ready-clause-own : goal.look-requires-in-None-ready-clause-own
look-requires-in-None-ready-clause-own g c = c.requires.own

pub look-requires-in-None-ready-clause-going : goal.look-requires-in-None-ready-clause-going
look-requires-in-None-ready-clause-going g c = c.requires.going

pub look-requires-in-None-ready-clause-no_hand : goal.look-requires-in-None-ready-clause-no_hand
look-requires-in-None-ready-clause-no_hand g c = c.take.ensures.after

pub look-requires-in-None-ready-clause-no_answer : goal.look-requires-in-None-ready-clause-no_answer
look-requires-in-None-ready-clause-no_answer g c = c.in-None-ready.is

pub look-requires-in-None-ready-clause-sound : goal.look-requires-in-None-ready-clause-sound
look-requires-in-None-ready-clause-sound g c = c.first_look-hand.ensures.sound

pub settle-requires-in-None-ready-clause-memo : goal.settle-requires-in-None-ready-clause-memo
settle-requires-in-None-ready-clause-memo g c = c.requires.memo

pub settle-requires-in-None-ready-clause-notes : goal.settle-requires-in-None-ready-clause-notes
settle-requires-in-None-ready-clause-notes g c = c.look-in-None-ready.ensures.notes

pub settle-requires-in-None-ready-clause-own : goal.settle-requires-in-None-ready-clause-own
settle-requires-in-None-ready-clause-own g c = c.look-in-None-ready.ensures.own

pub settle-requires-in-None-ready-clause-sound : goal.settle-requires-in-None-ready-clause-sound
settle-requires-in-None-ready-clause-sound g c = c.look-in-None-ready.ensures.sound

pub settle-requires-in-None-ready-clause-begun : goal.settle-requires-in-None-ready-clause-begun
settle-requires-in-None-ready-clause-begun g c = λ h r e. c.look-in-None-ready.ensures.next h e

pub returns-in-Some-clause-notes : goal.returns-in-Some-clause-notes
returns-in-Some-clause-notes g c = c.settle.ensures.notes

pub returns-in-Some-clause-own : goal.returns-in-Some-clause-own
returns-in-Some-clause-own g c = c.look.ensures.own

pub returns-in-Some-clause-share : goal.returns-in-Some-clause-share
returns-in-Some-clause-share g c = c.look.ensures.share

pub returns-in-Some-clause-known : goal.returns-in-Some-clause-known
returns-in-Some-clause-known g c = c.look.ensures.known

pub returns-in-Some-clause-steps : goal.returns-in-Some-clause-steps
returns-in-Some-clause-steps g c = c.look.ensures.steps

pub returns-in-Some-clause-wins : goal.returns-in-Some-clause-wins
returns-in-Some-clause-wins g c =
    let w = c.look.ensures.wins in (w.0, w.1, w.2, c.settle.ensures.numbers.0 ∙ w.3)

pub returns-in-Some-clause-moves : goal.returns-in-Some-clause-moves
returns-in-Some-clause-moves g c = c.settle.ensures.numbers.1 ∙ c.look.ensures.moves

pub returns-in-Some-clause-under_way : goal.returns-in-Some-clause-under_way
returns-in-Some-clause-under_way g c = c.settle.ensures.under_way

pub returns-in-Some-clause-sound : goal.returns-in-Some-clause-sound
returns-in-Some-clause-sound g c = c.settle.ensures.sound

pub returns-in-Some-clause-loads : goal.returns-in-Some-clause-loads
returns-in-Some-clause-loads g c =
    loads_by_parts g.M.Memo.meaning c.args.problem.now c.look.new.pass (g.M.Memo.fresh_loads c.args.memo.now) _
    false _ _ _ _ c.requires.going (sym c.take.ensures.value ∙ c.in-Some.is) refl
    c.look.ensures.loads

pub returns-in-Some-clause-lower : goal.returns-in-Some-clause-lower
returns-in-Some-clause-lower g c = λ m arguments counted all.
    falls_then _ _ _ _ (c.settle.ensures.lower m arguments counted all) (c.look.ensures.lower m arguments counted)
    (left_by_parts g.M.Memo.meaning c.args.problem.now c.args.pass.now m arguments c.args.work.now _ _
    (sym c.take.ensures.value ∙ c.in-Some.is) refl)

pub returns-in-Some-ready-clause-notes : goal.returns-in-Some-ready-clause-notes
returns-in-Some-ready-clause-notes g c = c.settle-in-Some-ready.ensures.notes

pub returns-in-Some-ready-clause-own : goal.returns-in-Some-ready-clause-own
returns-in-Some-ready-clause-own g c = c.publish.ensures.own

pub returns-in-Some-ready-clause-share : goal.returns-in-Some-ready-clause-share
returns-in-Some-ready-clause-share g c = c.publish.ensures.share

pub returns-in-Some-ready-clause-known : goal.returns-in-Some-ready-clause-known
returns-in-Some-ready-clause-known g c = c.publish.ensures.known

pub returns-in-Some-ready-clause-steps : goal.returns-in-Some-ready-clause-steps
returns-in-Some-ready-clause-steps g c = c.publish.ensures.steps

pub returns-in-Some-ready-clause-wins : goal.returns-in-Some-ready-clause-wins
returns-in-Some-ready-clause-wins g c =
    let w = c.publish.ensures.wins in (w.0, w.1, w.2, c.settle-in-Some-ready.ensures.numbers.0 ∙ w.3)

pub returns-in-Some-ready-clause-moves : goal.returns-in-Some-ready-clause-moves
returns-in-Some-ready-clause-moves g c = c.settle-in-Some-ready.ensures.numbers.1 ∙ c.publish.ensures.moves

pub returns-in-Some-ready-clause-under_way : goal.returns-in-Some-ready-clause-under_way
returns-in-Some-ready-clause-under_way g c = c.settle-in-Some-ready.ensures.under_way

pub returns-in-Some-ready-clause-sound : goal.returns-in-Some-ready-clause-sound
returns-in-Some-ready-clause-sound g c = c.settle-in-Some-ready.ensures.sound

pub returns-in-Some-ready-clause-loads : goal.returns-in-Some-ready-clause-loads
returns-in-Some-ready-clause-loads g c =
    loads_by_parts g.M.Memo.meaning c.args.problem.now c.publish.new.pass (g.M.Memo.fresh_loads c.args.memo.now) _
    false _ None _ _ c.requires.going (sym c.take.ensures.value ∙ c.in-None.is) c.in-Some-ready.is refl

pub returns-in-Some-ready-clause-lower : goal.returns-in-Some-ready-clause-lower
returns-in-Some-ready-clause-lower g c = λ m arguments counted all.
    falls_then _ _ _ _ (c.settle-in-Some-ready.ensures.lower m arguments counted all)
    (c.publish.ensures.lower m arguments counted)
    (left_by_parts g.M.Memo.meaning c.args.problem.now c.args.pass.now m arguments c.args.work.now _ _
    (sym c.take.ensures.value ∙ c.in-None.is ∙ sym c.take.ensures.after) refl)

pub returns-in-None-ready-clause-notes : goal.returns-in-None-ready-clause-notes
returns-in-None-ready-clause-notes g c = c.settle-in-None-ready.ensures.notes

pub returns-in-None-ready-clause-own : goal.returns-in-None-ready-clause-own
returns-in-None-ready-clause-own g c = c.look-in-None-ready.ensures.own

pub returns-in-None-ready-clause-share : goal.returns-in-None-ready-clause-share
returns-in-None-ready-clause-share g c = c.look-in-None-ready.ensures.share

pub returns-in-None-ready-clause-known : goal.returns-in-None-ready-clause-known
returns-in-None-ready-clause-known g c = c.look-in-None-ready.ensures.known

pub returns-in-None-ready-clause-steps : goal.returns-in-None-ready-clause-steps
returns-in-None-ready-clause-steps g c = c.look-in-None-ready.ensures.steps

pub returns-in-None-ready-clause-wins : goal.returns-in-None-ready-clause-wins
returns-in-None-ready-clause-wins g c =
    let w = c.look-in-None-ready.ensures.wins in (w.0, w.1, w.2, c.settle-in-None-ready.ensures.numbers.0 ∙ w.3)

pub returns-in-None-ready-clause-moves : goal.returns-in-None-ready-clause-moves
returns-in-None-ready-clause-moves g c = c.settle-in-None-ready.ensures.numbers.1 ∙ c.look-in-None-ready.ensures.moves

pub returns-in-None-ready-clause-under_way : goal.returns-in-None-ready-clause-under_way
returns-in-None-ready-clause-under_way g c = c.settle-in-None-ready.ensures.under_way

pub returns-in-None-ready-clause-sound : goal.returns-in-None-ready-clause-sound
returns-in-None-ready-clause-sound g c = c.settle-in-None-ready.ensures.sound

pub returns-in-None-ready-clause-loads : goal.returns-in-None-ready-clause-loads
returns-in-None-ready-clause-loads g c =
    let seen = λ (cell : Cell). (found : ℕ) × HasLoaded g.M.Memo.meaning c.look-in-None-ready.new.pass cell found in
    loads_by_parts g.M.Memo.meaning c.args.problem.now c.look-in-None-ready.new.pass (g.M.Memo.fresh_loads c.args.memo.now) _
    false _ None _ None c.requires.going (sym c.take.ensures.value ∙ c.in-None.is) c.in-None-ready.is
    (subst (λ (cell : Cell). (g.M.Memo.fresh_loads c.args.memo.now ≡ true) ↔ seen cell) c.first_look-hand.ensures.cell
    (subst (λ told. (told ≡ true) ↔ seen c.first_look-hand.result.cell) c.first_look-hand.ensures.loads
    c.look-in-None-ready.ensures.loads))

pub returns-in-None-ready-clause-lower : goal.returns-in-None-ready-clause-lower
returns-in-None-ready-clause-lower g c = λ m arguments counted all.
    falls_then _ _ _ _ (c.settle-in-None-ready.ensures.lower m arguments counted all)
    (c.look-in-None-ready.ensures.lower m arguments counted)
    (le_trans (c.first_look-hand.ensures.lower m arguments counted)
    (left_by_parts g.M.Memo.meaning c.args.problem.now c.args.pass.now m arguments c.args.work.now _ _
    (sym c.take.ensures.value ∙ c.in-None.is ∙ sym c.take.ensures.after) refl))
