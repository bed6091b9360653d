use Rattle.std.proofs.Common.{inl, inr, ◌∷◌, Some, None, refl, sym, subst, ap, ◌∙◌, arith}
use Rattle.std.specs.Prelude.{reverse}
use Rattle.std.proofs.lemmas.Bool.{false≢true}
use Rattle.std.proofs.lemmas.Option.{none-some}
use Rattle.adp_model.specs.declared.cell.Cell.{Cell}
use Rattle.adp_model.specs.Demand.{IsDemanded, IsDemandedCount}
use Rattle.memo_model.specs.Memos.{IsScoreOf, AddsAtMost, IsAdded, HasLoaded}
use Rattle.cell_core.specs.Working.{frames_of, with_hand}
use Rattle.cell_core.proofs.Heights.{heights}
use Rattle.cell_core.proofs.Changes.{few_opened_so, few_of, room_if, frame_added}
use Rattle.cell_core.proofs.Kept.{noted_known}
use Rattle.cell_core.proofs.Worked.{IsAt, IsWorking, IsStepped, hand_is_in, hand_demanded, hand_below, few_stand, loads_told, some_left, look_on_sound, look_on_left, look_open_sound, look_open_left, look_end_sound, look_found_sound, look_found_left, room_kept, room_under, room_ended}
use Rattle.cell_core.proofs.work.look.Given.{Over}
use Rattle.cell_core.proofs.work.look.Goals as goal
use Rattle.cell_core.proofs.work.look.Goals.{After-heights_fall, After-look_step, After-open}

-- the look that is made, before the step
looking : (g : Over) (c : After-heights_fall g)
    → IsWorking g.M.Memo.meaning c.args.problem.now (g.N.Notes.noted c.args.notes.now) c.args.pass.now
    (with_hand c.args.work.now c.args.hand) (Some c.args.hand) (frames_of c.args.work.now.top c.args.work.now.below.items)
    None
looking g c = record {
  high = heights c.args.problem.now c.admissible.ensures c.heights_fall.ensures.falls c.heights_fall.ensures.few;
  at = record { going = c.requires.going; hand_is = refl; frames_are = refl; ready_is = c.requires.no_answer };
  sound = c.requires.sound;
}

-- the step
stepped : (g : Over) (c : After-look_step g) → IsStepped g.M.Memo.meaning c.args.pass.now c.look_step.new.pass
stepped g c = record {
  follow = λ probe apart f. g.met.M.Memo.follows_on probe _ _ c.look_step.ensures.on apart f;
  stay = c.look_step.ensures.known;
}

-- ---- the look is stepped

pub look_step-requires-clause-own : goal.look_step-requires-clause-own
look_step-requires-clause-own g c = c.requires.own

pub look_step-requires-clause-open : goal.look_step-requires-clause-open
look_step-requires-clause-open g c =
    (hand_is_in (looking g (goal.at.look_step-requires-clause-open g c).After-heights_fall)).still_open

pub look_step-requires-clause-follows : goal.look_step-requires-clause-follows
look_step-requires-clause-follows g c =
    (hand_is_in (looking g (goal.at.look_step-requires-clause-follows g c).After-heights_fall)).follows

-- ---- it goes on

pub returns-in-Going-clause-notes : goal.returns-in-Going-clause-notes
returns-in-Going-clause-notes g c = c.requires.notes

pub returns-in-Going-clause-own : goal.returns-in-Going-clause-own
returns-in-Going-clause-own g c = c.look_step.ensures.own

pub returns-in-Going-clause-share : goal.returns-in-Going-clause-share
returns-in-Going-clause-share g c = c.look_step.ensures.share

pub returns-in-Going-clause-known : goal.returns-in-Going-clause-known
returns-in-Going-clause-known g c = c.look_step.ensures.known

pub returns-in-Going-clause-wins : goal.returns-in-Going-clause-wins
returns-in-Going-clause-wins g c = let w = c.look_step.ensures.wins in (0, omega arith, omega arith, omega arith)

pub returns-in-Going-clause-moves : goal.returns-in-Going-clause-moves
returns-in-Going-clause-moves g c = refl

pub returns-in-Going-clause-frames : goal.returns-in-Going-clause-frames
returns-in-Going-clause-frames g c = inl refl

pub returns-in-Going-clause-next : goal.returns-in-Going-clause-next
returns-in-Going-clause-next g c = λ h e t. none-some _ (sym h)

pub returns-in-Going-clause-no_answer : goal.returns-in-Going-clause-no_answer
returns-in-Going-clause-no_answer g c = c.requires.no_answer

pub returns-in-Going-clause-loads : goal.returns-in-Going-clause-loads
returns-in-Going-clause-loads g c =
    loads_told (looking g (goal.at.returns-in-Going-clause-loads g c).After-heights_fall) c.look_step.ensures.loads

pub returns-in-Going-clause-steps : goal.returns-in-Going-clause-steps
returns-in-Going-clause-steps g c = c.look_step.ensures.steps

pub returns-in-Going-clause-sound : goal.returns-in-Going-clause-sound
returns-in-Going-clause-sound g c =
    let at = goal.at.returns-in-Going-clause-sound g c in
    let it = looking g at.After-heights_fall in
    let e = c.in-Going.ensures in
    let own = hand_is_in it in
    look_on_sound it (stepped g at.After-look_step) (room_kept c.requires.sound.has_room _ _ _ _ _ _)
    (record { going = c.requires.going; hand_is = refl; frames_are = refl; ready_is = c.requires.no_answer })
    (record { opened = refl; wins = refl }) refl
    (subst (λ (cell : Cell).
    AddsAtMost cell (g.M.Memo.meaning.known c.args.pass.now) (g.M.Memo.meaning.known c.look_step.new.pass)) own.cell
    e.look.1)
    (record { cell = e.cell ∙ own.cell; still_open = e.look.0; follows = e.follows })

pub returns-in-Going-clause-lower : goal.returns-in-Going-clause-lower
returns-in-Going-clause-lower g c = λ m arguments counted.
    let at = goal.at.returns-in-Going-clause-lower g c in
    let w = c.args.work.now in
    look_on_left (looking g at.After-heights_fall) (stepped g at.After-look_step)
    (room_kept c.requires.sound.has_room _ _ w.opened w.wins w.moves w.score) m arguments
    (record { going = c.requires.going; hand_is = refl; frames_are = refl; ready_is = c.requires.no_answer })
    (c.look_step.ensures.fewer m (subst (λ q. IsDemandedCount q m) (sym c.requires.memo) counted))

-- ---- nothing is published: the cell is opened

pub opened_visit-visit-requires : goal.opened_visit-visit-requires
opened_visit-visit-requires g c = record {
  demanded = hand_demanded (looking g (goal.at.opened_visit-visit-requires g c).After-heights_fall);
}

pub open-requires-clause-nothing_below : goal.open-requires-clause-nothing_below
open-requires-clause-nothing_below g c = c.requires.sound.has_room.nothing_below c.requires.going

pub open-requires-clause-room : goal.open-requires-clause-room
open-requires-clause-room g c =
    room_if c.args.work.now _ c.requires.sound.has_room.room
    (few_stand (looking g (goal.at.open-requires-clause-room g c).After-heights_fall))

pub open-requires-clause-few : goal.open-requires-clause-few
open-requires-clause-few g c =
    let stand = few_stand (looking g (goal.at.open-requires-clause-few g c).After-heights_fall) in
    let rules = c.numbers_fit_together.ensures.few_rules c.args.problem.now.grammar
    c.admissible.ensures.checked.well_formed in
    let letters = c.admissible.ensures.limits.letters in
    let frames = few_of _ _ _ stand letters rules in
    let listed = c.demanded_cells_are_listed.ensures.count c.args.problem.now c.admissible.ensures in
    let opened = few_opened_so g.M.Memo.meaning c.args.problem.now c.args.pass.now listed c.args.work.now.opened
    (frames_of c.args.work.now.top c.args.work.now.below.items) c.requires.sound.few_opened in
    omega arith

-- the work with the frame that is opened
with_opened : (g : Over) (c : After-open g) → IsAt c.open.new.work None
    (record { visit = c.opened_visit-visit.result; probe = c.look_step.new.probe }
    ∷ frames_of c.args.work.now.top c.args.work.now.below.items) None
with_opened g c =
    let o = c.open.ensures in
    record {
      going = o.ended ∙ c.requires.going;
      hand_is = o.hand ∙ c.requires.no_hand;
      frames_are =
          ap (λ t. frames_of t c.open.new.work.below.items) o.top
          ∙ ap (λ xs. (record { visit = c.opened_visit-visit.result; probe = c.look_step.new.probe }) ∷ xs) o.frames;
      ready_is = o.ready ∙ c.requires.no_answer;
    }

pub returns-in-Unpublished-clause-notes : goal.returns-in-Unpublished-clause-notes
returns-in-Unpublished-clause-notes g c = c.requires.notes

pub returns-in-Unpublished-clause-own : goal.returns-in-Unpublished-clause-own
returns-in-Unpublished-clause-own g c = c.look_step.ensures.own

pub returns-in-Unpublished-clause-share : goal.returns-in-Unpublished-clause-share
returns-in-Unpublished-clause-share g c = c.look_step.ensures.share

pub returns-in-Unpublished-clause-known : goal.returns-in-Unpublished-clause-known
returns-in-Unpublished-clause-known g c = c.look_step.ensures.known

pub returns-in-Unpublished-clause-wins : goal.returns-in-Unpublished-clause-wins
returns-in-Unpublished-clause-wins g c =
    let w = c.look_step.ensures.wins in
    let o = c.open.ensures.wins in
    (0, omega arith, omega arith, omega arith)

pub returns-in-Unpublished-clause-moves : goal.returns-in-Unpublished-clause-moves
returns-in-Unpublished-clause-moves g c = c.open.ensures.moves

pub returns-in-Unpublished-clause-frames : goal.returns-in-Unpublished-clause-frames
returns-in-Unpublished-clause-frames g c =
    let at = goal.at.returns-in-Unpublished-clause-frames g c in
    let it = looking g at.After-heights_fall in
    let e = c.in-Unpublished.ensures in
    let v = c.opened_visit-visit.ensures in
    let own = hand_is_in it in
    inr (inl (frame_added g.M.Memo.meaning c.args.problem.now c.args.pass.now c.look_step.new.pass it.high.height
    c.args.hand.cell (frames_of c.args.work.now.top c.args.work.now.below.items) _ c.args.work.now.opened _ _ _
    (record { visit = c.opened_visit-visit.result; probe = c.look_step.new.probe })
    (with_opened g at.After-open).frames_are v.cell (hand_below it)
    (subst (λ (cell : Cell). HasLoaded g.M.Memo.meaning c.look_step.new.pass cell 0) own.cell (e.unpublished.0 refl))
    e.look.1 (λ h. e.look.2 (subst (g.M.Memo.meaning.known c.args.pass.now) (sym own.cell) h)) v.drawn
    c.open.ensures.opened))

pub returns-in-Unpublished-clause-next : goal.returns-in-Unpublished-clause-next
returns-in-Unpublished-clause-next g c = λ h e t. none-some _ (sym t ∙ c.open.ensures.top)

pub returns-in-Unpublished-clause-no_answer : goal.returns-in-Unpublished-clause-no_answer
returns-in-Unpublished-clause-no_answer g c = c.open.ensures.ready ∙ c.requires.no_answer

pub returns-in-Unpublished-clause-loads : goal.returns-in-Unpublished-clause-loads
returns-in-Unpublished-clause-loads g c =
    loads_told (looking g (goal.at.returns-in-Unpublished-clause-loads g c).After-heights_fall)
    c.in-Unpublished.ensures.loads

pub returns-in-Unpublished-clause-steps : goal.returns-in-Unpublished-clause-steps
returns-in-Unpublished-clause-steps g c = c.look_step.ensures.steps

pub returns-in-Unpublished-clause-sound : goal.returns-in-Unpublished-clause-sound
returns-in-Unpublished-clause-sound g c =
    let at = goal.at.returns-in-Unpublished-clause-sound g c in
    let it = looking g at.After-heights_fall in
    let e = c.in-Unpublished.ensures in
    let o = c.open.ensures in
    let v = c.opened_visit-visit.ensures in
    let own = hand_is_in it in
    look_open_sound it (stepped g at.After-look_step)
    (room_under c.requires.sound.has_room c.open.new.work
    (record { visit = c.opened_visit-visit.result; probe = c.look_step.new.probe }) o.capacity o.top)
    (with_opened g at.After-open) o.opened o.wins v.cell v.at v.walk
    (record {
      following = record { cell = e.cell ∙ own.cell ∙ sym v.cell; follows = e.follows };
      unpublished = e.look.0;
    })
    e.look.1 (λ h. e.look.2 (subst (g.M.Memo.meaning.known c.args.pass.now) (sym own.cell) h))

pub returns-in-Unpublished-clause-lower : goal.returns-in-Unpublished-clause-lower
returns-in-Unpublished-clause-lower g c = λ m arguments counted.
    let at = goal.at.returns-in-Unpublished-clause-lower g c in
    let it = looking g at.After-heights_fall in
    let e = c.in-Unpublished.ensures in
    let o = c.open.ensures in
    let own = hand_is_in it in
    look_open_left it (stepped g at.After-look_step)
    (room_under c.requires.sound.has_room c.open.new.work
    (record { visit = c.opened_visit-visit.result; probe = c.look_step.new.probe }) o.capacity o.top) m arguments
    (with_opened g at.After-open) c.opened_visit-visit.ensures.cell
    (λ h. e.look.2 (subst (g.M.Memo.meaning.known c.args.pass.now) (sym own.cell) h))
    (c.look_step.ensures.fewer m (subst (λ q. IsDemandedCount q m) (sym c.requires.memo) counted))

-- ---- the score is found, and noted

pub note-requires-clause-demanded : goal.note-requires-clause-demanded
note-requires-clause-demanded g c =
    subst (λ q. IsDemanded q c.args.hand.cell) (sym c.requires.notes)
    (hand_demanded (looking g (goal.at.note-requires-clause-demanded g c).After-heights_fall))

pub note-requires-clause-score : goal.note-requires-clause-score
note-requires-clause-score g c =
    let own = hand_is_in (looking g (goal.at.note-requires-clause-score g c).After-heights_fall) in
    subst (λ q. IsScoreOf q c.args.hand.cell c.in-Found.score) (c.requires.memo ∙ sym c.requires.notes)
    (subst (λ (cell : Cell). IsScoreOf (g.M.Memo.problem c.args.memo.now) cell c.in-Found.score) own.cell
    c.in-Found.ensures.look.2)

-- ---- there is a frame, which asked for the cell

pub returns-in-Some-clause-frames : goal.returns-in-Some-clause-frames
returns-in-Some-clause-frames g c = inl refl

pub returns-in-Some-clause-notes : goal.returns-in-Some-clause-notes
returns-in-Some-clause-notes g c = c.note.ensures.problem ∙ c.requires.notes

pub returns-in-Some-clause-own : goal.returns-in-Some-clause-own
returns-in-Some-clause-own g c = c.look_step.ensures.own

pub returns-in-Some-clause-share : goal.returns-in-Some-clause-share
returns-in-Some-clause-share g c = c.look_step.ensures.share

pub returns-in-Some-clause-known : goal.returns-in-Some-clause-known
returns-in-Some-clause-known g c = c.look_step.ensures.known

pub returns-in-Some-clause-wins : goal.returns-in-Some-clause-wins
returns-in-Some-clause-wins g c = let w = c.look_step.ensures.wins in (0, omega arith, omega arith, omega arith)

pub returns-in-Some-clause-moves : goal.returns-in-Some-clause-moves
returns-in-Some-clause-moves g c = refl

pub returns-in-Some-clause-next : goal.returns-in-Some-clause-next
returns-in-Some-clause-next g c = λ h e t. none-some _ (sym t ∙ c.in-Some.is)

pub returns-in-Some-clause-no_answer : goal.returns-in-Some-clause-no_answer
returns-in-Some-clause-no_answer g c = c.requires.no_answer

pub returns-in-Some-clause-loads : goal.returns-in-Some-clause-loads
returns-in-Some-clause-loads g c =
    loads_told (looking g (goal.at.returns-in-Some-clause-loads g c).After-heights_fall) c.look_step.ensures.loads

pub returns-in-Some-clause-steps : goal.returns-in-Some-clause-steps
returns-in-Some-clause-steps g c = c.look_step.ensures.steps

pub returns-in-Some-clause-sound : goal.returns-in-Some-clause-sound
returns-in-Some-clause-sound g c =
    let at = goal.at.returns-in-Some-clause-sound g c in
    let it = looking g at.After-heights_fall in
    let e = c.in-Found.ensures in
    let topped = ap (λ t. frames_of t c.args.work.now.below.items) c.in-Some.is in
    look_found_sound
    (record {
      high = it.high;
      at = record { going = c.requires.going; hand_is = refl; frames_are = topped; ready_is = c.requires.no_answer };
      sound = c.requires.sound;
    })
    (stepped g at.After-look_step) (room_kept c.requires.sound.has_room _ _ _ _ _ _)
    (record {
      going = c.requires.going;
      hand_is = c.requires.no_hand;
      frames_are = topped;
      ready_is = c.requires.no_answer;
    })
    (record { opened = refl; wins = refl }) (g.N.Notes.noted c.note.new.self)
    (subst (λ (cell : Cell).
    IsAdded cell (g.M.Memo.meaning.known c.args.pass.now) (g.M.Memo.meaning.known c.look_step.new.pass))
    (hand_is_in it).cell e.look.1)
    c.note.ensures.noted

pub returns-in-Some-clause-lower : goal.returns-in-Some-clause-lower
returns-in-Some-clause-lower g c = λ m arguments counted.
    let at = goal.at.returns-in-Some-clause-lower g c in
    let it = looking g at.After-heights_fall in
    let topped = ap (λ t. frames_of t c.args.work.now.below.items) c.in-Some.is in
    let w = c.args.work.now in
    look_found_left {top = c.in-Some.field-0} {below = reverse c.args.work.now.below.items}
    (record {
      high = it.high;
      at = record { going = c.requires.going; hand_is = refl; frames_are = topped; ready_is = c.requires.no_answer };
      sound = c.requires.sound;
    })
    (stepped g at.After-look_step) (room_kept c.requires.sound.has_room w.hand w.ready w.opened w.wins w.moves w.score)
    m arguments
    (record {
      going = c.requires.going;
      hand_is = c.requires.no_hand;
      frames_are = topped;
      ready_is = c.requires.no_answer;
    })
    c.look_step.new.probe
    (c.look_step.ensures.fewer m (subst (λ q. IsDemandedCount q m) (sym c.requires.memo) counted))

-- ---- there is none: the machine has ended

pub returns-clause-notes : goal.returns-clause-notes
returns-clause-notes g c = c.note.ensures.problem ∙ c.requires.notes

pub returns-clause-own : goal.returns-clause-own
returns-clause-own g c = c.look_step.ensures.own

pub returns-clause-share : goal.returns-clause-share
returns-clause-share g c = c.look_step.ensures.share

pub returns-clause-known : goal.returns-clause-known
returns-clause-known g c = c.look_step.ensures.known

pub returns-clause-wins : goal.returns-clause-wins
returns-clause-wins g c = let w = c.look_step.ensures.wins in (0, omega arith, omega arith, omega arith)

pub returns-clause-moves : goal.returns-clause-moves
returns-clause-moves g c = refl

pub returns-clause-frames : goal.returns-clause-frames
returns-clause-frames g c = inl refl

pub returns-clause-next : goal.returns-clause-next
returns-clause-next g c = λ h e t. false≢true (sym e)

pub returns-clause-no_answer : goal.returns-clause-no_answer
returns-clause-no_answer g c = c.requires.no_answer

pub returns-clause-loads : goal.returns-clause-loads
returns-clause-loads g c =
    loads_told (looking g (goal.at.returns-clause-loads g c).After-heights_fall) c.look_step.ensures.loads

pub returns-clause-steps : goal.returns-clause-steps
returns-clause-steps g c = c.look_step.ensures.steps

pub returns-clause-sound : goal.returns-clause-sound
returns-clause-sound g c =
    let at = goal.at.returns-clause-sound g c in
    let it = looking g at.After-heights_fall in
    let step = stepped g at.After-look_step in
    let e = c.in-Found.ensures in
    let own = hand_is_in it in
    let added = subst (λ (cell : Cell).
    IsAdded cell (g.M.Memo.meaning.known c.args.pass.now) (g.M.Memo.meaning.known c.look_step.new.pass)) own.cell
    e.look.1 in
    let none = ap (λ t. frames_of t c.args.work.now.below.items) c.in-None.is in
    look_end_sound it step (room_ended c.requires.sound.has_room _ _ _ _ _ _) refl c.requires.no_hand none none
    (record { opened = refl; wins = refl }) added
    (subst (λ (cell : Cell). IsScoreOf c.args.problem.now cell c.in-Found.score) own.cell
    (subst (λ q. IsScoreOf q (g.M.Memo.meaning.cell c.args.hand.probe) c.in-Found.score) c.requires.memo e.look.2))
    (g.N.Notes.noted c.note.new.self)
    (noted_known g.M.Memo.meaning c.args.problem.now it.high.height it.high.falls (g.N.Notes.noted c.args.notes.now)
    (g.N.Notes.noted c.note.new.self) c.args.pass.now c.look_step.new.pass step.follow c.args.hand.cell added
    c.note.ensures.noted step.stay c.requires.sound.noted)

pub returns-clause-lower : goal.returns-clause-lower
returns-clause-lower g c = λ m arguments counted.
    some_left (looking g (goal.at.returns-clause-lower g c).After-heights_fall) m arguments
    (c.look_step.ensures.fewer m (subst (λ q. IsDemandedCount q m) (sym c.requires.memo) counted))
