use Rattle.std.proofs.Common.{◌∷◌, None, refl, sym, subst, ap, ◌∙◌}
use Rattle.std.specs.Prelude.{reverse}
use Rattle.adp_model.specs.Answers.{IsAnswer}
use Rattle.adp_model.specs.Demand.{IsDemanded, IsDemandedChild, IsDemandedCount}
use Rattle.adp_model.specs.SplitArguments.{IsSplitArgument}
use Rattle.memo_model.specs.Visits.{argument_at}
use Rattle.argument_search.specs.Seeking.{IsNextSought, IsNoneSought}
use Rattle.cell_core.specs.Working.{frames_of}
use Rattle.cell_core.proofs.Heights.{heights}
use Rattle.cell_core.proofs.NotedAlike.{sound_alike}
use Rattle.cell_core.proofs.Worked.{IsWorking, next_demanded, noted_children, next_sound, next_left, ready_sound, room_top}
use Rattle.cell_core.proofs.work.advance.Given.{Over}
use Rattle.cell_core.proofs.work.advance.Goals as goal
use Rattle.cell_core.proofs.work.advance.Goals.{In-Some, In-Some-next_argument, In-None}

-- the work at whose top frame the next argument is sought
seeking : (g : Over) (c : In-Some g)
    → IsWorking g.M.Memo.meaning c.args.problem.now (g.N.Notes.noted c.args.notes.now) c.args.pass.now
    c.args.work.now None (c.in-Some.top ∷ reverse c.args.work.now.below.items) None
seeking g c = record {
  high = heights c.args.problem.now c.admissible.ensures c.heights_fall.ensures.falls c.heights_fall.ensures.few;
  at = record {
    going = c.requires.going;
    hand_is = c.requires.no_hand;
    frames_are = ap (λ top. frames_of top c.args.work.now.below.items) c.in-Some.is;
    ready_is = c.requires.no_answer;
  };
  sound = c.requires.sound;
}

-- ---- an argument is found, and a probe taken in hand for it

-- it is the next one of the problem
found_next : (g : Over) (c : In-Some-next_argument g)
    → IsNextSought c.args.problem.now (g.N.Notes.noted c.args.notes.now) c.in-Some.top.visit
    c.in-Some-next_argument.position c.in-Some-next_argument.cell
found_next g c =
    subst
    (λ q. IsNextSought q (g.N.Notes.noted c.args.notes.now) c.in-Some.top.visit c.in-Some-next_argument.position
    c.in-Some-next_argument.cell)
    c.requires.notes c.in-Some-next_argument.ensures.1

pub probe-probe-requires : goal.probe-probe-requires
probe-probe-requires g c =
    let at = goal.at.probe-probe-requires g c in
    subst (λ q. IsDemanded q c.in-Some-next_argument.cell) (sym c.requires.memo)
    (next_demanded (seeking g at.In-Some) (found_next g at.In-Some-next_argument).asks)

pub returns-in-Some-next_argument-clause-sound : goal.returns-in-Some-next_argument-clause-sound
returns-in-Some-next_argument-clause-sound g c =
    let at = goal.at.returns-in-Some-next_argument-clause-sound g c in
    let e = c.probe-probe.ensures in
    let w = c.args.work.now in
    next_sound (seeking g at.In-Some)
    (room_top c.requires.sound.has_room _ _ w.opened w.wins w.moves w.score {ended = w.ended})
    (record { opened = refl; wins = refl })
    (record { going = c.requires.going; hand_is = refl; frames_are = refl; ready_is = c.requires.no_answer })
    (found_next g at.In-Some-next_argument)
    (subst (λ q. IsSplitArgument q (argument_at c.in-Some.top.visit.cell c.in-Some-next_argument.position))
    c.requires.notes c.in-Some-next_argument.ensures.0)
    (record { cell = e.cell; still_open = e.open; follows = (e.follows c.args.pass.now).0 c.requires.own })

pub returns-in-Some-next_argument-clause-lower : goal.returns-in-Some-next_argument-clause-lower
returns-in-Some-next_argument-clause-lower g c = λ m arguments counted all.
    let at = goal.at.returns-in-Some-next_argument-clause-lower g c in
    let next = found_next g at.In-Some-next_argument in
    let w = c.args.work.now in
    next_left (seeking g at.In-Some)
    (room_top c.requires.sound.has_room _ _ w.opened w.wins w.moves w.score {ended = w.ended})
    (record { opened = refl; wins = refl })
    (record { going = c.requires.going; hand_is = refl; frames_are = refl; ready_is = c.requires.no_answer })
    next m arguments all
    (c.walks_move_on.ensures.before c.args.problem.now c.in-Some.top.visit c.in-Some-next_argument.position next.behind)
    (c.walks_move_on.ensures.itself c.args.problem.now c.in-Some.top.visit c.in-Some-next_argument.position next.behind)
    (c.probe-probe.ensures.remaining m (subst (λ q. IsDemandedCount q m) (sym c.requires.memo) counted))

-- ---- none is left, and the answer is found

-- none of the problem
none_left : (g : Over) (c : In-None g)
    → IsNoneSought c.args.problem.now (g.N.Notes.noted c.args.notes.now) c.in-Some.top.visit
none_left g c =
    subst (λ q. IsNoneSought q (g.N.Notes.noted c.args.notes.now) c.in-Some.top.visit) c.requires.notes
    c.in-None.ensures

pub answer-requires-clause-noted : goal.answer-requires-clause-noted
answer-requires-clause-noted g c = λ child h.
    let at = goal.at.answer-requires-clause-noted g c in
    noted_children (seeking g at.In-Some) (none_left g at.In-None) child
    (subst (λ q. IsDemandedChild q c.in-Some.top.visit.cell child) c.requires.notes h)

pub returns-in-None-clause-sound : goal.returns-in-None-clause-sound
returns-in-None-clause-sound g c =
    let at = goal.at.returns-in-None-clause-sound g c in
    let w = c.args.work.now in
    sound_alike g.M.Memo.meaning c.args.problem.now (g.N.Notes.noted c.args.notes.now) (g.N.Notes.noted c.answer.new.self)
    c.answer.ensures.noted _ c.args.pass.now
    (ready_sound (seeking g at.In-Some)
    (room_top c.requires.sound.has_room _ _ w.opened w.wins w.moves w.score {ended = w.ended})
    (record { opened = refl; wins = refl })
    (record { going = c.requires.going; hand_is = c.requires.no_hand; frames_are = refl; ready_is = refl })
    (subst (λ q. IsAnswer q c.in-Some.top.visit.cell c.answer.result) c.requires.notes c.answer.ensures.answer)
    (none_left g at.In-None))

pub returns-in-None-clause-notes : goal.returns-in-None-clause-notes
returns-in-None-clause-notes g c = c.answer.ensures.problem ∙ c.requires.notes
