-- What holds of a machine's work holds of it wherever the same cells are noted.
use Rattle.std.proofs.Common.{◌↔◌, ⊎_elim, inl, inr, Option, Some, None, List, [], ◌∷◌}
use Rattle.adp_model.specs.declared.cell.Answer.{Answer}
use Rattle.adp_model.specs.declared.cell.Cell.{Cell}
use Rattle.memo_model.specs.declared.visit.Visit.{Visit}
use Rattle.memo_model.specs.declared.visit.Frame.{Frame}
use Rattle.memo_model.specs.declared.visit.Hand.{Hand}
use Rattle.adp_model.specs.PosedProblem.{PosedProblem}
use Rattle.memo_model.specs.Memos.{Meaning}
use Rattle.memo_model.specs.Machines.{AreFrames, IsReady, IsVisit}
use Rattle.cell_core.specs.declared.work.Work.{Work}
use Rattle.cell_core.specs.Working.{IsSound, frames_of}

module _ {Pass Probe : Type 0} (memo : Meaning Pass Probe) (p : PosedProblem) (Noted Others : Cell → Type 0)
    (alike : (cell : Cell) → Others cell ↔ Noted cell) where
  visit_alike : (Known : Cell → Type 0) (sought : Option Cell) (visit : Visit) → IsVisit p Known Noted sought visit
      → IsVisit p Known Others sought visit
  visit_alike Known sought visit is = record {
    walk = is.walk;
    not_known = is.not_known;
    at_hand = is.at_hand;
    before = λ position argument child at here asks first.
        (alike child).1 (is.before position argument child at here asks first);
    passed = λ argument child here asks behind.
        ⊎_elim (λ noted. inl ((alike child).1 noted)) (λ other. inr other) (is.passed argument child here asks behind);
  }

  frames_alike : (Known : Cell → Type 0) (sought : Option Cell) (frames : List (Frame Probe))
      → AreFrames p Known Noted sought frames → AreFrames p Known Others sought frames
  frames_alike Known sought [] are = are
  frames_alike Known sought (frame ∷ below) are =
      (visit_alike Known sought frame.visit are.0, frames_alike Known (Some frame.visit.cell) below are.1)

  ready_alike : (ready : Option Answer) (hand : Option (Hand Probe)) (frames : List (Frame Probe))
      → IsReady memo p Noted ready hand frames → IsReady memo p Others ready hand frames
  ready_alike None hand frames is = is
  ready_alike (Some answer) hand [] is = is
  ready_alike (Some answer) hand (top ∷ below) is = (is.0, is.1, λ child h. (alike child).1 (is.2 child h))

  pub sound_alike : (work : Work Probe) (pass : Pass) → IsSound memo p Noted work pass
      → IsSound memo p Others work pass
  sound_alike work pass is = record {
    has_room = is.has_room;
    going = λ e.
        let it = is.going e in
        record {
          demanded = it.demanded;
          visits = frames_alike (memo.known pass) _ (frames_of work.top work.below.items) it.visits;
          in_hand = it.in_hand;
          probes = it.probes;
          ready_is = ready_alike work.ready work.hand (frames_of work.top work.below.items) it.ready_is;
        };
    at_end = is.at_end;
    noted = λ cell noted. is.noted cell ((alike cell).0 noted);
    few_opened = is.few_opened;
    few_wins = is.few_wins;
  }
