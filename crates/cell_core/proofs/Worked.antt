-- Each kind of step keeps what holds of a machine's work, and leaves fewer steps.
use Rattle.std.proofs.Common.{◌≡◌, ◌≢◌, ◌↔◌, ℕ, ◌+◌, ◌*◌, ◌<◌, ◌≤◌, ◌⊎◌, Bool, true, false, Option, Some, None, List, [], ◌∷◌, length, refl, sym, subst, ◌∙◌, arith}
use Rattle.std.specs.Prelude.{vec_capacity, ℤ}
use Rattle.std.specs.List.{AllByRecursion}
use Rattle.std.proofs.lemmas.Bool.{false≢true}
use Rattle.std.proofs.lemmas.Option.{none-some}
use Rattle.adp_model.specs.declared.cell.Answer.{Answer}
use Rattle.adp_model.specs.declared.cell.Cell.{Cell}
use Rattle.memo_model.specs.declared.visit.Position.{Position}
use Rattle.memo_model.specs.declared.visit.Frame.{Frame}
use Rattle.memo_model.specs.declared.visit.Hand.{Hand}
use Rattle.memo_model.specs.declared.probe.Stage.TheVariants.{Unpublished, Publishing}
use Rattle.adp_model.specs.PosedProblem.{PosedProblem, axiom_cell}
use Rattle.adp_model.specs.Answers.{IsAnswer}
use Rattle.adp_model.specs.Demand.{IsDemanded, IsDemandedChild}
use Rattle.adp_model.specs.SplitArguments.{SplitArgument, AsksFor, IsSplitArgument, AreRuleArguments}
use Rattle.memo_model.specs.Visits.{argument_at, is_behind, IsWalk}
use Rattle.memo_model.specs.Memos.{Meaning, HasLoaded, IsScoreOf, StayKnown, AddsNothing, AddsAtMost, IsAdded}
use Rattle.memo_model.specs.Machines.{AreFrames, IsInHand, IsFollowing, IsWaiting, IsGoing, AreFewOpened, KnowsSoMany}
use Rattle.memo_model.specs.StepBound.{steps_left}
use Rattle.cell_core.specs.declared.work.Work.{Work}
use Rattle.argument_search.specs.Seeking.{moved_to, IsNextSought, IsNoneSought}
use Rattle.cell_core.specs.Working.{frames_of, HasRoom, IsSound, work_left}
use Rattle.cell_core.proofs.Heights.{Heights}
use Rattle.cell_core.proofs.Frames.{sought_demanded, sought_below, few_frames, child_of}
use Rattle.cell_core.proofs.Kept.{children_noted, begun as begun_kept, readied, look_goes, look_opens, look_finds, publish_goes, publish_leaves, noted_known}
use Rattle.cell_core.proofs.Few.{so_many, one_more, few_stay, few_with_one_more, few_without}
use Rattle.cell_core.proofs.StepsFall as fall

-- the work goes on, with this look, these frames and this answer
pub record IsAt {Probe : Type 0} (work : Work Probe) (hand : Option (Hand Probe)) (frames : List (Frame Probe))
    (ready : Option Answer) : Type 0 where
  pub going : work.ended ≡ false
  pub hand_is : work.hand ≡ hand
  pub frames_are : frames_of work.top work.below.items ≡ frames
  pub ready_is : work.ready ≡ ready

-- the numbers of the work are as before
pub record IsSame {Probe : Type 0} (work work' : Work Probe) : Type 0 where
  pub opened : work'.opened ≡ work.opened
  pub wins : work'.wins ≡ work.wins

module _ {Pass Probe : Type 0} (memo : Meaning Pass Probe) where
  -- the work goes on so, and it is sound for the pass; and cells have heights
  pub record IsWorking (p : PosedProblem) (Noted : Cell → Type 0) (pass : Pass) (work : Work Probe)
      (hand : Option (Hand Probe)) (frames : List (Frame Probe)) (ready : Option Answer) : Type 0 where
    pub high : Heights p
    pub at : IsAt work hand frames ready
    pub sound : IsSound memo p Noted work pass

  -- the second pass is the first one after a step: what was known is, and probes that don't publish follow it on
  pub record IsStepped (pass pass' : Pass) : Type 0 where
    pub follow : (probe : Probe) → memo.stage probe ≢ Publishing → memo.follows probe pass → memo.follows probe pass'
    pub stay : StayKnown (memo.known pass) (memo.known pass')

module _ {Pass Probe : Type 0} (memo : Meaning Pass Probe) (p : PosedProblem) where
  left_at : {work : Work Probe} {hand : Option (Hand Probe)} {frames : List (Frame Probe)} {ready : Option Answer}
      (m : ℕ) (arguments : List SplitArgument) (pass : Pass) → IsAt work hand frames ready
      → work_left memo p m arguments work pass ≡ steps_left memo p m arguments false hand frames pass
  left_at m arguments pass at =
      λ i. steps_left memo p m arguments (at.going i) (at.hand_is i) (at.frames_are i) pass

  left_ended : (work : Work Probe) (m : ℕ) (arguments : List SplitArgument) (pass : Pass) → work.ended ≡ true
      → work_left memo p m arguments work pass
      ≡ steps_left memo p m arguments true work.hand (frames_of work.top work.below.items) pass
  left_ended work m arguments pass ended =
      λ i. steps_left memo p m arguments (ended i) work.hand (frames_of work.top work.below.items) pass

module _ {Pass Probe : Type 0} {memo : Meaning Pass Probe} {p : PosedProblem} where
  module _ {Noted : Cell → Type 0} where
    -- a work that goes on is sound where its parts are
    sound_at : {work : Work Probe} {hand : Option (Hand Probe)} {frames : List (Frame Probe)} {ready : Option Answer}
        {pass : Pass} → IsAt work hand frames ready → HasRoom p work → IsGoing memo p Noted hand frames ready pass
        → ((cell : Cell) → Noted cell → memo.known pass cell)
        → AreFewOpened memo p work.opened frames pass → KnowsSoMany memo p work.wins pass → IsSound memo p Noted work pass
    sound_at {work} {hand} {frames} {ready} {pass} at room going noted few wins = record {
      has_room = room;
      going = λ e.
          subst (λ hand. IsGoing memo p Noted hand (frames_of work.top work.below.items) work.ready pass)
          (sym at.hand_is)
          (subst (λ ready. IsGoing memo p Noted hand (frames_of work.top work.below.items) ready pass) (sym at.ready_is)
          (subst (λ xs. IsGoing memo p Noted hand xs ready pass) (sym at.frames_are) going));
      at_end = λ e. absurd (false≢true (sym at.going ∙ e));
      noted = noted;
      few_opened = subst (λ xs. AreFewOpened memo p work.opened xs pass) (sym at.frames_are) few;
      few_wins = wins;
    }

    -- ---- what is known between two steps

    module _ {pass : Pass} {work : Work Probe} {hand : Option (Hand Probe)} {frames : List (Frame Probe)}
        {ready : Option Answer} (it : IsWorking memo p Noted pass work hand frames ready) where
      now : IsGoing memo p Noted hand frames ready pass
      now =
          subst (λ hand. IsGoing memo p Noted hand frames ready pass) it.at.hand_is
          (subst (λ ready. IsGoing memo p Noted work.hand frames ready pass) it.at.ready_is
          (subst (λ xs. IsGoing memo p Noted work.hand xs work.ready pass) it.at.frames_are
          (it.sound.going it.at.going)))

      few : AreFewOpened memo p work.opened frames pass
      few = subst (λ xs. AreFewOpened memo p work.opened xs pass) it.at.frames_are it.sound.few_opened

      few_of : {opened : ℕ} → opened ≡ work.opened → AreFewOpened memo p opened frames pass
      few_of same = subst (λ n. AreFewOpened memo p n frames pass) (sym same) few

      wins_of : {wins : ℕ} → wins ≡ work.wins → KnowsSoMany memo p wins pass
      wins_of same = subst (λ n. KnowsSoMany memo p n pass) (sym same) it.sound.few_wins

    -- nothing is in hand, and there is a frame
    module _ {pass : Pass} {work : Work Probe} {top : Frame Probe} {below : List (Frame Probe)}
        (it : IsWorking memo p Noted pass work None (top ∷ below) None) where
      top_demanded : IsDemanded p top.visit.cell
      top_demanded =
          sought_demanded p (memo.known pass) Noted top.visit.cell below (now it).visits.1 (now it).demanded

      pub next_demanded : {position : Position} {child : Cell} → AsksFor p (argument_at top.visit.cell position) child
          → IsDemanded p child
      next_demanded {position} {child} asks =
          IsDemanded.Child top.visit.cell child top_demanded
          (child_of p (argument_at top.visit.cell position) child asks)

      pub noted_children : IsNoneSought p Noted top.visit
          → (child : Cell) → IsDemandedChild p top.visit.cell child → Noted child
      noted_children none child h = children_noted p Noted (memo.known pass) top.visit (now it).visits.0 none child h

    -- a look is made
    module _ {pass : Pass} {work : Work Probe} {hand : Hand Probe} {frames : List (Frame Probe)}
        (it : IsWorking memo p Noted pass work (Some hand) frames None) where
      pub hand_is_in : IsInHand memo pass hand
      hand_is_in = (now it).in_hand hand refl

      pub hand_demanded : IsDemanded p hand.cell
      hand_demanded = sought_demanded p (memo.known pass) Noted hand.cell frames (now it).visits (now it).demanded

      pub hand_below : AllByRecursion (λ (frame : Frame Probe).
          it.high.height hand.cell < it.high.height frame.visit.cell) frames
      hand_below =
          sought_below p (memo.known pass) Noted it.high.height it.high.falls hand.cell frames (now it).visits

      -- on which word the step was is told of the cell
      pub loads_told : {pass' : Pass}
          → ((memo.loads hand.probe ≡ true) ↔ ((found : ℕ) × HasLoaded memo pass' (memo.cell hand.probe) found))
          → ((memo.loads hand.probe ≡ true) ↔ ((found : ℕ) × HasLoaded memo pass' hand.cell found))
      loads_told {pass'} told =
          subst (λ (cell : Cell).
          (memo.loads hand.probe ≡ true) ↔ ((found : ℕ) × HasLoaded memo pass' cell found)) hand_is_in.cell told

      -- while its probe has a step left, so has the work
      pub some_left : {probe' : Probe} (m : ℕ) (arguments : List SplitArgument)
          → memo.remaining m probe' < memo.remaining m hand.probe → 0 < work_left memo p m arguments work pass
      some_left m arguments less =
          let e = left_at memo p m arguments pass it.at in
          let l = fall.ended_look memo p m arguments pass pass hand None frames [] (omega arith) in
          omega arith

      -- there is room for one more frame
      pub few_stand : length frames < (length p.word + 1) * length p.grammar.rules
      few_stand =
          let fewer = few_frames p (memo.known pass) Noted it.high.height it.high.falls hand.cell frames
          (now it).visits in
          let most = it.high.few (now it).demanded in
          omega arith

    -- an answer is there
    module _ {pass : Pass} {work : Work Probe} {top : Frame Probe} {below : List (Frame Probe)} {answer : Answer}
        (it : IsWorking memo p Noted pass work None (top ∷ below) (Some answer)) where
      pub published_demanded : IsDemanded p top.visit.cell
      published_demanded =
          sought_demanded p (memo.known pass) Noted top.visit.cell below (now it).visits.1 (now it).demanded

      pub top_following : IsFollowing memo pass top
      top_following = (now it).probes.0.0

      pub top_unpublished : (memo.stage top.probe ≡ Unpublished) ⊎ (memo.stage top.probe ≡ Publishing)
      top_unpublished = (now it).probes.0.1

      pub answer_right : IsAnswer p top.visit.cell answer
      answer_right = (now it).ready_is.1

      pub children_known : (child : Cell) → IsDemandedChild p top.visit.cell child → memo.known pass child
      children_known child h = it.sound.noted child ((now it).ready_is.2 child h)

    -- ---- a look begins, or an answer is there

    module _ {pass : Pass} {work : Work Probe} {top : Frame Probe} {below : List (Frame Probe)}
        (it : IsWorking memo p Noted pass work None (top ∷ below) None) where
      module _ {work' : Work Probe} {hand : Hand Probe} {position : Position} (room : HasRoom p work')
          (same : IsSame work work')
          (is : IsAt work' (Some hand) (record { visit = moved_to top.visit position; probe = top.probe } ∷ below) None)
          (next : IsNextSought p Noted top.visit position hand.cell) where
        pub next_sound : IsSplitArgument p (argument_at top.visit.cell position) → IsInHand memo pass hand
            → IsSound memo p Noted work' pass
        next_sound is_argument own =
            sound_at is room
            (begun_kept memo p it.high.height it.high.falls Noted pass hand top below position is_argument next own
            (now it))
            it.sound.noted (few_of it same.opened) (wins_of it same.wins)

        pub next_left : (m : ℕ) (arguments : List SplitArgument) → AreRuleArguments p arguments
            → ((argument : SplitArgument) → is_behind p (moved_to top.visit position) argument ≡ true
            → is_behind p top.visit argument ≡ true)
            → is_behind p (moved_to top.visit position) (argument_at top.visit.cell position) ≡ false
            → memo.remaining m hand.probe ≡ 2 * m + 5
            → work_left memo p m arguments work' pass ≤ work_left memo p m arguments work pass
        next_left m arguments all on_more not_itself fresh =
            let top' : Frame Probe = record { visit = moved_to top.visit position; probe = top.probe } in
            let at : SplitArgument = argument_at top.visit.cell position in
            let l = fall.begun memo p m arguments pass hand top top' below at refl refl
            (λ argument here e. on_more argument e)
            (all.all at (top_demanded it) (hand.cell, next.asks)) refl next.behind not_itself fresh in
            let e = left_at memo p m arguments pass it.at in
            let f = left_at memo p m arguments pass is in
            omega arith

      pub ready_sound : {work' : Work Probe} {answer : Answer} → HasRoom p work' → IsSame work work'
          → IsAt work' None (top ∷ below) (Some answer) → IsAnswer p top.visit.cell answer
          → IsNoneSought p Noted top.visit → IsSound memo p Noted work' pass
      ready_sound {work'} {answer} room same is answered none =
          sound_at is room
          (readied memo p it.high.height it.high.falls Noted pass answer top below answered (noted_children it none)
          (now it))
          it.sound.noted (few_of it same.opened) (wins_of it same.wins)

    -- ---- the look is stepped

    module _ {pass pass' : Pass} {work work' : Work Probe} {hand : Hand Probe} {frames : List (Frame Probe)}
        (it : IsWorking memo p Noted pass work (Some hand) frames None) (step : IsStepped memo pass pass')
        (room : HasRoom p work') where
      look_wins : IsSame work work' → KnowsSoMany memo p work'.wins pass'
      look_wins same = so_many memo p pass pass' step.stay work'.wins (wins_of it same.wins)

      look_opened : IsSame work work' → AreFewOpened memo p work'.opened frames pass'
      look_opened same = few_stay memo p pass pass' step.stay work'.opened frames (few_of it same.opened)

      pub look_on_sound : {hand' : Hand Probe} → IsAt work' (Some hand') frames None
          → IsSame work work' → hand'.cell ≡ hand.cell → AddsAtMost hand.cell (memo.known pass) (memo.known pass')
          → IsInHand memo pass' hand' → IsSound memo p Noted work' pass'
      look_on_sound {hand'} is same cell only own =
          sound_at is room
          (look_goes memo p it.high.height it.high.falls Noted pass pass' step.follow hand hand' frames cell only own
          (now it))
          (λ c noted. step.stay c (it.sound.noted c noted)) (look_opened same) (look_wins same)

      pub look_on_left : {hand' : Hand Probe} (m : ℕ) (arguments : List SplitArgument)
          → IsAt work' (Some hand') frames None → memo.remaining m hand'.probe < memo.remaining m hand.probe
          → work_left memo p m arguments work' pass' < work_left memo p m arguments work pass
      look_on_left {hand'} m arguments is less =
          let l = fall.look_going memo p m arguments pass pass' hand hand' frames step.stay less in
          let e = left_at memo p m arguments pass it.at in
          let f = left_at memo p m arguments pass' is in
          omega arith

      pub look_open_sound : {top : Frame Probe} → IsAt work' None (top ∷ frames) None
          → work'.opened ≡ work.opened + 1 → work'.wins ≡ work.wins
          → top.visit.cell ≡ hand.cell → top.visit.at ≡ None → IsWalk p top.visit → IsWaiting memo pass' top
          → AddsNothing (memo.known pass) (memo.known pass') → (memo.known pass hand.cell → ⊥) → IsSound memo p Noted work' pass'
      look_open_sound {top} is opened wins here fresh walk own nothing unknown =
          sound_at is room
          (look_opens memo p it.high.height it.high.falls Noted pass pass' step.follow nothing hand top frames here
          fresh walk unknown own (now it))
          (λ c noted. step.stay c (it.sound.noted c noted))
          (subst (λ n. AreFewOpened memo p n (top ∷ frames) pass') (sym opened)
          (few_with_one_more memo p pass pass' step.stay work.opened top frames (few it)))
          (so_many memo p pass pass' step.stay work'.wins (wins_of it wins))

      pub look_open_left : {top : Frame Probe} (m : ℕ) (arguments : List SplitArgument)
          → IsAt work' None (top ∷ frames) None → top.visit.cell ≡ hand.cell → (memo.known pass hand.cell → ⊥)
          → memo.remaining m top.probe < memo.remaining m hand.probe
          → work_left memo p m arguments work' pass' < work_left memo p m arguments work pass
      look_open_left {top} m arguments is here unknown less =
          let l = fall.look_unpublished memo p m arguments it.high.height pass pass' hand top frames step.stay less
          (subst (λ c. AllByRecursion (λ (frame : Frame Probe).
          it.high.height c < it.high.height frame.visit.cell) frames) (sym here) (hand_below it))
          (λ h. unknown (subst (memo.known pass) here h)) in
          let e = left_at memo p m arguments pass it.at in
          let f = left_at memo p m arguments pass' is in
          omega arith

      -- it was the axiom's
      pub look_end_sound : work'.ended ≡ true → work'.hand ≡ None
          → frames_of work'.top work'.below.items ≡ [] → frames ≡ [] → IsSame work work'
          → IsAdded hand.cell (memo.known pass) (memo.known pass') → IsScoreOf p hand.cell work'.score
          → (Noted' : Cell → Type 0) → ((other : Cell) → Noted' other → memo.known pass' other)
          → IsSound memo p Noted' work' pass'
      look_end_sound ended no_hand no_frame none same added scored Noted' noted = record {
        has_room = room;
        going = λ e. absurd (false≢true (sym e ∙ ended));
        at_end = λ e. record {
          no_hand = no_hand;
          no_frame = no_frame;
          known = λ demanded.
              (subst (memo.known pass') root added.known, subst (λ c. IsScoreOf p c work'.score) root scored);
          none = λ absent. absurd (absent (now it).demanded);
        };
        noted = noted;
        few_opened = subst (λ xs. AreFewOpened memo p work'.opened xs pass') (none ∙ sym no_frame) (look_opened same);
        few_wins = look_wins same;
      }
        where
          root : hand.cell ≡ axiom_cell p
          root =
              subst (λ xs. AreFrames p (memo.known pass) Noted (Some hand.cell) xs) none (now it).visits hand.cell refl

    -- it found the answer
    module _ {pass pass' : Pass} {work work' : Work Probe} {hand : Hand Probe} {top : Frame Probe}
        {below : List (Frame Probe)} (it : IsWorking memo p Noted pass work (Some hand) (top ∷ below) None)
        (step : IsStepped memo pass pass') (room : HasRoom p work') where
      pub look_found_sound : IsAt work' None (top ∷ below) None → IsSame work work'
          → (Noted' : Cell → Type 0) → IsAdded hand.cell (memo.known pass) (memo.known pass')
          → ((other : Cell) → Noted' other ↔ (Noted other ⊎ (other ≡ hand.cell))) → IsSound memo p Noted' work' pass'
      look_found_sound is same Noted' added noted_now = record {
        has_room = room;
        going = λ e.
            subst (λ hand. IsGoing memo p Noted' hand (frames_of work'.top work'.below.items) work'.ready pass')
            (sym is.hand_is)
            (subst (λ ready. IsGoing memo p Noted' None (frames_of work'.top work'.below.items) ready pass')
            (sym is.ready_is)
            (subst (λ xs. IsGoing memo p Noted' None xs None pass') (sym is.frames_are) kept));
        at_end = λ e. absurd (false≢true (sym is.going ∙ e));
        noted = noted_known memo p it.high.height it.high.falls Noted Noted' pass pass' step.follow hand.cell added
            noted_now step.stay it.sound.noted;
        few_opened = subst (λ xs. AreFewOpened memo p work'.opened xs pass') (sym is.frames_are)
            (look_opened it step room same);
        few_wins = look_wins it step room same;
      }
        where
          kept : IsGoing memo p Noted' None (top ∷ below) None pass'
          kept =
              look_finds memo p it.high.height it.high.falls Noted Noted' pass pass' step.follow hand.cell added
              noted_now hand top below refl (now it)

      pub look_found_left : (m : ℕ) (arguments : List SplitArgument) → IsAt work' None (top ∷ below) None
          → (probe' : Probe) → memo.remaining m probe' < memo.remaining m hand.probe
          → work_left memo p m arguments work' pass' < work_left memo p m arguments work pass
      look_found_left m arguments is probe' less =
          let l = fall.look_found memo p m arguments pass pass' hand (record { cell = hand.cell; probe = probe' }) top
          below step.stay less in
          let e = left_at memo p m arguments pass it.at in
          let f = left_at memo p m arguments pass' is in
          omega arith

    -- ---- the top frame's publication is stepped

    module _ {pass pass' : Pass} {work work' : Work Probe} {top : Frame Probe} {below : List (Frame Probe)}
        {answer : Answer} (it : IsWorking memo p Noted pass work None (top ∷ below) (Some answer))
        (step : IsStepped memo pass pass') (room : HasRoom p work') where
      pub publish_on_sound : {top' : Frame Probe} → IsAt work' None (top' ∷ below) (Some answer)
          → IsSame work work' → top'.visit ≡ top.visit → AddsNothing (memo.known pass) (memo.known pass')
          → IsFollowing memo pass' top' → memo.stage top'.probe ≡ Publishing → IsSound memo p Noted work' pass'
      publish_on_sound {top'} is same visit nothing own stage =
          sound_at is room
          (publish_goes memo p it.high.height it.high.falls Noted pass pass' step.follow nothing answer top top' below
          visit own stage (now it))
          (λ c noted. step.stay c (it.sound.noted c noted))
          (few_stay memo p pass pass' step.stay work'.opened (top' ∷ below) (few_of it same.opened))
          (so_many memo p pass pass' step.stay work'.wins (wins_of it same.wins))

      pub publish_on_left : {top' : Frame Probe} (m : ℕ) (arguments : List SplitArgument)
          → IsAt work' None (top' ∷ below) (Some answer) → top'.visit ≡ top.visit
          → memo.remaining m top'.probe < memo.remaining m top.probe
          → work_left memo p m arguments work' pass' < work_left memo p m arguments work pass
      publish_on_left {top'} m arguments is visit less =
          let l = fall.publish_going memo p m arguments pass pass' top top' below step.stay visit less in
          let e = left_at memo p m arguments pass it.at in
          let f = left_at memo p m arguments pass' is in
          omega arith

      -- the cell is known now, and the frame leaves
      module _ {Noted' : Cell → Type 0}
          (added : IsAdded top.visit.cell (memo.known pass) (memo.known pass'))
          (noted_now : (other : Cell) → Noted' other ↔ (Noted other ⊎ (other ≡ top.visit.cell)))
          (opened : work'.opened ≡ work.opened)
          (won : ℕ) (at_most : won ≤ 1) (gained : work'.wins ≡ work.wins + won) where
        known_now : (other : Cell) → Noted' other → memo.known pass' other
        known_now =
            noted_known memo p it.high.height it.high.falls Noted Noted' pass pass' step.follow top.visit.cell added
            noted_now step.stay it.sound.noted

        not_known : memo.known pass top.visit.cell → ⊥
        not_known = (now it).visits.0.not_known

        few_now : AreFewOpened memo p work'.opened below pass'
        few_now =
            subst (λ n. AreFewOpened memo p n below pass') (sym opened)
            (few_without memo p pass pass' step.stay work.opened top below (published_demanded it) not_known
            added.known (few it))

        wins_now : KnowsSoMany memo p work'.wins pass'
        wins_now cells all =
            let more = one_more memo p pass pass' step.stay work.wins top.visit.cell (published_demanded it) not_known
            added.known it.sound.few_wins cells all in
            omega arith

        pub publish_next_sound : (next : Frame Probe) (others : List (Frame Probe)) → below ≡ next ∷ others
            → IsAt work' None (next ∷ others) None → IsSound memo p Noted' work' pass'
        publish_next_sound next others below_is is = record {
          has_room = room;
          going = λ e.
              subst (λ hand. IsGoing memo p Noted' hand (frames_of work'.top work'.below.items) work'.ready pass')
              (sym is.hand_is)
              (subst (λ ready. IsGoing memo p Noted' None (frames_of work'.top work'.below.items) ready pass')
              (sym is.ready_is)
              (subst (λ xs. IsGoing memo p Noted' None xs None pass') (sym is.frames_are) kept));
          at_end = λ e. absurd (false≢true (sym is.going ∙ e));
          noted = known_now;
          few_opened = subst (λ xs. AreFewOpened memo p work'.opened xs pass') (below_is ∙ sym is.frames_are) few_now;
          few_wins = wins_now;
        }
          where
            kept : IsGoing memo p Noted' None (next ∷ others) None pass'
            kept =
                publish_leaves memo p it.high.height it.high.falls Noted Noted' pass pass' step.follow top.visit.cell
                added noted_now answer top next others refl
                (subst (λ xs. IsGoing memo p Noted None (top ∷ xs) (Some answer) pass) below_is (now it))

        pub publish_end_sound : below ≡ [] → work'.ended ≡ true → work'.hand ≡ None
            → frames_of work'.top work'.below.items ≡ [] → IsScoreOf p top.visit.cell work'.score
            → IsSound memo p Noted' work' pass'
        publish_end_sound none ended no_hand no_frame scored = record {
          has_room = room;
          going = λ e. absurd (false≢true (sym e ∙ ended));
          at_end = λ e. record {
            no_hand = no_hand;
            no_frame = no_frame;
            known = λ demanded.
                (subst (memo.known pass') root added.known, subst (λ c. IsScoreOf p c work'.score) root scored);
            none = λ absent. absurd (absent (now it).demanded);
          };
          noted = known_now;
          few_opened = subst (λ xs. AreFewOpened memo p work'.opened xs pass') (none ∙ sym no_frame) few_now;
          few_wins = wins_now;
        }
          where
            root : top.visit.cell ≡ axiom_cell p
            root =
                subst (λ xs. AreFrames p (memo.known pass) Noted (Some top.visit.cell) xs) none (now it).visits.1
                top.visit.cell refl

      pub publish_next_left : (m : ℕ) (arguments : List SplitArgument) (next : Frame Probe)
          (others : List (Frame Probe)) → below ≡ next ∷ others → IsAt work' None (next ∷ others) None
          → memo.known pass' top.visit.cell → (probe' : Probe)
          → memo.remaining m probe' < memo.remaining m top.probe
          → work_left memo p m arguments work' pass' < work_left memo p m arguments work pass
      publish_next_left m arguments next others below_is is known probe' less =
          let above = sought_below p (memo.known pass) Noted it.high.height it.high.falls top.visit.cell below
          (now it).visits.1 in
          let l = fall.publish_closed memo p m arguments it.high.height pass pass' top next others step.stay
          (subst (λ xs. AllByRecursion (λ (frame : Frame Probe).
          it.high.height top.visit.cell < it.high.height frame.visit.cell) xs) below_is above) known (omega arith) in
          let e = left_at memo p m arguments pass it.at in
          let f = left_at memo p m arguments pass' is in
          let h : steps_left memo p m arguments false None (top ∷ below) pass
          ≡ steps_left memo p m arguments false None (top ∷ next ∷ others) pass =
          λ i. steps_left memo p m arguments false None (top ∷ below_is i) pass in
          omega arith

      pub publish_end_left : (m : ℕ) (arguments : List SplitArgument) → work'.ended ≡ true → (probe' : Probe)
          → memo.remaining m probe' < memo.remaining m top.probe
          → work_left memo p m arguments work' pass' < work_left memo p m arguments work pass
      publish_end_left m arguments ended probe' less =
          let l = fall.ended_publish memo p m arguments pass pass' top work'.hand
          (frames_of work'.top work'.below.items) below (omega arith) in
          let e = left_at memo p m arguments pass it.at in
          let f = left_ended memo p work' m arguments pass' ended in
          omega arith

-- ---- room

module _ {Probe : Type 0} {p : PosedProblem} {work : Work Probe} (room : HasRoom p work) where
  -- a frame is on top
  pub room_under : (work' : Work Probe) (top : Frame Probe) → vec_capacity work.below ≤ vec_capacity work'.below
      → work'.top ≡ Some top → HasRoom p work'
  room_under work' top capacity is = record {
    room = let r = room.room in omega arith;
    nothing_below = λ _ e. absurd (none-some top (sym e ∙ is));
  }

  module _ (hand : Option (Hand Probe)) (ready : Option Answer) (opened wins moves : ℕ) (score : Option ℤ) where
    -- a frame is on top of those below
    pub room_top : {top : Frame Probe} {ended : Bool} → HasRoom p (record {
      hand = hand;
      top = Some top;
      below = work.below;
      ready = ready;
      opened = opened;
      wins = wins;
      moves = moves;
      ended = ended;
      score = score;
    })
    room_top {top} = record { room = room.room; nothing_below = λ _ e. absurd (none-some top (sym e)) }

    -- all frames are as before
    pub room_kept : HasRoom p (record {
      hand = hand;
      top = work.top;
      below = work.below;
      ready = ready;
      opened = opened;
      wins = wins;
      moves = moves;
      ended = work.ended;
      score = score;
    })
    room_kept = record { room = room.room; nothing_below = room.nothing_below }

    pub room_ended : {top : Option (Frame Probe)} → HasRoom p (record {
      hand = hand;
      top = top;
      below = work.below;
      ready = ready;
      opened = opened;
      wins = wins;
      moves = moves;
      ended = true;
      score = score;
    })
    room_ended = record { room = room.room; nothing_below = λ e _. absurd (false≢true (sym e)) }
