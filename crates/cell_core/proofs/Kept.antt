-- Each kind of step keeps what holds of a machine that goes on.
use Rattle.std.proofs.Common.{◌≡◌, ◌≢◌, ◌↔◌, ℕ, ◌<◌, ◌⊎◌, inl, inr, Bool, true, false, Option, Some, None, List, [], ◌∷◌, length, refl, sym, subst, ap, ◌∙◌, arith}
use Rattle.std.specs.List.{AllByRecursion}
use Rattle.std.proofs.lemmas.Option.{slice_get_read, same_Some, none-some}
use Rattle.adp_model.specs.declared.grammar.Arg.TheVariants.{Rule}
use Rattle.adp_model.specs.declared.cell.Answer.{Answer}
use Rattle.adp_model.specs.declared.cell.Cell.{Cell}
use Rattle.adp_model.specs.PosedProblem.{PosedProblem}
use Rattle.adp_model.specs.Answers.{IsAnswer}
use Rattle.adp_model.specs.Splits.{Placed, placed}
use Rattle.adp_model.specs.Demand.{IsDemandedChild}
use Rattle.memo_model.specs.declared.visit.Position.{Position}
use Rattle.memo_model.specs.declared.visit.Visit.{Visit}
use Rattle.memo_model.specs.declared.visit.Frame.{Frame}
use Rattle.memo_model.specs.declared.visit.Hand.{Hand}
use Rattle.memo_model.specs.declared.probe.Stage.{Stage}
use Rattle.memo_model.specs.declared.probe.Stage.TheVariants.{Unpublished, Publishing}
use Rattle.adp_model.specs.SplitArguments.{SplitArgument, AsksFor, IsSplitArgument}
use Rattle.memo_model.specs.Visits.{argument_at, is_before, is_behind, is_behind_position, IsWalk}
use Rattle.memo_model.specs.Memos.{Meaning, StayKnown, AddsNothing, AddsAtMost, IsAdded}
use Rattle.memo_model.specs.Machines.{IsVisit, AreFrames, IsInHand, IsFollowing, IsWaiting, AreProbes, IsGoing}
use Rattle.argument_search.specs.Seeking.{moved_to, IsNextSought, IsNoneSought}
use Rattle.cell_core.proofs.Frames.{sought_below}

not_publishing : (stage : Stage) → stage ≡ Unpublished → stage ≢ Publishing
not_publishing stage e f = apart (sym e ∙ f)
  where
    apart : Unpublished ≡ Publishing → ⊥
    apart g = cc

-- ---- arguments and demanded children

asking : (p : PosedProblem) (cell child : Cell) → IsDemandedChild p cell child
    → (argument : SplitArgument) × (argument.cell ≡ cell) × AsksFor p argument child
asking p cell child (alternative, cuts, viable, (k, inside, e)) =
    let it : Placed = record { argument = Rule child.rule; from = child.from; to = child.to } in
    let laid : List Placed = placed p cell alternative cuts in (
      record { cell = cell; alternative = alternative; cuts = cuts; number = k },
      refl,
      record { viable = viable; there = slice_get_read laid (length laid) k it refl inside (sym e) },
    )

-- ---- one walk

module _ (p : PosedProblem) (Noted : Cell → Type 0) where
  -- where nothing is sought, and nothing behind the position is to be looked up, all children are noted
  pub children_noted : (Known : Cell → Type 0) (visit : Visit) → IsVisit p Known Noted None visit
      → IsNoneSought p Noted visit → (child : Cell) → IsDemandedChild p visit.cell child → Noted child
  children_noted Known visit is none child h =
      let a = asking p visit.cell child h in
      go a.0 a.1 a.2 (is_behind p visit a.0) refl
    where
      done : Noted child ⊎ (None ≡ Some child) → Noted child
      done (inl noted) = noted
      done (inr e) = absurd (none-some child e)

      go : (argument : SplitArgument) → argument.cell ≡ visit.cell → AsksFor p argument child
          → (b : Bool) → is_behind p visit argument ≡ b → Noted child
      go argument here asks true e = none argument child here asks e
      go argument here asks false e = done (is.passed argument child here asks e)

  -- the walk moves on to an argument whose cell is sought
  pub visit_moved : (Known : Cell → Type 0) (visit : Visit) (position : Position) (child : Cell)
      → IsVisit p Known Noted None visit → IsSplitArgument p (argument_at visit.cell position)
      → IsNextSought p Noted visit position child → IsVisit p Known Noted (Some child) (moved_to visit position)
  visit_moved Known visit position child is is_argument next = record {
    walk = record {
      first = is.walk.first;
      three = is.walk.three;
      turns = is.walk.turns;
      at = λ other e.
          subst (λ (q : Position). IsSplitArgument p (argument_at visit.cell q)) (same_Some position other e) is_argument;
    };
    not_known = is.not_known;
    at_hand = λ other e.
        (position, refl, subst (AsksFor p (argument_at visit.cell position)) (same_Some child other e) next.asks);
    before = λ other argument cell e here asks l.
        let same : is_before p visit argument (argument_at visit.cell position) ≡ true =
        subst (λ (q : Position). is_before p visit argument (argument_at visit.cell q) ≡ true)
        (sym (same_Some position other e)) l in
        was_before argument cell here asks same (is_behind p visit argument) refl;
    passed = λ argument cell here asks l. was_passed argument cell here asks l (is_behind p visit argument) refl;
  }
    where
      done : (cell : Cell) → Noted cell ⊎ (None ≡ Some cell) → Noted cell
      done cell (inl noted) = noted
      done cell (inr e) = absurd (none-some cell e)

      was_before : (argument : SplitArgument) (cell : Cell) → argument.cell ≡ visit.cell → AsksFor p argument cell
          → is_before p visit argument (argument_at visit.cell position) ≡ true
          → (b : Bool) → is_behind p visit argument ≡ b → Noted cell
      was_before argument cell here asks l true e = next.before argument cell here asks e l
      was_before argument cell here asks l false e = done cell (is.passed argument cell here asks e)

      found : (cell : Cell) → Noted cell ⊎ (cell ≡ child) → Noted cell ⊎ (Some child ≡ Some cell)
      found cell (inl noted) = inl noted
      found cell (inr e) = inr (ap Some (sym e))

      was_passed : (argument : SplitArgument) (cell : Cell) → argument.cell ≡ visit.cell → AsksFor p argument cell
          → is_behind p (moved_to visit position) argument ≡ false
          → (b : Bool) → is_behind p visit argument ≡ b → Noted cell ⊎ (Some child ≡ Some cell)
      was_passed argument cell here asks l true e = found cell (next.passed argument cell here asks e l)
      was_passed argument cell here asks l false e = inl (done cell (is.passed argument cell here asks e))

-- more is known and noted, but not the frame's cell
visit_on : (p : PosedProblem) (Known Known' Noted Noted' : Cell → Type 0) (sought : Option Cell) (visit : Visit)
    → ((cell : Cell) → Noted cell → Noted' cell) → (Known' visit.cell → ⊥) → IsVisit p Known Noted sought visit
    → IsVisit p Known' Noted' sought visit
visit_on p Known Known' Noted Noted' sought visit more unknown is = record {
  walk = is.walk;
  not_known = unknown;
  at_hand = is.at_hand;
  before = λ position argument child e here asks l. more child (is.before position argument child e here asks l);
  passed = λ argument child here asks e. on child (is.passed argument child here asks e);
}
  where
    on : (child : Cell) → Noted child ⊎ (sought ≡ Some child) → Noted' child ⊎ (sought ≡ Some child)
    on child (inl noted) = inl (more child noted)
    on child (inr e) = inr e

-- what was sought is noted
visit_found : (p : PosedProblem) (Known Noted : Cell → Type 0) (cell : Cell) (visit : Visit) → Noted cell
    → IsVisit p Known Noted (Some cell) visit → IsVisit p Known Noted None visit
visit_found p Known Noted cell visit noted is = record {
  walk = is.walk;
  not_known = is.not_known;
  at_hand = λ child e. absurd (none-some child e);
  before = is.before;
  passed = λ argument child here asks e. on child (is.passed argument child here asks e);
}
  where
    on : (child : Cell) → Noted child ⊎ (Some cell ≡ Some child) → Noted child ⊎ (None ≡ Some child)
    on child (inl h) = inl h
    on child (inr e) = inl (subst Noted (same_Some cell child e) noted)

module _ {Pass Probe : Type 0} (memo : Meaning Pass Probe) (p : PosedProblem) (height : Cell → ℕ)
    (falls : (cell child : Cell) → IsDemandedChild p cell child → height child < height cell) where
  -- all frames lie above the cell
  abbrev Above : Cell → List (Frame Probe) → Type 0
  Above cell frames = AllByRecursion (λ (frame : Frame Probe). height cell < height frame.visit.cell) frames

  -- no cell but one below all frames was added to what is known
  frames_on : (Known Known' Noted Noted' : Cell → Type 0) (cell : Cell) → ((other : Cell) → Noted other → Noted' other)
      → AddsAtMost cell Known Known' → (sought : Option Cell) (frames : List (Frame Probe)) → Above cell frames
      → AreFrames p Known Noted sought frames → AreFrames p Known' Noted' sought frames
  frames_on Known Known' Noted Noted' cell more only sought [] above are = are
  frames_on Known Known' Noted Noted' cell more only sought (frame ∷ below) above are = (
    visit_on p Known Known' Noted Noted' sought frame.visit more
        (λ has.
        are.0.not_known
        (only frame.visit.cell has
        (λ e.
        let l : height cell < height frame.visit.cell = above.0 in
        let s : height frame.visit.cell ≡ height cell = ap height e in
        omega arith)))
        are.0,
    frames_on Known Known' Noted Noted' cell more only (Some frame.visit.cell) below above.1 are.1,
  )

  -- nothing was added
  frames_as_they_were : (Known Known' Noted : Cell → Type 0) → AddsNothing Known Known' → (sought : Option Cell)
      (frames : List (Frame Probe)) → AreFrames p Known Noted sought frames → AreFrames p Known' Noted sought frames
  frames_as_they_were Known Known' Noted nothing sought [] are = are
  frames_as_they_were Known Known' Noted nothing sought (frame ∷ below) are = (
    visit_on p Known Known' Noted Noted sought frame.visit (λ cell noted. noted)
        (λ has. are.0.not_known (nothing frame.visit.cell has)) are.0,
    frames_as_they_were Known Known' Noted nothing (Some frame.visit.cell) below are.1,
  )

  module _ (pass pass' : Pass) (on : (probe : Probe) → memo.stage probe ≢ Publishing → memo.follows probe pass → memo.follows probe pass') where
    waiting_on : (frame : Frame Probe) → IsWaiting memo pass frame → IsWaiting memo pass' frame
    waiting_on frame is = record {
      following = record {
        cell = is.following.cell;
        follows = on frame.probe (not_publishing (memo.stage frame.probe) is.unpublished) is.following.follows;
      };
      unpublished = is.unpublished;
    }

    all_on : (frames : List (Frame Probe)) → AllByRecursion (IsWaiting memo pass) frames
        → AllByRecursion (IsWaiting memo pass') frames
    all_on [] all = tt
    all_on (frame ∷ below) all = (waiting_on frame all.0, all_on below all.1)

    probes_on : (frames : List (Frame Probe)) → AreProbes memo None pass frames → AreProbes memo None pass' frames
    probes_on [] are = tt
    probes_on (frame ∷ below) are = (waiting_on frame are.0, all_on below are.1)

  module _ (Noted : Cell → Type 0) where
    abbrev Going : Option (Hand Probe) → List (Frame Probe) → Option Answer → Pass → Type 0
    Going = IsGoing memo p Noted

    -- ---- a probe is taken in hand

    pub begun : (pass : Pass) (hand : Hand Probe) (top : Frame Probe) (below : List (Frame Probe)) (position : Position)
        → IsSplitArgument p (argument_at top.visit.cell position) → IsNextSought p Noted top.visit position hand.cell
        → IsInHand memo pass hand → Going None (top ∷ below) None pass
        → Going (Some hand) (record { visit = moved_to top.visit position; probe = top.probe } ∷ below) None pass
    begun pass hand top below position is_argument next own is = record {
      demanded = is.demanded;
      visits = (
        visit_moved p Noted (memo.known pass) top.visit position hand.cell is.visits.0 is_argument next,
        is.visits.1,
      );
      in_hand = λ it e. subst (IsInHand memo pass) (same_Some hand it e) own;
      probes = (
        record {
          following = record { cell = is.probes.0.following.cell; follows = is.probes.0.following.follows };
          unpublished = is.probes.0.unpublished;
        },
        is.probes.1,
      );
      ready_is = tt;
    }

    -- the answer is there
    pub readied : (pass : Pass) (answer : Answer) (top : Frame Probe) (below : List (Frame Probe))
        → IsAnswer p top.visit.cell answer → ((child : Cell) → IsDemandedChild p top.visit.cell child → Noted child)
        → Going None (top ∷ below) None pass → Going None (top ∷ below) (Some answer) pass
    readied pass answer top below answered noted is = record {
      demanded = is.demanded;
      visits = is.visits;
      in_hand = is.in_hand;
      probes = ((is.probes.0.following, inl is.probes.0.unpublished), is.probes.1);
      ready_is = (refl, answered, noted);
    }

    -- ---- the probe in hand is stepped

    module _ (pass pass' : Pass) (on : (probe : Probe) → memo.stage probe ≢ Publishing → memo.follows probe pass → memo.follows probe pass') where
      pub look_goes : (hand hand' : Hand Probe) (frames : List (Frame Probe)) → hand'.cell ≡ hand.cell
          → AddsAtMost hand.cell (memo.known pass) (memo.known pass') → IsInHand memo pass' hand'
          → Going (Some hand) frames None pass → Going (Some hand') frames None pass'
      look_goes hand hand' frames cell only own is = record {
        demanded = is.demanded;
        visits =
            subst (λ c. AreFrames p (memo.known pass') Noted (Some c) frames) (sym cell)
            (frames_on (memo.known pass) (memo.known pass') Noted Noted hand.cell (λ other noted. noted) only
            (Some hand.cell) frames
            (sought_below p (memo.known pass) Noted height falls hand.cell frames is.visits) is.visits);
        in_hand = λ it e. subst (IsInHand memo pass') (same_Some hand' it e) own;
        probes = probes_on pass pass' on frames is.probes;
        ready_is = tt;
      }

      module _ (nothing : AddsNothing (memo.known pass) (memo.known pass')) where
        -- its cell is opened
        pub look_opens : (hand : Hand Probe) (top : Frame Probe) (below : List (Frame Probe))
            → top.visit.cell ≡ hand.cell → top.visit.at ≡ None → IsWalk p top.visit
            → (memo.known pass hand.cell → ⊥) → IsWaiting memo pass' top
            → Going (Some hand) below None pass → Going None (top ∷ below) None pass'
        look_opens hand top below cell fresh walk unknown own is = record {
          demanded = is.demanded;
          visits = (
            record {
              walk = walk;
              not_known = λ has. unknown (subst (memo.known pass) cell (nothing top.visit.cell has));
              at_hand = λ child e. absurd (none-some child e);
              before = λ position argument child e here asks l. absurd (none-some position (sym fresh ∙ e));
              passed = λ argument child here asks e. absurd (all_behind argument e);
            },
            frames_as_they_were (memo.known pass) (memo.known pass') Noted nothing (Some top.visit.cell) below
                (subst (λ c. AreFrames p (memo.known pass) Noted (Some c) below) (sym cell) is.visits),
          );
          in_hand = λ it e. absurd (none-some it e);
          probes = (own, waiting below (probes_on pass pass' on below is.probes));
          ready_is = tt;
        }
          where
            all_behind : (argument : SplitArgument) → is_behind p top.visit argument ≡ false → ⊥
            all_behind argument e =
                let f : true ≡ false = ap (λ at. is_behind_position p top.visit at argument) (sym fresh) ∙ e in
                cc

            waiting : (frames : List (Frame Probe)) → AreProbes memo None pass' frames
                → AllByRecursion (IsWaiting memo pass') frames
            waiting [] are = tt
            waiting (frame ∷ frames) are = are

        -- ---- the top frame's probe is stepped

        pub publish_goes : (answer : Answer) (top top' : Frame Probe) (below : List (Frame Probe))
            → top'.visit ≡ top.visit → IsFollowing memo pass' top' → memo.stage top'.probe ≡ Publishing
            → Going None (top ∷ below) (Some answer) pass → Going None (top' ∷ below) (Some answer) pass'
        publish_goes answer top top' below visit own publishing is = record {
          demanded = is.demanded;
          visits =
              subst
              (λ (v : Visit).
              IsVisit p (memo.known pass') Noted None v × AreFrames p (memo.known pass') Noted (Some v.cell) below)
              (sym visit)
              (frames_as_they_were (memo.known pass) (memo.known pass') Noted nothing None (top ∷ below) is.visits);
          in_hand = λ it e. absurd (none-some it e);
          probes = ((own, inr publishing), all_on pass pass' on below is.probes.1);
          ready_is = (
            refl,
            subst (λ (v : Visit). IsAnswer p v.cell answer) (sym visit) is.ready_is.1,
            subst (λ (v : Visit). (child : Cell) → IsDemandedChild p v.cell child → Noted child) (sym visit)
                is.ready_is.2,
          );
        }

    module _ (Noted' : Cell → Type 0) (pass pass' : Pass) (on : (probe : Probe) → memo.stage probe ≢ Publishing → memo.follows probe pass → memo.follows probe pass') (cell : Cell)
        (added : IsAdded cell (memo.known pass) (memo.known pass')) (noted_now : (other : Cell) → Noted' other ↔ (Noted other ⊎ (other ≡ cell))) where
      more : (other : Cell) → Noted other → Noted' other
      more other noted = (noted_now other).1 (inl noted)

      pub noted_known : StayKnown (memo.known pass) (memo.known pass') → ((other : Cell) → Noted other → memo.known pass other)
          → (other : Cell) → Noted' other → memo.known pass' other
      noted_known stay was other noted = go ((noted_now other).0 noted)
        where
          go : Noted other ⊎ (other ≡ cell) → memo.known pass' other
          go (inl h) = stay other (was other h)
          go (inr e) = subst (memo.known pass') (sym e) added.known

      -- what was sought is found; there is a frame
      found_visits : (top : Frame Probe) (below : List (Frame Probe))
          → AreFrames p (memo.known pass) Noted (Some cell) (top ∷ below)
          → AreFrames p (memo.known pass') Noted' None (top ∷ below)
      found_visits top below are =
          let above = sought_below p (memo.known pass) Noted height falls cell (top ∷ below) are in
          let now = frames_on (memo.known pass) (memo.known pass') Noted Noted' cell more added.only (Some cell) (top ∷ below) above are in
          (visit_found p (memo.known pass') Noted' cell top.visit ((noted_now cell).1 (inr refl)) now.0, now.1)

      pub look_finds : (hand : Hand Probe) (top : Frame Probe) (below : List (Frame Probe)) → hand.cell ≡ cell
          → Going (Some hand) (top ∷ below) None pass → IsGoing memo p Noted' None (top ∷ below) None pass'
      look_finds hand top below here is = record {
        demanded = is.demanded;
        visits =
            found_visits top below
            (subst (λ c. AreFrames p (memo.known pass) Noted (Some c) (top ∷ below)) here is.visits);
        in_hand = λ it e. absurd (none-some it e);
        probes = probes_on pass pass' on (top ∷ below) is.probes;
        ready_is = tt;
      }

      -- the top frame's cell is published; there is another frame
      pub publish_leaves : (answer : Answer) (top next : Frame Probe) (below : List (Frame Probe))
          → top.visit.cell ≡ cell → Going None (top ∷ next ∷ below) (Some answer) pass
          → IsGoing memo p Noted' None (next ∷ below) None pass'
      publish_leaves answer top next below here is = record {
        demanded = is.demanded;
        visits =
            found_visits next below
            (subst (λ c. AreFrames p (memo.known pass) Noted (Some c) (next ∷ below)) here is.visits.1);
        in_hand = λ it e. absurd (none-some it e);
        probes = (waiting_on pass pass' on next is.probes.1.0, all_on pass pass' on below is.probes.1.1);
        ready_is = tt;
      }
