-- Frames that are added and that leave, and how few a machine can open or win.
use Rattle.std.proofs.Common.{◌≡◌, ℕ, zero, suc, ◌+◌, ◌-◌, ◌*◌, ◌<◌, ◌≤◌, Option, Some, None, List, [], ◌∷◌, ◌++◌, length, map, take, refl, sym, subst, ap, ◌∙◌, arith}
use Rattle.std.specs.Prelude.{reverse, vec_capacity, IfSome}
use Rattle.std.specs.Option.{option_to_list}
use Rattle.std.specs.List.{Contains, AllByRecursion}
use Rattle.std.proofs.lemmas.List.{length-reverse, reverse-append}
use Rattle.std.proofs.lemmas.List.Sums.{count_by-le-length}
use Rattle.adp_model.specs.declared.cell.Cell.{Cell}
use Rattle.memo_model.specs.declared.visit.Frame.{Frame}
use Rattle.adp_model.specs.PosedProblem.{PosedProblem}
use Rattle.adp_model.specs.ProblemFields.{most_cells}
use Rattle.adp_model.specs.Demand.{IsDemandedCount}
use Rattle.memo_model.specs.Memos.{Meaning, HasLoaded, AddsNothing}
use Rattle.memo_model.specs.Machines.{is_known, AreFewOpened, KnowsSoMany}
use Rattle.rand_pcg.specs.Lcg.{Lcg}
use Rattle.random_orders.specs.Draws.{drawn_turns}
use Rattle.cell_core.specs.declared.work.Work.{Work}
use Rattle.cell_core.specs.Working.{frames_of}
use Rattle.cell_core.specs.FrameChanges.{Opening, opening_of, standing, turn_bounds, EndsPublication, IsFrameAdded, IsFrameGone}

-- ---- how many

module _ {Pass Probe : Type 0} (memo : Meaning Pass Probe) (p : PosedProblem) (pass : Pass) (listed : (count : ℕ) × IsDemandedCount p count × (count ≤ most_cells)) where
  pub few_wins_so : (wins : ℕ) → KnowsSoMany memo p wins pass → wins ≤ 2097152
  few_wins_so wins few =
      let cells : List Cell = listed.1.0 in
      let most = count_by-le-length (is_known memo pass) cells in
      let at_most = few cells listed.1.1 in
      let number = listed.1.2 in
      let limit = listed.2 in
      omega arith

  pub few_opened_so : (opened : ℕ) (frames : List (Frame Probe)) → AreFewOpened memo p opened frames pass
      → opened ≤ length frames + 2097152
  few_opened_so opened frames few =
      let cells : List Cell = listed.1.0 in
      let most = count_by-le-length (is_known memo pass) cells in
      let at_most = few cells listed.1.1 in
      let number = listed.1.2 in
      let limit = listed.2 in
      omega arith

-- few rules and few letters give few frames
pub few_of : (frames letters rules : ℕ) → frames < (letters + 1) * rules → letters ≤ 4000 → rules ≤ 128 → frames ≤ 512128
few_of frames letters rules few few_letters few_rules =
    let more : (letters + 1) * rules ≤ 4001 * rules = grind arith in
    omega arith

-- there is room below the top frame
pub room_if : {Probe : Type 0} (work : Work Probe) (room : ℕ) → room ≤ vec_capacity work.below
    → length (frames_of work.top work.below.items) < room
    → IfSome work.top (λ top. length work.below.items < vec_capacity work.below)
room_if {Probe} work room capacity few = go work.top refl
  where
    go : (o : Option (Frame Probe)) → work.top ≡ o → IfSome o (λ top. length work.below.items < vec_capacity work.below)
    go None e = tt
    go (Some top) e =
        let n : length (frames_of work.top work.below.items) ≡ suc (length (reverse work.below.items)) =
        ap (λ t. length (frames_of t work.below.items)) e in
        let l = length-reverse work.below.items in
        omega arith

-- ---- what a pop leaves

pub popped : {X : Type 0} (old new : List X) (last : X) → old ≡ new ++ option_to_list (Some last)
    → reverse old ≡ last ∷ reverse new
popped old new last e = ap reverse e ∙ reverse-append new (last ∷ [])

pub popped_end : {X : Type 0} (old new : List X) (n : ℕ) → old ≡ new ++ option_to_list {X = X} None → n ≡ 0
    → new ≡ take (n - 1) old → reverse old ≡ []
popped_end {X} old new n items empty rest =
    let none : new ≡ [] = rest ∙ ap (λ k. take (k - 1) old) empty in
    let all : old ≡ [] = items ∙ ap (λ (xs : List X). xs ++ []) none in
    ap reverse all

-- ---- frames

module _ {Pass Probe : Type 0} (memo : Meaning Pass Probe) (p : PosedProblem) (pass pass' : Pass) where
  no_frame_so : (height : Cell → ℕ) (cell : Cell) (frames : List (Frame Probe))
      → AllByRecursion (λ (frame : Frame Probe). height cell < height frame.visit.cell) frames
      → (other : Opening) → Contains (map opening_of frames) other → other.cell ≡ cell → ⊥
  no_frame_so height cell [] above other (k, inside, e) same = omega arith
  no_frame_so height cell (frame ∷ frames) above other (zero, inside, e) same =
      let l : height cell < height frame.visit.cell = above.0 in
      let here : frame.visit.cell ≡ cell = ap (λ (o : Opening). o.cell) e ∙ same in
      let s : height frame.visit.cell ≡ height cell = ap height here in
      omega arith
  no_frame_so height cell (frame ∷ frames) above other (suc k, inside, e) same =
      no_frame_so height cell frames above.1 other (k, omega arith, e) same

  pub frame_added : (height : Cell → ℕ) (cell : Cell) (frames frames' : List (Frame Probe)) (opened opened' : ℕ)
      (orders orders' : Lcg) (top : Frame Probe) → frames' ≡ top ∷ frames → top.visit.cell ≡ cell
      → AllByRecursion (λ (frame : Frame Probe). height cell < height frame.visit.cell) frames
      → HasLoaded memo pass' cell 0 → AddsNothing (memo.known pass) (memo.known pass') → (memo.known pass cell → ⊥)
      → (top.visit.first ∷ top.visit.turns, orders') ≡ drawn_turns (turn_bounds p cell) orders → opened' ≡ opened + 1
      → IsFrameAdded memo p pass pass' (standing frames opened orders) (standing frames' opened' orders')
  frame_added height cell frames frames' opened opened' orders orders' top are here above on nothing unknown drawn number = record {
    opening = opening_of top;
    added = ap (map opening_of) are;
    unpublished = subst (λ c. HasLoaded memo pass' c 0) (sym here) on;
    not_known = λ h. unknown (subst (memo.known pass) here (nothing top.visit.cell h));
    in_no_frame = λ other has same. no_frame_so height cell frames above other has (same ∙ here);
    turns = subst (λ c. (top.visit.first ∷ top.visit.turns, orders') ≡ drawn_turns (turn_bounds p c) orders) (sym here) drawn;
    opened = number;
  }

  pub frame_gone : (top : Frame Probe) (frames frames' : List (Frame Probe)) (opened opened' : ℕ) (orders : Lcg)
      → frames ≡ top ∷ frames' → opened' ≡ opened
      → EndsPublication memo pass pass' top.visit.cell → memo.known pass' top.visit.cell
      → IsFrameGone memo pass pass' (standing frames opened orders) (standing frames' opened' orders)
  frame_gone top frames frames' opened opened' orders are number ends known = record {
    opening = opening_of top;
    gone = ap (map opening_of) are;
    published = ends;
    known = known;
    opened = number;
    orders = refl;
  }
