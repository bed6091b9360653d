-- Each kind of step leaves fewer steps.
use Rattle.std.proofs.Common.{◌≡◌, ℕ, ◌+◌, ◌*◌, ◌<◌, ◌≤◌, Bool, true, false, Option, Some, None, List, [], ◌∷◌, length, refl, sym, ap, ◌∙◌, arith}
use Rattle.std.specs.List.{Contains}
use Rattle.std.proofs.lemmas.List.Sums.{sum_by-cons, count_by-le-length}
use Rattle.adp_model.specs.declared.cell.Cell.{Cell}
use Rattle.adp_model.specs.PosedProblem.{PosedProblem}
use Rattle.memo_model.specs.declared.visit.Visit.{Visit}
use Rattle.memo_model.specs.declared.visit.Frame.{Frame}
use Rattle.memo_model.specs.declared.visit.Hand.{Hand}
use Rattle.adp_model.specs.SplitArguments.{SplitArgument}
use Rattle.memo_model.specs.Visits.{is_behind}
use Rattle.memo_model.specs.Memos.{Meaning, StayKnown}
use Rattle.memo_model.specs.Machines.{is_known}
use Rattle.memo_model.specs.StepBound.{is_left, left_of, step_bound, steps_left}
use Rattle.cell_core.proofs.Counts.{count_le, count_less, times_le, times_less}
use Rattle.cell_core.proofs.Knowing.{stay_so, known_so, not_known_so}
use Rattle.cell_core.proofs.LeftArguments.{Above, cell_same, left_known, left_moved, left_opened, left_closed}

module _ {Pass Probe : Type 0} (memo : Meaning Pass Probe) (p : PosedProblem) (m : ℕ) (arguments : List SplitArgument) where
  abbrev left : Option (Hand Probe) → List (Frame Probe) → Pass → ℕ
  left hand frames pass = steps_left memo p m arguments false hand frames pass

  abbrev own : Frame Probe → ℕ
  own frame = memo.remaining m frame.probe

  abbrev number : List (Frame Probe) → Pass → ℕ
  number frames pass = left_of p (is_known memo pass) frames arguments

  -- no more than at a fresh machine
  pub fresh_within : (pass : Pass) → left None [] pass ≤ step_bound m (length arguments)
  fresh_within pass =
      let few : number [] pass ≤ length arguments =
      count_by-le-length (is_left {Probe = Probe} p (is_known memo pass) []) arguments in
      let c : ℕ = 2 * m + 5 in
      let l : c * number [] pass ≤ c * length arguments = times_le c (number [] pass) (length arguments) few in
      let e : (length arguments + 1) * c ≡ c + c * length arguments = grind arith in
      omega arith

  -- the position of the top frame moves on to an argument, for which a probe is taken in hand
  pub begun : (pass : Pass) (hand : Hand Probe) (top top' : Frame Probe) (below : List (Frame Probe))
      (argument : SplitArgument) → top'.visit.cell ≡ top.visit.cell → own top' ≡ own top
      → ((argument : SplitArgument) → argument.cell ≡ top.visit.cell → is_behind p top'.visit argument ≡ true
      → is_behind p top.visit argument ≡ true)
      → Contains arguments argument → argument.cell ≡ top.visit.cell → is_behind p top.visit argument ≡ true
      → is_behind p top'.visit argument ≡ false
      → memo.remaining m hand.probe ≡ 2 * m + 5
      → left (Some hand) (top' ∷ below) pass ≤ left None (top ∷ below) pass
  begun pass hand top top' below argument same same_probe on listed here was now fresh =
      let c : ℕ = 2 * m + 5 in
      let f = sum_by-cons own top below in
      let g = sum_by-cons own top' below in
      let less : number (top' ∷ below) pass + 1 ≤ number (top ∷ below) pass =
      count_less (is_left p (is_known memo pass) (top' ∷ below)) (is_left p (is_known memo pass) (top ∷ below)) arguments
      (left_moved p (is_known memo pass) top top' below same on) argument listed
      (at_top (is_known memo pass) top' (here ∙ sym same) ∙ now) (at_top (is_known memo pass) top here ∙ was) in
      let l : c + c * number (top' ∷ below) pass ≤ c * number (top ∷ below) pass =
      times_less c (number (top' ∷ below) pass) (number (top ∷ below) pass) less in
      omega arith
    where
      at_top : (knows : Cell → Bool) (frame : Frame Probe) → argument.cell ≡ frame.visit.cell
          → is_left p knows (frame ∷ below) argument ≡ is_behind p frame.visit argument
      at_top knows frame e = rw (cell_same argument.cell frame.visit.cell e) refl

  -- more is known
  fewer : (pass pass' : Pass) → StayKnown (memo.known pass) (memo.known pass') → (frames : List (Frame Probe))
      → (2 * m + 5) * number frames pass' ≤ (2 * m + 5) * number frames pass
  fewer pass pass' stay frames =
      times_le (2 * m + 5) (number frames pass') (number frames pass)
      (count_le (is_left p (is_known memo pass') frames) (is_left p (is_known memo pass) frames) arguments
      (left_known p (is_known memo pass) (is_known memo pass') (stay_so memo pass pass' stay) frames))

  -- the probe in hand was stepped, and goes on
  pub look_going : (pass pass' : Pass) (hand hand' : Hand Probe) (frames : List (Frame Probe))
      → StayKnown (memo.known pass) (memo.known pass') → memo.remaining m hand'.probe < memo.remaining m hand.probe
      → left (Some hand') frames pass' < left (Some hand) frames pass
  look_going pass pass' hand hand' frames stay falls = let k = fewer pass pass' stay frames in omega arith

  -- it found the answer, and there is a frame
  pub look_found : (pass pass' : Pass) (hand hand' : Hand Probe) (top : Frame Probe) (below : List (Frame Probe))
      → StayKnown (memo.known pass) (memo.known pass') → memo.remaining m hand'.probe < memo.remaining m hand.probe
      → left None (top ∷ below) pass' < left (Some hand) (top ∷ below) pass
  look_found pass pass' hand hand' top below stay falls =
      let k = fewer pass pass' stay (top ∷ below) in omega arith

  -- it found the cell unpublished, and becomes the probe of a frame
  pub look_unpublished : (height : Cell → ℕ) (pass pass' : Pass) (hand : Hand Probe) (top : Frame Probe)
      (below : List (Frame Probe)) → StayKnown (memo.known pass) (memo.known pass')
      → own top < memo.remaining m hand.probe → Above p height top.visit.cell below
      → (memo.known pass top.visit.cell → ⊥) → left None (top ∷ below) pass' < left (Some hand) below pass
  look_unpublished height pass pass' hand top below stay falls above unknown =
      let k = fewer pass pass' stay (top ∷ below) in
      let l : number (top ∷ below) pass ≤ number below pass =
      count_le (is_left p (is_known memo pass) (top ∷ below)) (is_left p (is_known memo pass) below) arguments
      (left_opened p height (is_known memo pass) top below above (not_known_so memo pass top.visit.cell unknown)) in
      let t = times_le (2 * m + 5) (number (top ∷ below) pass) (number below pass) l in
      let s = sum_by-cons own top below in
      omega arith

  -- the top frame's probe was stepped, and goes on
  pub publish_going : (pass pass' : Pass) (top top' : Frame Probe) (below : List (Frame Probe))
      → StayKnown (memo.known pass) (memo.known pass') → top'.visit ≡ top.visit
      → own top' < own top → left None (top' ∷ below) pass' < left None (top ∷ below) pass
  publish_going pass pass' top top' below stay same_visit falls =
      let e : number (top' ∷ below) pass' ≡ number (top ∷ below) pass' =
      ap
      (λ (visit : Visit). left_of p (is_known memo pass') (record { visit = visit; probe = top.probe } ∷ below) arguments)
      same_visit in
      let g : (2 * m + 5) * number (top' ∷ below) pass' ≡ (2 * m + 5) * number (top ∷ below) pass' =
      ap (λ n. (2 * m + 5) * n) e in
      let k = fewer pass pass' stay (top ∷ below) in
      let s = sum_by-cons own top below in
      let t = sum_by-cons own top' below in
      omega arith

  -- the top frame's cell is known now, and the frame leaves; there is another frame
  pub publish_closed : (height : Cell → ℕ) (pass pass' : Pass) (top next : Frame Probe) (below : List (Frame Probe))
      → StayKnown (memo.known pass) (memo.known pass') → Above p height top.visit.cell (next ∷ below)
      → memo.known pass' top.visit.cell
      → 0 < own top → left None (next ∷ below) pass' < left None (top ∷ next ∷ below) pass
  publish_closed height pass pass' top next below stay above has positive =
      let l : number (next ∷ below) pass' ≤ number (top ∷ next ∷ below) pass =
      count_le (is_left p (is_known memo pass') (next ∷ below)) (is_left p (is_known memo pass) (top ∷ next ∷ below))
      arguments
      (left_closed p height (is_known memo pass) (is_known memo pass') (stay_so memo pass pass' stay) top (next ∷ below)
      above (known_so memo pass' top.visit.cell has)) in
      let k = times_le (2 * m + 5) (number (next ∷ below) pass') (number (top ∷ next ∷ below) pass) l in
      let s = sum_by-cons own top (next ∷ below) in
      omega arith

  -- a machine that has not ended has steps left where its probe has
  pub ended_look : (pass pass' : Pass) (hand : Hand Probe) (other : Option (Hand Probe))
      (frames frames' : List (Frame Probe)) → 0 < memo.remaining m hand.probe
      → steps_left memo p m arguments true other frames' pass' < left (Some hand) frames pass
  ended_look pass pass' hand other frames frames' positive = omega arith

  pub ended_publish : (pass pass' : Pass) (top : Frame Probe) (hand : Option (Hand Probe))
      (frames below : List (Frame Probe)) → 0 < own top
      → steps_left memo p m arguments true hand frames pass' < left None (top ∷ below) pass
  ended_publish pass pass' top hand frames below positive = let s = sum_by-cons own top below in omega arith
