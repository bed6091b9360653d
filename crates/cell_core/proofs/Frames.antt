-- What the list of frames tells: its cells are demanded, and each lies above all that is sought from it.
use Rattle.std.proofs.Common.{◌≡◌, ℕ, zero, suc, ◌+◌, ◌<◌, ◌≤◌, List, [], ◌∷◌, length, refl, sym, subst, ap, arith}
use Rattle.std.specs.Prelude.{Some, slice_get}
use Rattle.std.specs.List.{Contains, AllByRecursion}
use Rattle.std.proofs.lemmas.Option.{same_Some}
use Rattle.adp_model.specs.declared.cell.Cell.{Cell}
use Rattle.adp_model.specs.PosedProblem.{PosedProblem, axiom_cell}
use Rattle.adp_model.specs.Splits.{placed}
use Rattle.adp_model.specs.Demand.{IsDemanded, Child, IsDemandedChild}
use Rattle.memo_model.specs.declared.visit.Frame.{Frame}
use Rattle.adp_model.specs.SplitArguments.{SplitArgument, AsksFor}
use Rattle.memo_model.specs.Visits.{argument_at}
use Rattle.memo_model.specs.Machines.{IsVisit, AreFrames}

contains_at : {X : Type 0} (xs : List X) (i : ℕ) (x : X) → slice_get xs i ≡ Some x → Contains xs x
contains_at [] i x e = cc
contains_at (y ∷ ys) zero x e = (zero, omega arith, same_Some y x e)
contains_at (y ∷ ys) (suc i) x e = let h = contains_at ys i x e in (suc h.0, omega (arith, h.1), h.2)

pub child_of : (p : PosedProblem) (argument : SplitArgument) (child : Cell) → AsksFor p argument child → IsDemandedChild p argument.cell child
child_of p argument child asks =
    (argument.alternative, argument.cuts, asks.viable, contains_at (placed p argument.cell argument.alternative argument.cuts) argument.number _ asks.there)

module _ {Probe : Type 0} (p : PosedProblem) (known Noted : Cell → Type 0) where
  sought_child : (cell : Cell) (frame : Frame Probe) → IsVisit p known Noted (Some cell) frame.visit → IsDemandedChild p frame.visit.cell cell
  sought_child cell frame visit =
      let h = visit.at_hand cell refl in
      child_of p (argument_at frame.visit.cell h.0) cell h.2

  -- what is sought is demanded
  pub sought_demanded : (cell : Cell) (frames : List (Frame Probe)) → AreFrames p known Noted (Some cell) frames → IsDemanded p (axiom_cell p) → IsDemanded p cell
  sought_demanded cell [] are demanded = subst (IsDemanded p) (sym (are cell refl)) demanded
  sought_demanded cell (frame ∷ below) are demanded =
      Child frame.visit.cell cell (sought_demanded frame.visit.cell below are.1 demanded) (sought_child cell frame are.0)

  module _ (height : Cell → ℕ) (falls : (cell child : Cell) → IsDemandedChild p cell child → height child < height cell) where
    higher : (a b : ℕ) → a < b → (frames : List (Frame Probe))
        → AllByRecursion (λ (frame : Frame Probe). b < height frame.visit.cell) frames
        → AllByRecursion (λ (frame : Frame Probe). a < height frame.visit.cell) frames
    higher a b l [] all = tt
    higher a b l (frame ∷ below) all = ((let m : b < height frame.visit.cell = all.0 in omega arith), higher a b l below all.1)

    -- what is sought lies below all frames
    pub sought_below : (cell : Cell) (frames : List (Frame Probe)) → AreFrames p known Noted (Some cell) frames
        → AllByRecursion (λ (frame : Frame Probe). height cell < height frame.visit.cell) frames
    sought_below cell [] are = tt
    sought_below cell (frame ∷ below) are =
        let l = falls frame.visit.cell cell (sought_child cell frame are.0) in
        (l, higher (height cell) (height frame.visit.cell) l below (sought_below frame.visit.cell below are.1))

    -- so there are no more frames than heights
    pub few_frames : (cell : Cell) (frames : List (Frame Probe)) → AreFrames p known Noted (Some cell) frames → height cell + length frames ≤ height (axiom_cell p)
    few_frames cell [] are = let e : height cell ≡ height (axiom_cell p) = ap height (are cell refl) in omega arith
    few_frames cell (frame ∷ below) are =
        let l = falls frame.visit.cell cell (sought_child cell frame are.0) in
        let m = few_frames frame.visit.cell below are.1 in
        omega arith
