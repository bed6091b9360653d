-- Arguments that are laid between two positions only where each cell is noted that they may demand there.
use Rattle.std.proofs.Common.{◌≡◌, ℕ, ◌<◌, ◌≤◌, Bool, true, false, IsTrue, Some, None, List, ◌∷◌, subst, inl, inr}
use Rattle.std.specs.Bool.{OnTrue}
use Rattle.std.specs.declared.ops.Range.{Range}
use Rattle.adp_model.specs.declared.grammar.Arg.{Arg}
use Rattle.adp_model.specs.declared.cell.Cell.{Cell}
use Rattle.adp_model.specs.PosedProblem.{PosedProblem}
use Rattle.adp_model.specs.Splits.{FitsSpan}
use Rattle.viable_splits.specs.Placing.{on_span, ArePositions, Cover}
use Rattle.split_lines.specs.Ends.{IsEndTold}
use Rattle.split_lines.specs.Laid.{IsFixed, IsCellOf, Demands}
use Rattle.argument_search.specs.Skipping.{AreNotedIfLaid, AreNotedOn}
use Rattle.argument_search.proofs.Demanded.{cover_of_demands, no_cell}
use Rattle.argument_search.proofs.LineHere.{cover_forward}

module _ (p : PosedProblem) (Noted : Cell → Type 0) where
  -- where each cell is noted, nothing has to be laid
  pub noted_if_laid : (arguments : List Arg) (so : Bool) (from to : ℕ) → IsTrue so
      → AreNotedOn p Noted arguments from to → AreNotedIfLaid p Noted arguments so from to
  noted_if_laid arguments so from to is noted cover = (is, noted)

  pub noted_of_laid : (arguments : List Arg) (so : Bool) (from to : ℕ) → AreNotedIfLaid p Noted arguments so from to
      → AreNotedOn p Noted arguments from to
  noted_of_laid arguments so from to laid child demands =
      (laid (cover_of_demands p arguments from to child demands)).1 child demands

  pub told_of_laid : (arguments : List Arg) (so : Bool) (from to : ℕ) (found : Bool)
      → OnTrue found (AreNotedIfLaid p Noted arguments so from to) → OnTrue found (AreNotedOn p Noted arguments from to)
  told_of_laid arguments so from to true laid = noted_of_laid arguments so from to laid
  told_of_laid arguments so from to false laid = tt

  -- ---- a token in front

  module _ (token : Arg) (others : List Arg) (so : Bool) (from to : ℕ) (fixed : IsFixed token) where
    pub laid_behind : (end : ℕ) → IsEndTold p token from to (Some end) → AreNotedIfLaid p Noted others so end to
        → AreNotedIfLaid p Noted (token ∷ others) so from to
    laid_behind end told laid (at, fits, cover) = (
      (laid (subst (λ it. Cover p others it to) (only at fits cover) cover)).0,
      λ child demands. behind child demands,
    )
      where
        only : (at : ℕ) → FitsSpan p (on_span token from at) → Cover p others at to → at ≡ end
        only at fits cover = let e = (told at).1 (cover_forward p others at to cover, fits) in cc

        behind : (child : Cell) → Demands p (token ∷ others) from to child → Noted child
        behind child (at, fits, inl (is, cover)) = absurd (no_cell p token from at child fixed is)
        behind child (at, fits, inr later) =
            let same = only at fits (cover_of_demands p others at to child later) in
            noted_of_laid others so end to laid child (subst (λ it. Demands p others it to child) same later)

    pub laid_nowhere : IsEndTold p token from to None → AreNotedIfLaid p Noted (token ∷ others) so from to
    laid_nowhere told (at, fits, cover) = let e = (told at).1 (cover_forward p others at to cover, fits) in absurd cc

  -- ---- arguments behind the first one

  -- ---- one of open length in front

  -- where the first argument ends here, this is so, its cell is noted, and so is each one that the others may demand
  abbrev pub AreNotedFrom : Arg → List Arg → Bool → ℕ → ℕ → ℕ → Type 0
  AreNotedFrom argument others so from to end =
      Cover p others end to
      → IsTrue so × ((child : Cell) → IsCellOf argument from end child → Noted child)
      × AreNotedOn p Noted others end to

  module _ (argument : Arg) (others : List Arg) (so : Bool) (from to : ℕ) where
    pub laid_from : (positions : Range ℕ) → ArePositions p argument others from to positions
        → ((end : ℕ) → positions.start ≤ end → end < positions.end → AreNotedFrom argument others so from to end)
        → AreNotedIfLaid p Noted (argument ∷ others) so from to
    laid_from positions are each (at, fits, cover) = ((noted at fits cover).0, λ child demands. behind child demands)
      where
        noted : (end : ℕ) → FitsSpan p (on_span argument from end) → Cover p others end to
            → IsTrue so × ((child : Cell) → IsCellOf argument from end child → Noted child)
            × AreNotedOn p Noted others end to
        noted end fits cover =
            let within = are.none_missed end fits cover in
            each end within.0 within.1 cover

        behind : (child : Cell) → Demands p (argument ∷ others) from to child → Noted child
        behind child (end, fits, inl (is, cover)) = (noted end fits cover).1 child is
        behind child (end, fits, inr later) =
            (noted end fits (cover_of_demands p others end to child later)).2 child later
