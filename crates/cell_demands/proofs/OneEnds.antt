-- What arguments demand the first of which may end at one position alone: a token of fixed length, or the last of all
-- arguments.
use Rattle.std.proofs.Common.{◌≡◌, ◌↔◌, ℕ, ◌⊎◌, Bool, IsTrue, Some, None, List, [], ◌∷◌, length, refl, subst, inl, inr, ⊎_elim, arith}
use Rattle.adp_model.specs.declared.grammar.Arg.{Arg}
use Rattle.adp_model.specs.declared.cell.Cell.{Cell}
use Rattle.adp_model.specs.PosedProblem.{PosedProblem}
use Rattle.adp_model.specs.Splits.{FitsSpan}
use Rattle.viable_splits.specs.Placing.{on_span, Cover}
use Rattle.split_lines.specs.Laid.{IsCellOf, Demands, IsFixed}
use Rattle.cell_tables.specs.Marks.{CellMarks, AreMarkedFrom}
use Rattle.cell_demands.proofs.Dividing.{cover_forward}
use Rattle.cell_demands.proofs.MarkSteps.{marked_like, none_marked}
use Rattle.cell_demands.proofs.LineDemands.{cover_of_demands, no_cell}
use Rattle.split_lines.specs.Ends.{IsEndTold}

-- ---- no end

module _ (p : PosedProblem) (argument : Arg) (others : List Arg) (from to : ℕ)
    (none : (end : ℕ) → FitsSpan p (on_span argument from end) → Cover p others end to → ⊥) where
  pub cover_nowhere : Cover p (argument ∷ others) from to → ⊥
  cover_nowhere (end, fits, cover) = none end fits cover

  pub marked_nowhere : (begin : ℕ) (marks : CellMarks) → AreMarkedFrom begin marks marks (Demands p (argument ∷ others) from to)
  marked_nowhere begin marks =
      none_marked begin marks (Demands p (argument ∷ others) from to)
      (λ cell demands. cover_nowhere (cover_of_demands p (argument ∷ others) from to cell demands))

-- ---- one end

module _ (p : PosedProblem) (argument : Arg) (others : List Arg) (from to end : ℕ)
    (fits : FitsSpan p (on_span argument from end)) (only : (other : ℕ) → FitsSpan p (on_span argument from other)
    → Cover p others other to → other ≡ end) where
  pub cover_from : (test : Bool) → IsTrue test ↔ Cover p others end to → IsTrue test ↔ Cover p (argument ∷ others) from to
  cover_from test told =
      (λ is. (end, fits, told.0 is), λ (other, fits', cover). told.1 (subst (λ at. Cover p others at to) (only other fits' cover) cover))

  -- what the first argument demands there, and what the others do
  pub demands_from : (cell : Cell) → Demands p (argument ∷ others) from to cell
      → (IsCellOf argument from end cell × Cover p others end to) ⊎ Demands p others end to cell
  demands_from cell (other, fits', some) =
      let cover = ⊎_elim (λ (is, cover). cover) (λ later. cover_of_demands p others other to cell later) some in
      subst (λ at. (IsCellOf argument from at cell × Cover p others at to) ⊎ Demands p others at to cell) (only other fits' cover) some

  pub marked_behind : IsFixed argument → (begin : ℕ) (old new : CellMarks)
      → AreMarkedFrom begin old new (Demands p others end to)
      → AreMarkedFrom begin old new (Demands p (argument ∷ others) from to)
  marked_behind fixed begin old new marked =
      marked_like begin old new (Demands p others end to) (Demands p (argument ∷ others) from to)
      (λ cell later. (end, fits, inr later))
      (λ cell demands. ⊎_elim (λ (is, cover). absurd (no_cell p argument from end cell fixed is)) (λ later. later) (demands_from cell demands))
      marked

-- ---- a token of fixed length

module _ (p : PosedProblem) (token : Arg) (others : List Arg) (from to : ℕ) where
  pub none_ends : IsEndTold p token from to None → (end : ℕ) → FitsSpan p (on_span token from end) → Cover p others end to → ⊥
  none_ends told end fits cover = let e = (told end).1 (cover_forward p others end to cover, fits) in absurd cc

  pub one_ends : (end : ℕ) → IsEndTold p token from to (Some end) → (other : ℕ) → FitsSpan p (on_span token from other) → Cover p others other to → other ≡ end
  one_ends end told other fits cover = let e = (told other).1 (cover_forward p others other to cover, fits) in cc

-- ---- nothing behind

pub empty_without : {X : Type 0} (xs : List X) → length xs ≡ 0 → xs ≡ []
empty_without [] l = refl
empty_without (x ∷ xs) l = absurd (omega arith)

-- ---- the last argument

module _ (p : PosedProblem) (argument : Arg) (from to : ℕ) where
  pub last_ends : (end : ℕ) → FitsSpan p (on_span argument from end) → Cover p [] end to → end ≡ to
  last_ends end fits cover = cover

  pub last_misses : (FitsSpan p (on_span argument from to) → ⊥) → (end : ℕ) → FitsSpan p (on_span argument from end) → Cover p [] end to → ⊥
  last_misses none end fits cover = none (subst (λ at. FitsSpan p (on_span argument from at)) cover fits)

  pub last_marked : FitsSpan p (on_span argument from to) → (begin : ℕ) (old new : CellMarks)
      → AreMarkedFrom begin old new (IsCellOf argument from to)
      → AreMarkedFrom begin old new (Demands p (argument ∷ []) from to)
  last_marked fits begin old new marked =
      marked_like begin old new (IsCellOf argument from to) (Demands p (argument ∷ []) from to)
      (λ cell is. (to, fits, inl (is, refl)))
      (λ cell demands. ⊎_elim (λ (is, cover). is) (λ none. absurd none) (demands_from p argument [] from to to fits last_ends cell demands))
      marked
