-- Arguments the first of which may end at one position alone: a token of fixed length.
use Rattle.std.proofs.Common.{◌≡◌, ◌↔◌, ℕ, ◌<◌, ◌≤◌, Bool, IsTrue, Some, None, List, ◌∷◌, ap, subst, arith}
use Rattle.adp_model.specs.declared.grammar.Arg.{Arg}
use Rattle.adp_model.specs.PosedProblem.{PosedProblem}
use Rattle.adp_model.specs.Splits.{FitsSpan}
use Rattle.viable_splits.specs.Placing.{on_span, Cover, AreEnds}
use Rattle.split_lines.specs.Laid.{IsFixed}
use Rattle.split_lines.proofs.Dividing.{cover_forward}
use Rattle.split_lines.proofs.TokenSpans.{fixed_span}
use Rattle.split_lines.specs.Ends.{IsEndTold}

-- a token of fixed length ends at the first position of its range, if there is one
module _ (p : PosedProblem) (token : Arg) (from last start end : ℕ) (ends : AreEnds p token from last (record { start = start; end = end })) where
  pub end_found : IsFixed token → start < end → IsEndTold p token from last (Some start)
  end_found fixed some to =
      let within : start ≤ last = omega (arith, ends.up_to_last) in
      let fits = (ends.exact start within).1 (omega arith, some) in (
        λ e. let same : start ≡ to = cc in subst (λ at. (at ≤ last) × FitsSpan p (on_span token from at)) same (within, fits),
        λ it.
            let one = fixed_span p token from start fixed fits in
            let two = fixed_span p token from to fixed it.1 in
            let same : start ≡ to = omega arith in
            ap Some same,
      )

  pub end_missed : end ≤ start → IsEndTold p token from last None
  end_missed none to =
      (λ e. absurd cc, λ it. let between = (ends.exact to it.0).0 it.1 in absurd (omega (arith, between.0, between.1)))

-- ---- no end

module _ (p : PosedProblem) (argument : Arg) (others : List Arg) (from to : ℕ) (none : (end : ℕ) → FitsSpan p (on_span argument from end) → Cover p others end to → ⊥) where
  pub cover_nowhere : Cover p (argument ∷ others) from to → ⊥
  cover_nowhere (end, fits, cover) = none end fits cover

-- ---- one end

module _ (p : PosedProblem) (argument : Arg) (others : List Arg) (from to end : ℕ) (fits : FitsSpan p (on_span argument from end)) (only : (other : ℕ) → FitsSpan p (on_span argument from other) → Cover p others other to → other ≡ end) where
  pub cover_from : (test : Bool) → IsTrue test ↔ Cover p others end to → IsTrue test ↔ Cover p (argument ∷ others) from to
  cover_from test told =
      (λ is. (end, fits, told.0 is), λ (other, fits', cover). told.1 (subst (λ at. Cover p others at to) (only other fits' cover) cover))

-- ---- a token of fixed length

module _ (p : PosedProblem) (token : Arg) (others : List Arg) (from to : ℕ) where
  pub none_ends : IsEndTold p token from to None → (end : ℕ) → FitsSpan p (on_span token from end) → Cover p others end to → ⊥
  none_ends told end fits cover = let e = (told end).1 (cover_forward p others end to cover, fits) in absurd cc

  pub one_ends : (end : ℕ) → IsEndTold p token from to (Some end) → (other : ℕ) → FitsSpan p (on_span token from other) → Cover p others other to → other ≡ end
  one_ends end told other fits cover = let e = (told other).1 (cover_forward p others other to cover, fits) in cc
