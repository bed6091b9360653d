-- Lists of arguments and their first one; what arguments cover.
use Rattle.std.proofs.Common.{◌≡◌, ℕ, suc, ◌-◌, ◌<◌, ◌≤◌, List, [], ◌∷◌, ◌++◌, refl, length, take, drop, get_or, sym, ap, ◌∙◌, arith}
use Rattle.std.proofs.lemmas.List.{take_all}
use Rattle.adp_model.specs.declared.grammar.Arg.{Arg}
use Rattle.adp_model.specs.PosedProblem.{PosedProblem}
use Rattle.viable_splits.specs.Placing.{Cover}

-- a list that has an item is that item and the rest, as a slice is taken
pub split_at_first : {X : Type 0} (all : List X) (first : X) → 0 < length all → first ≡ get_or all 0 first → all ≡ first ∷ take (length all - 1) (drop 1 all)
split_at_first [] first l is = absurd (omega arith)
split_at_first (one ∷ rest) first l is =
    let fewer : suc (length rest) - 1 ≡ length rest = omega arith in
    ap (λ x. x ∷ rest) (sym is) ∙ ap (λ xs. first ∷ xs) (sym (take_all (suc (length rest) - 1) rest (omega arith)))

-- what arguments cover goes forward
pub cover_forward : (p : PosedProblem) (arguments : List Arg) (from to : ℕ) → Cover p arguments from to → from ≤ to
cover_forward p [] from to h = omega arith
cover_forward p (argument ∷ arguments) from to h =
    let first = h.1.0.in_order in
    let others = cover_forward p arguments h.0 to h.2 in
    omega arith

module _ (p : PosedProblem) where
  pub cover_parts : (front back : List Arg) (from to : ℕ) → Cover p (front ++ back) from to → (middle : ℕ) × Cover p front from middle × Cover p back middle to
  cover_parts [] back from to cover = (from, refl, cover)
  cover_parts (argument ∷ front) back from to (end, fits, cover) =
      let parts = cover_parts front back end to cover in
      (parts.0, (end, fits, parts.1), parts.2)
