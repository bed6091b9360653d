use Rattle.std.proofs.Common.{◌≡◌, ◌<◌, ◌≤◌, ◌^◌, ◌-◌, ◌++◌, ◌∷◌, [], ℕ, ℤ, List, length, slice_index_or, max, pos, nat_abs, FitsSigned, w64, to_z, of_z, sym, ap, subst, ◌∙◌, arith, rules, append_assoc}
use mir.Syntax.{w128}
use Rattle.std.proofs.lemmas.Int.{to_z-of_z, fits_signed_from_abs}
use Rattle.lex_product.proofs.FactorSteps.{greatest_score_step, greatest_token_step, factors_score_step, factors_token_step}
use Rattle.lex_product.proofs.numbers.joined_factors.Goals as goal
use Rattle.lex_product.proofs.numbers.joined_factors.Goals.{in-Score, in-Token}

-- a low number fits
low_fits : (number : ℤ) (here rest : ℕ) → here ≡ max (nat_abs number) rest → here ≤ 2 ^ 62 - 1 → FitsSigned w64 number
low_fits number here rest is low = fits_signed_from_abs w64 number (omega arith)

-- one more item
item_more : (items more here rest total : List ℤ) (item number : ℤ) → more ≡ items ++ item ∷ [] → item ≡ number → here ≡ number ∷ rest → items ++ here ≡ total → more ++ rest ≡ total
item_more items more here rest total item number pushed is step before =
    ap (λ xs. xs ++ rest) pushed ∙ append_assoc items (item ∷ []) rest ∙ ap (λ x. items ++ (x ∷ rest)) is ∙ ap (λ xs. items ++ xs) (sym step) ∙ before

pub overflow_cast-factor : goal.overflow_cast-factor
overflow_cast-factor c =
    let in_kinds = c.loop-place-test.true in
    let in_factors : c.loop-place.place < length c.args.factors.now = omega (arith, c.requires.factors) in
    let in_others : c.loop-place.place < length c.args.others.now = omega (arith, c.requires.others) in
    let factor_fits : FitsSigned w64 (slice_index_or c.args.factors.now c.loop-place.place (pos 0)) = search rules in
    let other_fits : FitsSigned w64 (slice_index_or c.args.others.now c.loop-place.place (pos 0)) = search rules in
    let join_fits : FitsSigned w128 c.join.result = record { sfits = c.join.type_inv } in
    let is = to_z-of_z w128 c.join.result join_fits ∙ (simp to_z-of_z at c.join.ensures) in
    let step = greatest_token_step c.args.joining.now.multiplier c.args.joining.now.same c.args.kinds.now c.args.factors.now c.args.others.now c.loop-place.place in_kinds in_factors in_others
    c.in-Token.is in
    subst (FitsSigned w64) (sym is) (low_fits _ _ _ step c.loop-place.invariant.low)

pub loop-place-preserved : goal.loop-place-preserved
loop-place-preserved c =
    let in_kinds = c.loop-place-test.true in
    let in_factors : c.loop-place.place < length c.args.factors.now = omega (arith, c.requires.factors) in
    let in_others : c.loop-place.place < length c.args.others.now = omega (arith, c.requires.others) in
    let low = c.loop-place.invariant.low in
    elim c.match-kind.branch [
      | in-Score w ↦
          let step = greatest_score_step c.args.joining.now.multiplier c.args.joining.now.same c.args.kinds.now c.args.factors.now c.args.others.now c.loop-place.place in_kinds in_factors
          in_others w.in-Score.is in
          let more = factors_score_step c.args.joining.now.multiplier c.args.joining.now.same c.args.kinds.now c.args.factors.now c.args.others.now c.loop-place.place in_kinds in_factors
          in_others w.in-Score.is in
          record { joined = item_more _ _ _ _ _ _ _ c.in_ok-push.ensures.items w.factor-is more c.loop-place.invariant.joined; low = omega (arith, step, low) }
      | in-Token w ↦
          let factor_fits : FitsSigned w64 (slice_index_or c.args.factors.now c.loop-place.place (pos 0)) = search rules in
          let other_fits : FitsSigned w64 (slice_index_or c.args.others.now c.loop-place.place (pos 0)) = search rules in
          let join_fits : FitsSigned w128 w.join.result = record { sfits = w.join.type_inv } in
          let is = to_z-of_z w128 w.join.result join_fits ∙ (simp to_z-of_z at w.join.ensures) in
          let step = greatest_token_step c.args.joining.now.multiplier c.args.joining.now.same c.args.kinds.now c.args.factors.now c.args.others.now c.loop-place.place in_kinds in_factors
          in_others w.in-Token.is in
          let more = factors_token_step c.args.joining.now.multiplier c.args.joining.now.same c.args.kinds.now c.args.factors.now c.args.others.now c.loop-place.place in_kinds in_factors
          in_others w.in-Token.is in
          let fits = low_fits _ _ _ step low in
          record {
            joined = item_more _ _ _ _ _ _ _ c.in_ok-push.ensures.items (w.factor-is ∙ ap (λ z. to_z w64 (of_z w64 z)) is ∙ to_z-of_z w64 _ fits) more c.loop-place.invariant.joined;
            low = omega (arith, step, low);
          }
    ]
