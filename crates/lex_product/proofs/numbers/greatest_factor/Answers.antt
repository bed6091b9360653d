use Rattle.std.proofs.Common.{◌≡◌, ◌<◌, ℕ, length, slice_index_or, max, pos, nat_abs, FitsSigned, w64, ap, ◌∙◌, arith, rules}
use mir.Syntax.{w128}
use Rattle.std.proofs.lemmas.Int.{to_z-of_z}
use Rattle.lex_product.proofs.FactorSteps.{greatest_score_step, greatest_token_step}
use Rattle.lex_product.proofs.numbers.greatest_factor.Goals as goal
use Rattle.lex_product.proofs.numbers.greatest_factor.Goals.{in-Token, in-Score}

score_more : (g g' here rest total : ℕ) → g' ≡ g → here ≡ rest → max g here ≡ total → max g' rest ≡ total
score_more g g' here rest total same step before = omega arith

token_more : (g g' number here rest total : ℕ) → g' ≡ max number g → here ≡ max number rest → max g here ≡ total → max g' rest ≡ total
token_more g g' number here rest total same step before = omega arith

pub loop-place-preserved : goal.loop-place-preserved
loop-place-preserved c =
    let in_kinds = c.loop-place-test.true in
    let in_factors : c.loop-place.place < length c.args.factors.now = omega (arith, c.requires.factors) in
    let in_others : c.loop-place.place < length c.args.others.now = omega (arith, c.requires.others) in
    elim c.match-kind.branch [
      | in-Token w ↦
          let factor_fits : FitsSigned w64 (slice_index_or c.args.factors.now c.loop-place.place (pos 0)) = search rules in
          let other_fits : FitsSigned w64 (slice_index_or c.args.others.now c.loop-place.place (pos 0)) = search rules in
          let join_fits : FitsSigned w128 w.join-number.result = record { sfits = w.join-number.type_inv } in
          let size = w.unsigned_abs.ensures.value ∙ ap nat_abs (to_z-of_z w128 w.join-number.result join_fits ∙ (simp to_z-of_z at w.join-number.ensures)) in
          let step = greatest_token_step c.args.joining.now.multiplier c.args.joining.now.same c.args.kinds.now c.args.factors.now c.args.others.now c.loop-place.place in_kinds in_factors
          in_others w.in-Token.is in
          token_more _ _ _ _ _ _ (w.greatest-is ∙ w.max-greatest.ensures ∙ ap (λ n. max n c.loop-place.greatest) size) step c.loop-place.invariant
      | in-Score w ↦
          score_more _ _ _ _ _ w.greatest-is
          (greatest_score_step c.args.joining.now.multiplier c.args.joining.now.same c.args.kinds.now c.args.factors.now c.args.others.now c.loop-place.place in_kinds in_factors in_others
          w.in-Score.is) c.loop-place.invariant
    ]
