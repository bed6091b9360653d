use Rattle.std.proofs.Common.{◌≡◌, ◌<◌, length, slice_index_or, pos, FitsSigned, w64, arith, rules}
use Rattle.std.proofs.lemmas.Int.{ints}
use Rattle.lex_product.proofs.FactorSteps.{unit_score, unit_token}
use Rattle.lex_product.proofs.checking.have_unit_scores.Goals as goal
use Rattle.lex_product.proofs.checking.have_unit_scores.Goals.{in-Score+else-factor-ne1, in-Token}

pub loop-place-preserved : goal.loop-place-preserved
loop-place-preserved c =
    let in_kinds : c.loop-place.place < length c.args.kinds.now = omega (arith, c.requires) in
    let before = c.loop-place.invariant in
    elim c.match-kinds-place.branch [
      | in-Score+else-factor-ne1 w ↦
          let fits_factor : FitsSigned w64 (slice_index_or c.args.factors.now c.loop-place.place (pos 0)) = search rules in
          let one : slice_index_or c.args.factors.now c.loop-place.place (pos 0) ≡ pos 1 = grind (arith, ints, w.if-factor-ne1.false) in
          let step = unit_score c.args.factors.now c.args.kinds.now c.loop-place.place c.loop-place-test.true in_kinds w.in-Score.is in
          ((λ h. (step.0 (before.0 h)).1), (λ h. before.1 (step.1 (one, h))))
      | in-Token w ↦
          let step = unit_token c.args.factors.now c.args.kinds.now c.loop-place.place c.loop-place-test.true in_kinds w.in-Token.is in
          ((λ h. step.0 (before.0 h)), (λ h. before.1 (step.1 h)))
    ]
