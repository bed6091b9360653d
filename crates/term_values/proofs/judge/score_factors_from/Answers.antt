use Rattle.std.proofs.Common.{◌≤ℤ◌, slice_index_or, pos, sym, ◌∙◌, FitsSigned, w64, arith, rules}
use Rattle.std.proofs.lemmas.Int.{ints, to_z-of_z}
use Rattle.term_values.proofs.ScoreFactors.{from_score, from_token}
use Rattle.term_values.proofs.judge.score_factors_from.Goals as goal
use Rattle.term_values.proofs.judge.score_factors_from.Goals.{in-Score+else-factor-least, in-Token}

pub loop-i-preserved : goal.loop-i-preserved
loop-i-preserved c =
    let fits : FitsSigned w64 c.args.least = c.ranges.least in
    let before = simp to_z-of_z at c.loop-i.invariant in
    elim c.match-kind_at.branch [
      | in-Score+else-factor-least w ↦
          let fits_factor : FitsSigned w64 (slice_index_or c.args.factors.now c.loop-i.i (pos 0)) = search rules in
          let enough : c.args.least ≤ℤ slice_index_or c.args.factors.now c.loop-i.i (pos 0) = grind (arith, ints, w.if-factor-least.false) in
          let step = from_score c.args.least c.args.factors.now c.args.kinds.now c.loop-i.i c.loop-i-test.true (sym c.kind_at.ensures ∙ w.in-Score.is) in
          simp to_z-of_z ((λ h. (step.0 (before.0 h)).1), (λ h. before.1 (step.1 (enough, h))))
      | in-Token w ↦
          let step = from_token c.args.least c.args.factors.now c.args.kinds.now c.loop-i.i c.loop-i-test.true (sym c.kind_at.ensures ∙ w.in-Token.is) in
          simp to_z-of_z ((λ h. step.0 (before.0 h)), (λ h. before.1 (step.1 h)))
    ]
