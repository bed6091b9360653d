use Rattle.std.proofs.Common.{ap, refl, ◌∙◌, arith}
use Rattle.row_scores.proofs.RowOrders.{placed_more, placed_same}
use Rattle.row_scores.proofs.order.place_more.Goals as goal
use Rattle.row_scores.proofs.order.place_more.Goals.{then-not-placed-rule+then-all_begin_with+in_ok-push, else-not-placed-rule}

pub loop-rule-preserved : goal.loop-rule-preserved
loop-rule-preserved c =
    let p = c.args.problem.now in
    elim c.if-not-placed-rule.branch [
      | then-not-placed-rule+then-all_begin_with+in_ok-push w ↦
          placed_same p _ _ _ _ w.placed-is (ap (λ order. order.items) w.order-is ∙ w.in_ok-push.ensures.items)
          (placed_more p c.loop-rule.placed c.loop-rule.order.items c.loop-rule.invariant c.loop-rule.rule
          (omega (arith, c.loop-rule-test.true, c.loop-rule.auto.placed, c.loop-rule.invariant.each)) (w.if-all_begin_with.ensures.0 refl))
      | else-not-placed-rule w ↦ placed_same p _ _ _ _ w.placed-is (ap (λ order. order.items) w.order-is) c.loop-rule.invariant
    ]
