use Rattle.std.proofs.Common.{ℕ, ◌<◌, List, Bool, length, refl, ap, subst, ◌∙◌, arith}
use Rattle.std.proofs.lemmas.List.{with_items_is}
use Rattle.row_scores.specs.Order.{ArePlaced, IsPlaced}
use Rattle.row_scores.proofs.RowOrders.{in_row_order, placed_same}
use Rattle.row_scores.proofs.order.row_order.Goals as goal
use Rattle.row_scores.proofs.order.row_order.Goals.{else-loop-test, then-loop-test+in_ok-place_more+then-len-before}

pub returns-then-are_all_placed : goal.returns-then-are_all_placed
returns-then-are_all_placed c =
    let p = c.args.problem.now in
    let placed : List Bool = c.loop-test.placed.items in
    let are : ArePlaced p placed c.loop-test.order.items = elim c.loop-test.branch [
      | else-loop-test w ↦ placed_same p _ _ _ _ (ap (λ flags. flags.items) w.placed-is) (ap (λ order. order.items) w.order-is) c.loop.invariant
      | then-loop-test+in_ok-place_more+then-len-before w ↦
          placed_same p _ _ _ _ (ap (λ flags. flags.items) w.placed-is
          ∙ with_items_is c.loop.placed w.place_more.new.placed (w.place_more.auto.placed ∙ w.deref_mut.ensures.len))
          (ap (λ order. order.items) w.order-is) w.in_ok-place_more.ensures
    ] in
    let all : (rule : ℕ) → rule < length placed → IsPlaced placed rule =
    subst (λ flags. (rule : ℕ) → rule < length flags → IsPlaced flags rule) c.deref.ensures.value (c.if-are_all_placed.ensures.0 refl) in
    in_row_order p placed c.loop-test.order.items are (λ rule known. all rule (omega (arith, known, are.each)))
