use Rattle.row_scores.specs.Order.{ArePlaced}
use Rattle.row_scores.proofs.order.row_order.Given as goal

abbrev pub invariant-loop : goal.invariant-loop
invariant-loop l = ArePlaced l.problem l.placed.items l.order.items
