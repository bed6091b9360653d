use Rattle.row_scores.specs.Order.{ArePlaced}
use Rattle.row_scores.proofs.order.place_more.Given as goal

abbrev pub invariant-loop-rule : goal.invariant-loop-rule
invariant-loop-rule l = ArePlaced l.problem l.placed l.order.items
