use Rattle.std.proofs.Common.{ℕ, ◌<◌}
use Rattle.adp_model.specs.Parts.{arguments_of}
use Rattle.row_scores.specs.Order.{IsPlaced, MayBegin}
use Rattle.row_scores.proofs.order.all_begin_with.Given as goal

abbrev pub invariant-loop-number : goal.invariant-loop-number
invariant-loop-number l =
    (alternative other : ℕ) → alternative < l.number → MayBegin l.problem (arguments_of l.problem.grammar l.rule alternative) other → IsPlaced l.placed other
