use Rattle.std.proofs.Common.{map}
use Rattle.score_numbers.specs.Sums.{HasSum}
use Rattle.score_numbers.specs.Spaced.{least_sum}
use Rattle.score_numbers.proofs.Greatest.{HasBefore}
use Rattle.score_numbers.proofs.LargestSums.{AtPosition, IsLargest}
use Rattle.score_numbers.proofs.sums.greatest_scattered.Given as goal

-- the greatest of the sums at the first positions
abbrev pub invariant-loop-position : goal.invariant-loop-position
invariant-loop-position g l =
    IsLargest (least_sum g.N.Number.width)
    (HasBefore
    (AtPosition l.positions
    (HasSum g.N.Number.width (map g.N.Number.value l.first) (map g.N.Number.value l.second))) l.position-index)
    (g.N.Number.value l.greatest)
