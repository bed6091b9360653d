use Rattle.std.proofs.Common.{map}
use Rattle.score_numbers.specs.WeighedSums.{HasWeighedSum}
use Rattle.score_numbers.proofs.Greatest.{HasBefore}
use Rattle.score_numbers.proofs.LargestSums.{AtPosition, IsLargest, least_entry}
use Rattle.score_numbers.proofs.weighed_sums.greatest_weighed.Given as goal

-- the greatest of the sums at the first positions, as an entry
abbrev pub invariant-loop-position : goal.invariant-loop-position
invariant-loop-position g l =
    IsLargest least_entry (HasBefore (AtPosition l.positions (HasWeighedSum l.mark l.scales l.weights (map g.N.Number.value l.first) (map g.N.Number.value l.second))) l.position-index) l.greatest
