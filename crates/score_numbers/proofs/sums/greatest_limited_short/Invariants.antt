use Rattle.score_numbers.specs.Packing.{short}
use Rattle.score_numbers.specs.Sums.{IsUnlimitedSum}
use Rattle.score_numbers.proofs.Greatest.{HasBefore}
use Rattle.score_numbers.proofs.LargestSums.{IsLargest}
use Rattle.score_numbers.specs.Spaced.{least_sum}
use Rattle.score_numbers.proofs.sums.greatest_limited_short.Given as goal

-- the greatest of the sums so far, where there is no limit
abbrev pub invariant-loop-k : goal.invariant-loop-k
invariant-loop-k l = IsLargest (least_sum short) (HasBefore (IsUnlimitedSum l.limits l.first l.second) l.k) l.greatest
