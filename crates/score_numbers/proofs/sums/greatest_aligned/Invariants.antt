use Rattle.std.proofs.Common.{length, map}
use Rattle.score_numbers.specs.Sums.{HasSum}
use Rattle.score_numbers.specs.Spaced.{least_sum}
use Rattle.score_numbers.proofs.Greatest.{HasBefore}
use Rattle.score_numbers.proofs.LargestSums.{IsLargest}
use Rattle.score_numbers.proofs.sums.greatest_aligned.Given as goal

-- the greatest of the sums so far
abbrev pub invariant-loop-a : goal.invariant-loop-a
invariant-loop-a g l =
    IsLargest (least_sum g.N.Number.width)
    (HasBefore (HasSum g.N.Number.width (map g.N.Number.value l.first) (map g.N.Number.value l.second)) (length l.yielded))
    (g.N.Number.value l.greatest)
