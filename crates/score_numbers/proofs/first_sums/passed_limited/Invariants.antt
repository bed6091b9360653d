use Rattle.std.proofs.Common.{ℕ, ◌-◌, ◌<◌, ◌≤◌, length}
use Rattle.score_numbers.specs.Sums.{IsUnlimitedSum}
use Rattle.score_numbers.proofs.first_sums.passed_limited.Given as goal

-- none of the numbers that were passed over has the sum
abbrev pub invariant-loop-passed : goal.invariant-loop-passed
invariant-loop-passed l =
    (l.passed ≤ length l.limits)
    × ((k : ℕ) → k < l.passed → IsUnlimitedSum l.limits l.first l.second k l.sum → ⊥)

abbrev pub decreases-loop-passed : goal.decreases-loop-passed
decreases-loop-passed l = length l.limits - l.passed
