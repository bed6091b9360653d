use Rattle.std.proofs.Common.{ℕ, ◌-◌, ◌<◌, ◌≤◌, length, map}
use Rattle.score_numbers.specs.Sums.{HasSum}
use Rattle.score_numbers.proofs.first_sums.passed_aligned.Given as goal

-- none of the numbers that were passed over has the sum
abbrev pub invariant-loop-passed : goal.invariant-loop-passed
invariant-loop-passed g l =
    (l.passed ≤ length l.first)
    × ((k : ℕ) → k < l.passed → HasSum g.N.Number.width (map g.N.Number.value l.first) (map g.N.Number.value l.second) k l.sum → ⊥)

abbrev pub decreases-loop-passed : goal.decreases-loop-passed
decreases-loop-passed g l = length l.first - l.passed
