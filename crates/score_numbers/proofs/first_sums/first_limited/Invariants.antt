use Rattle.std.proofs.Common.{ℕ, ◌<◌}
use Rattle.score_numbers.specs.Sums.{IsUnlimitedSum}
use Rattle.score_numbers.proofs.first_sums.first_limited.Given as goal

-- none of the first numbers has the sum
abbrev pub invariant-loop-k : goal.invariant-loop-k
invariant-loop-k l = (k : ℕ) → k < l.k → IsUnlimitedSum l.limits l.first l.second k l.sum → ⊥
