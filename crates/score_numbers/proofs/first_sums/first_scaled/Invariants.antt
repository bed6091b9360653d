use Rattle.std.proofs.Common.{map}
use Rattle.score_numbers.specs.Sums.{HasScaledSum, number_at}
use Rattle.score_numbers.proofs.FirstFound.{HoldsOfNone}
use Rattle.score_numbers.proofs.first_sums.first_scaled.Given as goal

-- at the first positions the sum is another one
abbrev pub invariant-loop-index : goal.invariant-loop-index
invariant-loop-index g l =
    HoldsOfNone l.positions.at.now
    (λ position. HasScaledSum l.mark l.scales (map g.N.Number.value l.first) (map g.N.Number.value l.second) (number_at l.positions position) l.sum)
    l.index
