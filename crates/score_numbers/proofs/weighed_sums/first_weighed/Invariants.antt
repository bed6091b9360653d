use Rattle.std.proofs.Common.{map}
use Rattle.score_numbers.specs.Sums.{number_at}
use Rattle.score_numbers.specs.WeighedSums.{HasWeighedSum}
use Rattle.score_numbers.proofs.FirstFound.{HoldsOfNone}
use Rattle.score_numbers.proofs.weighed_sums.first_weighed.Given as goal

-- at the first positions the sum is another one
abbrev pub invariant-loop-position : goal.invariant-loop-position
invariant-loop-position g l =
    HoldsOfNone l.positions.at.now
    (λ position. HasWeighedSum l.mark l.scales l.weights (map g.N.Number.value l.first) (map g.N.Number.value l.second) (number_at l.positions position) l.sum)
    l.position-index
