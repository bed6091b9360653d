use Rattle.score_numbers.specs.Packing.{long}
use Rattle.score_numbers.specs.Sums.{AreLowSums, HasScaledSumAt, HaveNumbers}
use Rattle.score_numbers.specs.Greatest.{IsGreatestOf}
use Rattle.score_numbers.proofs.LargestSums.{as_proper, as_values, from_values}
use Rattle.score_numbers.proofs.sums.greatest_long.Goals as goal

pub greatest_sum-requires-clause-first : goal.greatest_sum-requires-clause-first
greatest_sum-requires-clause-first c = as_proper long c.args.first.now c.requires.first

pub greatest_sum-requires-clause-second : goal.greatest_sum-requires-clause-second
greatest_sum-requires-clause-second c = as_proper long c.args.second.now c.requires.second

pub greatest_sum-requires-clause-have : goal.greatest_sum-requires-clause-have
greatest_sum-requires-clause-have c = as_values (HaveNumbers c.args.positions) c.args.first.now c.args.second.now c.requires.have

pub greatest_sum-requires-clause-low : goal.greatest_sum-requires-clause-low
greatest_sum-requires-clause-low c =
    as_values (AreLowSums long.mark c.args.scales c.args.positions) c.args.first.now c.args.second.now c.requires.low

pub returns : goal.returns
returns c =
    from_values (λ firsts seconds.
    IsGreatestOf (HasScaledSumAt long.mark c.args.scales c.args.positions firsts seconds) c.greatest_sum.result)
    c.args.first.now c.args.second.now c.greatest_sum.ensures
