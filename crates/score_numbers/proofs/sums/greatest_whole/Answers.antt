use Rattle.score_numbers.specs.Entries.{no_candidate}
use Rattle.score_numbers.specs.Sums.{AreLowSums, HasScaledSumAt, HaveNumbers}
use Rattle.score_numbers.specs.Greatest.{IsGreatestOf}
use Rattle.score_numbers.proofs.LargestSums.{as_values, from_values}
use Rattle.score_numbers.proofs.sums.greatest_whole.Goals as goal

pub greatest_scaled-requires-clause-have : goal.greatest_scaled-requires-clause-have
greatest_scaled-requires-clause-have c = as_values (HaveNumbers c.args.positions) c.args.first.now c.args.second.now c.requires.have

pub greatest_scaled-requires-clause-low : goal.greatest_scaled-requires-clause-low
greatest_scaled-requires-clause-low c =
    as_values (AreLowSums no_candidate c.args.scales c.args.positions) c.args.first.now c.args.second.now c.requires.low

pub returns : goal.returns
returns c =
    from_values (λ firsts seconds.
    IsGreatestOf (HasScaledSumAt no_candidate c.args.scales c.args.positions firsts seconds) c.greatest_scaled.result)
    c.args.first.now c.args.second.now c.greatest_scaled.ensures
