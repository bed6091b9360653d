use Rattle.std.proofs.Common.{◌≡◌, ℤ, List, map, FitsSigned, w64, to_z, of_z, sym, ap, subst}
use Rattle.std.proofs.lemmas.Int.{to_z-of_z}
use Rattle.score_numbers.specs.Entries.{no_candidate}
use Rattle.score_numbers.specs.FirstPositions.{IsFirstOf}
use Rattle.score_numbers.specs.Greatest.{IsGreatestOf}
use Rattle.score_numbers.specs.Sums.{HaveNumbers, number_at}
use Rattle.score_numbers.specs.WeighedSums.{AreLowWeighed, HasWeighedSum, HasWeighedSumAt}
use Rattle.score_numbers.proofs.LargestSums.{as_values, from_values}
use Rattle.score_numbers.proofs.weighed_sums.greatest_whole_weighed.Goals as goal

pub greatest_weighed-requires-clause-have : goal.greatest_weighed-requires-clause-have
greatest_weighed-requires-clause-have c = as_values (HaveNumbers c.args.positions) c.args.first.now c.args.second.now c.requires.have

pub greatest_weighed-requires-clause-low : goal.greatest_weighed-requires-clause-low
greatest_weighed-requires-clause-low c =
    as_values (AreLowWeighed no_candidate c.args.scales c.args.weights c.args.positions) c.args.first.now c.args.second.now c.requires.low

pub returns : goal.returns
returns c =
    from_values (λ firsts seconds. IsGreatestOf (HasWeighedSumAt no_candidate c.args.scales c.args.weights c.args.positions firsts seconds) c.greatest_weighed.result)
    c.args.first.now c.args.second.now c.greatest_weighed.ensures
