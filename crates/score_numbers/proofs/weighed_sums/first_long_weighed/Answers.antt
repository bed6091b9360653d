use Rattle.std.proofs.Common.{◌≡◌, ℤ, List, map, FitsSigned, w64, to_z, of_z, sym, ap, subst}
use Rattle.std.proofs.lemmas.Int.{to_z-of_z}
use Rattle.score_numbers.specs.Packing.{long}
use Rattle.score_numbers.specs.FirstPositions.{IsFirstOf}
use Rattle.score_numbers.specs.Greatest.{IsGreatestOf}
use Rattle.score_numbers.specs.Sums.{HaveNumbers, number_at}
use Rattle.score_numbers.specs.WeighedSums.{AreLowWeighed, HasWeighedSum, HasWeighedSumAt}
use Rattle.score_numbers.proofs.LargestSums.{as_values, from_values}
use Rattle.score_numbers.proofs.weighed_sums.first_long_weighed.Goals as goal

pub first_weighed-requires-clause-have : goal.first_weighed-requires-clause-have
first_weighed-requires-clause-have c = as_values (HaveNumbers c.args.positions) c.args.first.now c.args.second.now c.requires.have

pub first_weighed-requires-clause-low : goal.first_weighed-requires-clause-low
first_weighed-requires-clause-low c =
    as_values (AreLowWeighed long.mark c.args.scales c.args.weights c.args.positions) c.args.first.now c.args.second.now c.requires.low

pub returns : goal.returns
returns c =
    let fits_sum : FitsSigned w64 c.args.sum = c.ranges.sum in
    from_values (λ firsts seconds. IsFirstOf c.args.positions.at.now (λ position. HasWeighedSum long.mark c.args.scales c.args.weights firsts seconds (number_at c.args.positions position) c.args.sum) c.first_weighed.result)
    c.args.first.now c.args.second.now (simp to_z-of_z at c.first_weighed.ensures)
