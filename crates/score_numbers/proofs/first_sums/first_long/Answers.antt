use Rattle.std.proofs.Common.{ℤ, List, FitsSigned, w64}
use Rattle.std.proofs.lemmas.Int.{to_z-of_z}
use Rattle.score_numbers.specs.FirstPositions.{IsFirstOf}
use Rattle.score_numbers.specs.Packing.{long}
use Rattle.score_numbers.specs.Sums.{AreLowSums, HasScaledSum, HaveNumbers, number_at}
use Rattle.score_numbers.proofs.LargestSums.{as_proper, as_values, from_values}
use Rattle.score_numbers.proofs.first_sums.first_long.Goals as goal

pub first_sum-requires-clause-first : goal.first_sum-requires-clause-first
first_sum-requires-clause-first c = as_proper long c.args.first.now c.requires.first

pub first_sum-requires-clause-second : goal.first_sum-requires-clause-second
first_sum-requires-clause-second c = as_proper long c.args.second.now c.requires.second

pub first_sum-requires-clause-have : goal.first_sum-requires-clause-have
first_sum-requires-clause-have c = as_values (HaveNumbers c.args.positions) c.args.first.now c.args.second.now c.requires.have

pub first_sum-requires-clause-low : goal.first_sum-requires-clause-low
first_sum-requires-clause-low c = as_values (AreLowSums long.mark c.args.scales c.args.positions) c.args.first.now c.args.second.now c.requires.low

pub returns : goal.returns
returns c =
    let fits_sum : FitsSigned w64 c.args.sum = c.ranges.sum in
    let F : List ℤ → List ℤ → Type 0 = λ firsts seconds. IsFirstOf c.args.positions.at.now (λ position. HasScaledSum long.mark c.args.scales firsts seconds (number_at c.args.positions position) c.args.sum) c.first_sum.result in
    from_values F c.args.first.now c.args.second.now (simp to_z-of_z at c.first_sum.ensures)
