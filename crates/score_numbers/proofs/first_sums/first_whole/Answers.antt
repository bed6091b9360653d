use Rattle.std.proofs.Common.{◌≡◌, ℤ, List, FitsSigned, w64, rules}
use Rattle.std.proofs.lemmas.Int.{to_z-of_z}
use Rattle.score_numbers.specs.Entries.{no_candidate}
use Rattle.score_numbers.specs.FirstPositions.{IsFirstOf}
use Rattle.score_numbers.specs.Sums.{AreLowSums, HasScaledSum, HaveNumbers, number_at}
use Rattle.score_numbers.proofs.LargestSums.{as_values, from_values}
use Rattle.score_numbers.proofs.first_sums.first_whole.Goals as goal

pub first_scaled-requires-clause-rising : goal.first_scaled-requires-clause-rising
first_scaled-requires-clause-rising c = c.requires.rising

pub first_scaled-requires-clause-have : goal.first_scaled-requires-clause-have
first_scaled-requires-clause-have c = as_values (HaveNumbers c.args.positions) c.args.first.now c.args.second.now c.requires.have

pub first_scaled-requires-clause-low : goal.first_scaled-requires-clause-low
first_scaled-requires-clause-low c =
    as_values (AreLowSums no_candidate c.args.scales c.args.positions) c.args.first.now c.args.second.now c.requires.low

pub returns : goal.returns
returns c =
    let fits_sum : FitsSigned w64 c.args.sum = c.ranges.sum in
    from_values (λ firsts seconds. IsFirstOf c.args.positions.at.now (λ position. HasScaledSum no_candidate c.args.scales firsts seconds (number_at c.args.positions position) c.args.sum) c.first_scaled.result)
    c.args.first.now c.args.second.now (simp to_z-of_z at c.first_scaled.ensures)
