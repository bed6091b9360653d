use Rattle.std.proofs.Common.{◌≡◌, ℤ, List, map, FitsSigned, w64, to_z, of_z, sym, ap, subst}
use Rattle.std.proofs.lemmas.Int.{to_z-of_z}
use Rattle.score_numbers.specs.Packing.{medium}
use Rattle.score_numbers.specs.FirstPositions.{IsFirstOf}
use Rattle.score_numbers.specs.Greatest.{IsGreatestOf}
use Rattle.score_numbers.specs.Sums.{HaveNumbers, number_at}
use Rattle.score_numbers.specs.WeighedSums.{AreLowWeighed, HasWeighedSum, HasWeighedSumAt}
use Rattle.score_numbers.proofs.LargestSums.{as_values, from_values}
use Rattle.score_numbers.proofs.weighed_sums.first_medium_weighed.Goals as goal

pub first_weighed-requires-clause-have : goal.first_weighed-requires-clause-have
first_weighed-requires-clause-have c = as_values (HaveNumbers c.args.positions) c.args.first.now c.args.second.now c.requires.have

pub first_weighed-requires-clause-low : goal.first_weighed-requires-clause-low
first_weighed-requires-clause-low c =
    let same : c.from.result ≡ medium.mark = cc in
    let mark : medium.mark ≡ to_z w64 (of_z w64 c.from.result) = ap (λ z. to_z w64 (of_z w64 z)) (sym same) in
    let L : ℤ → List ℤ → List ℤ → Type 0 = λ number. AreLowWeighed number c.args.scales c.args.weights c.args.positions in
    as_values (L (to_z w64 (of_z w64 c.from.result))) c.args.first.now c.args.second.now
    (subst (λ number. L number c.args.first.now c.args.second.now) mark c.requires.low)

pub returns : goal.returns
returns c =
    let same : c.from.result ≡ medium.mark = cc in
    let mark : to_z w64 (of_z w64 c.from.result) ≡ medium.mark = ap (λ z. to_z w64 (of_z w64 z)) same in
    let fits_sum : FitsSigned w64 c.args.sum = c.ranges.sum in
    let F : ℤ → ℤ → List ℤ → List ℤ → Type 0 = λ mark sum firsts seconds. IsFirstOf c.args.positions.at.now (λ position. HasWeighedSum mark c.args.scales c.args.weights firsts seconds (number_at c.args.positions position) sum) c.first_weighed.result in
    from_values (F medium.mark c.args.sum) c.args.first.now c.args.second.now
    (subst (λ sum. F medium.mark sum (map (λ x. x) c.args.first.now) (map (λ x. x) c.args.second.now)) (to_z-of_z w64 c.args.sum fits_sum)
    (subst (λ mark. F mark (to_z w64 (of_z w64 c.args.sum)) (map (λ x. x) c.args.first.now) (map (λ x. x) c.args.second.now)) mark c.first_weighed.ensures))
