use Rattle.std.proofs.Common.{◌≡◌, ℕ, ◌<◌, ℤ, length, map, get_or, FitsSigned, w64, to_z, of_z, sym, subst, ◌∙◌, arith, rules}
use Rattle.std.proofs.lemmas.Int.{to_z-of_z}
use Rattle.std.proofs.lemmas.List.{length-map}
use Rattle.score_numbers.specs.FirstPositions.{IsFirstOf}
use Rattle.score_numbers.specs.Sums.{AreLowSums, HasScaledSum, HasSum, number_at}
use Rattle.score_numbers.proofs.FirstSums.{none_aligned}
use Rattle.score_numbers.proofs.first_sums.first_sum.Given.{Over}
use Rattle.score_numbers.proofs.first_sums.first_sum.Goals as goal
use Rattle.score_numbers.proofs.first_sums.first_sum.Goals.{After-wide-mark}

mark_is : (g : Over) (c : After-wide-mark g) → to_z w64 (of_z w64 c.wide-mark.result) ≡ g.N.Number.width.mark
mark_is g c = to_z-of_z w64 c.wide-mark.result (search rules) ∙ c.wide-mark.ensures ∙ c.mark.ensures

pub first_scaled-requires-clause-have : goal.first_scaled-requires-clause-have
first_scaled-requires-clause-have g c = c.requires.have

pub first_scaled-requires-clause-rising : goal.first_scaled-requires-clause-rising
first_scaled-requires-clause-rising g c = c.requires.rising

pub passed_aligned-passed-requires-clause-first : goal.passed_aligned-passed-requires-clause-first
passed_aligned-passed-requires-clause-first g c = c.requires.first

pub passed_aligned-passed-requires-clause-second : goal.passed_aligned-passed-requires-clause-second
passed_aligned-passed-requires-clause-second g c = c.requires.second

pub first_scaled-requires-2-clause-have : goal.first_scaled-requires-2-clause-have
first_scaled-requires-2-clause-have g c = c.requires.have

pub first_scaled-requires-2-clause-rising : goal.first_scaled-requires-2-clause-rising
first_scaled-requires-2-clause-rising g c = c.requires.rising

pub first_scaled-requires-clause-low : goal.first_scaled-requires-clause-low
first_scaled-requires-clause-low g c =
    let at = (goal.at.first_scaled-requires-clause-low g c).After-wide-mark in
    subst (λ mark. AreLowSums mark c.args.scales c.args.positions (map g.N.Number.value c.args.first.now) (map g.N.Number.value c.args.second.now)) (sym (mark_is g at)) c.requires.low

pub returns-then-not-are_plain : goal.returns-then-not-are_plain
returns-then-not-are_plain g c =
    let at = (goal.at.returns-then-not-are_plain g c).After-wide-mark in
    let fits_sum : FitsSigned w64 c.args.sum = c.ranges.sum in
    let F : ℤ → ℤ → Type 0 = λ mark sum. IsFirstOf c.args.positions.at.now (λ position. HasScaledSum mark c.args.scales (map g.N.Number.value c.args.first.now) (map g.N.Number.value c.args.second.now) (number_at c.args.positions position) sum) c.first_scaled.result in
    subst (F g.N.Number.width.mark) (to_z-of_z w64 c.args.sum fits_sum) (subst (λ mark. F mark (to_z w64 (of_z w64 c.args.sum))) (mark_is g at) c.first_scaled.ensures)

pub first_scaled-requires-2-clause-low : goal.first_scaled-requires-2-clause-low
first_scaled-requires-2-clause-low g c =
    let at = (goal.at.first_scaled-requires-2-clause-low g c).After-wide-mark in
    subst (λ mark. AreLowSums mark c.args.scales c.args.positions (map g.N.Number.value c.args.first.now) (map g.N.Number.value c.args.second.now)) (sym (mark_is g at)) c.requires.low

pub first_scaled-requires-2-clause-passed : goal.first_scaled-requires-2-clause-passed
first_scaled-requires-2-clause-passed g c =
    let at = (goal.at.first_scaled-requires-2-clause-passed g c).After-wide-mark in
    let width = g.N.Number.width in
    let firsts = map g.N.Number.value c.args.first.now in
    let seconds = map g.N.Number.value c.args.second.now in
    let passed = c.passed_aligned-passed.result in
    let fits_sum : FitsSigned w64 c.args.sum = c.ranges.sum in
    let plain = c.are_plain.ensures.0 c.if-not-are_plain.false in
    let count = length-map c.args.first.now g.N.Number.value in
    let as_many : length firsts ≡ length c.args.positions.at.now = omega (arith, count) in
    let none : (k : ℕ) → k < passed → HasSum width firsts seconds k c.args.sum → ⊥ = simp to_z-of_z at c.passed_aligned-passed.ensures.none in
    let N : ℤ → ℤ → Type 0 = λ mark sum. (k : ℕ) → k < passed → HasScaledSum mark c.args.scales firsts seconds (number_at c.args.positions (get_or c.args.positions.at.now k 0)) sum → ⊥ in
    subst (λ mark. N mark (to_z w64 (of_z w64 c.args.sum))) (sym (mark_is g at)) (subst (N width.mark) (sym (to_z-of_z w64 c.args.sum fits_sum))
    (none_aligned c.args.positions c.args.scales plain.0 plain.1 firsts seconds c.requires.have width passed c.args.sum c.requires.rising as_many (omega (arith, count, c.passed_aligned-passed.ensures.within)) none))

pub returns : goal.returns
returns g c =
    let at = (goal.at.returns g c).After-wide-mark in
    let fits_sum : FitsSigned w64 c.args.sum = c.ranges.sum in
    let F : ℤ → ℤ → Type 0 = λ mark sum. IsFirstOf c.args.positions.at.now (λ position. HasScaledSum mark c.args.scales (map g.N.Number.value c.args.first.now) (map g.N.Number.value c.args.second.now) (number_at c.args.positions position) sum) c.first_scaled-2.result in
    subst (F g.N.Number.width.mark) (to_z-of_z w64 c.args.sum fits_sum) (subst (λ mark. F mark (to_z w64 (of_z w64 c.args.sum))) (mark_is g at) c.first_scaled-2.ensures)
