use Rattle.std.proofs.Common.{◌≡◌, ◌↔◌, ◌+◌, ◌≤◌, ℕ, ◌+ℤ◌, ◌*ℤ◌, nat_abs, IsTrue, sym, subst, Some, map, get_or, slice_get, FitsSigned, w64, arith, rules, below_more}
use Rattle.std.specs.Bool.{Decides}
use Rattle.std.proofs.lemmas.Int.{to_z-of_z}
use Rattle.std.proofs.lemmas.List.Elements.{Contains-get_or}
use Rattle.adp_model.specs.ProblemFields.{greatest_score}
use Rattle.score_numbers.specs.Sums.{number_at}
use Rattle.score_numbers.specs.WeighedSums.{HasWeighedSum, weight_at}
use Rattle.score_numbers.proofs.FirstFound.{HoldsOfNone, found_first, found_none}
use Rattle.score_numbers.proofs.WeighedPositions.{made_weighed, weighed_low}
use Rattle.score_numbers.proofs.LargestSums.{below_values, read_number, upto_values}
use Rattle.score_numbers.proofs.weighed_sums.first_weighed.Given.{Over}
use Rattle.score_numbers.proofs.weighed_sums.first_weighed.Goals as goal
use Rattle.score_numbers.proofs.weighed_sums.first_weighed.Goals.{After-wide-behind, After-make}

pub overflow_sub-number : goal.overflow_sub-number
overflow_sub-number g c =
    let index = c.loop-position.position-index in
    c.requires.have.from_first (get_or c.args.positions.at.now index 0) (Contains-get_or c.args.positions.at.now index 0 c.loop-position-test.true)

pub offset_bounds-first-number : goal.offset_bounds-first-number
offset_bounds-first-number g c =
    let position = get_or c.args.positions.at.now c.loop-position.position-index 0 in
    let stands = Contains-get_or c.args.positions.at.now c.loop-position.position-index 0 c.loop-position-test.true in
    upto_values g.N.Number.value c.args.first.now (number_at c.args.positions position) (c.requires.have.before position stands)

pub offset_bounds-second-number : goal.offset_bounds-second-number
offset_bounds-second-number g c =
    let position = get_or c.args.positions.at.now c.loop-position.position-index 0 in
    let stands = Contains-get_or c.args.positions.at.now c.loop-position.position-index 0 c.loop-position-test.true in
    upto_values g.N.Number.value c.args.second.now (number_at c.args.positions position) (c.requires.have.behind position stands)

pub bounds-first-number : goal.bounds-first-number
bounds-first-number g c =
    let position = get_or c.args.positions.at.now c.loop-position.position-index 0 in
    let stands = Contains-get_or c.args.positions.at.now c.loop-position.position-index 0 c.loop-position-test.true in
    below_values g.N.Number.value c.args.first.now (number_at c.args.positions position) (c.requires.have.before position stands)

pub bounds-second-number : goal.bounds-second-number
bounds-second-number g c =
    let position = get_or c.args.positions.at.now c.loop-position.position-index 0 in
    let stands = Contains-get_or c.args.positions.at.now c.loop-position.position-index 0 c.loop-position-test.true in
    below_values g.N.Number.value c.args.second.now (number_at c.args.positions position) (c.requires.have.behind position stands)

there : (g : Over) (c : After-wide-behind g) → slice_get (map g.N.Number.value c.args.first.now) (number_at c.args.positions (get_or c.args.positions.at.now c.loop-position.position-index 0)) ≡ Some c.wide-before.result
there g c =
    let position = get_or c.args.positions.at.now c.loop-position.position-index 0 in
    let stands = Contains-get_or c.args.positions.at.now c.loop-position.position-index 0 c.loop-position-test.true in
    read_number g.N.Number.value c.args.first.now (number_at c.args.positions position) c.index-first-number.result c.wide-before.result (c.requires.have.before position stands) c.index-first-number.is c.wide-before.ensures

behind : (g : Over) (c : After-wide-behind g) → slice_get (map g.N.Number.value c.args.second.now) (number_at c.args.positions (get_or c.args.positions.at.now c.loop-position.position-index 0)) ≡ Some c.wide-behind.result
behind g c =
    let position = get_or c.args.positions.at.now c.loop-position.position-index 0 in
    let stands = Contains-get_or c.args.positions.at.now c.loop-position.position-index 0 c.loop-position-test.true in
    read_number g.N.Number.value c.args.second.now (number_at c.args.positions position) c.index-second-number.result c.wide-behind.result (c.requires.have.behind position stands) c.index-second-number.is c.wide-behind.ensures

pub at-requires : goal.at-requires
at-requires g c =
    let position = get_or c.args.positions.at.now c.loop-position.position-index 0 in
    c.requires.weights position (Contains-get_or c.args.positions.at.now c.loop-position.position-index 0 c.loop-position-test.true)

pub make-requires : goal.make-requires
make-requires g c =
    let at = (goal.at.make-requires g c).After-wide-behind in
    let position = get_or c.args.positions.at.now c.loop-position.position-index 0 in
    let stands = Contains-get_or c.args.positions.at.now c.loop-position.position-index 0 c.loop-position-test.true in
    let number = number_at c.args.positions position in
    let a = c.wide-before.result in
    let b = c.wide-behind.result in
    let fits_a : FitsSigned w64 a = search rules in
    let fits_b : FitsSigned w64 b = search rules in
    let fits_w : FitsSigned w64 c.at.result = search rules in
    let fits_mark : FitsSigned w64 c.args.mark = c.ranges.mark in
    let low = weighed_low c.args.mark c.args.scales c.args.weights (map g.N.Number.value c.args.first.now) (map g.N.Number.value c.args.second.now) number a b (there g at) (behind g at) (λ sum it. c.requires.low position sum stands it) in
    let low' : (a ≡ c.args.mark → ⊥) → (b ≡ c.args.mark → ⊥) → nat_abs (c.args.scales.before *ℤ a) + nat_abs (c.args.weights.factor *ℤ c.at.result) + nat_abs (c.args.scales.behind *ℤ b) ≤ greatest_score =
    subst (λ w. (a ≡ c.args.mark → ⊥) → (b ≡ c.args.mark → ⊥) → nat_abs (c.args.scales.before *ℤ a) + nat_abs (c.args.weights.factor *ℤ w) + nat_abs (c.args.scales.behind *ℤ b) ≤ greatest_score) (sym c.at.ensures) low in
    simp to_z-of_z (record { low = low' })

tested : (g : Over) (c : After-make g) → Decides c.make.result (HasWeighedSum c.args.mark c.args.scales c.args.weights (map g.N.Number.value c.args.first.now) (map g.N.Number.value c.args.second.now)
    (number_at c.args.positions (get_or c.args.positions.at.now c.loop-position.position-index 0)) c.args.sum)
tested g c =
    let position = get_or c.args.positions.at.now c.loop-position.position-index 0 in
    let stands = Contains-get_or c.args.positions.at.now c.loop-position.position-index 0 c.loop-position-test.true in
    let number = number_at c.args.positions position in
    let a = c.wide-before.result in
    let b = c.wide-behind.result in
    let there : slice_get (map g.N.Number.value c.args.first.now) number ≡ Some a =
    read_number g.N.Number.value c.args.first.now number c.index-first-number.result a (c.requires.have.before position stands) c.index-first-number.is c.wide-before.ensures in
    let behind : slice_get (map g.N.Number.value c.args.second.now) number ≡ Some b =
    read_number g.N.Number.value c.args.second.now number c.index-second-number.result b (c.requires.have.behind position stands) c.index-second-number.is c.wide-behind.ensures in
    let fits_a : FitsSigned w64 a = search rules in
    let fits_b : FitsSigned w64 b = search rules in
    let fits_mark : FitsSigned w64 c.args.mark = c.ranges.mark in
    let fits_sum : FitsSigned w64 c.args.sum = c.ranges.sum in
    let fits_w : FitsSigned w64 c.at.result = search rules in
    let exact : (a ≡ c.args.mark → ⊥) → (b ≡ c.args.mark → ⊥) → IsTrue c.make.result ↔ (c.args.sum ≡ (((c.args.scales.before *ℤ a) +ℤ (c.args.weights.factor *ℤ c.at.result)) +ℤ (c.args.scales.behind *ℤ b))) = simp to_z-of_z at c.make.ensures.sum in
    made_weighed c.args.mark c.args.scales c.args.weights (map g.N.Number.value c.args.first.now) (map g.N.Number.value c.args.second.now) number a b there behind c.args.sum c.make.result
    (simp to_z-of_z at c.make.ensures.apart)
    (subst (λ w. (a ≡ c.args.mark → ⊥) → (b ≡ c.args.mark → ⊥) → IsTrue c.make.result ↔ (c.args.sum ≡ (((c.args.scales.before *ℤ a) +ℤ (c.args.weights.factor *ℤ w)) +ℤ (c.args.scales.behind *ℤ b)))) c.at.ensures exact)

pub returns-then-make : goal.returns-then-make
returns-then-make g c =
    let at = (goal.at.returns-then-make g c).After-make in
    let fits_mark : FitsSigned w64 c.args.mark = c.ranges.mark in
    let fits_sum : FitsSigned w64 c.args.sum = c.ranges.sum in
    let H : ℕ → Type 0 = λ position. HasWeighedSum c.args.mark c.args.scales c.args.weights (map g.N.Number.value c.args.first.now) (map g.N.Number.value c.args.second.now) (number_at c.args.positions position) c.args.sum in
    let none : HoldsOfNone c.args.positions.at.now H c.loop-position.position-index = simp to_z-of_z at c.loop-position.invariant in
    found_first c.args.positions.at.now H c.loop-position.position-index c.requires.rising c.loop-position-test.true none ((tested g at).0 c.if-make.true)

pub loop-position-preserved : goal.loop-position-preserved
loop-position-preserved g c =
    let at = (goal.at.loop-position-preserved g c).After-make in
    let fits_mark : FitsSigned w64 c.args.mark = c.ranges.mark in
    let fits_sum : FitsSigned w64 c.args.sum = c.ranges.sum in
    below_more _ _ c.loop-position.invariant
    (simp to_z-of_z (λ it. absurd (let yes = (tested g at).1 it in let no = c.if-make.false in cc)))

pub returns : goal.returns
returns g c =
    let fits_mark : FitsSigned w64 c.args.mark = c.ranges.mark in
    let fits_sum : FitsSigned w64 c.args.sum = c.ranges.sum in
    let H : ℕ → Type 0 = λ position. HasWeighedSum c.args.mark c.args.scales c.args.weights (map g.N.Number.value c.args.first.now) (map g.N.Number.value c.args.second.now) (number_at c.args.positions position) c.args.sum in
    let none : HoldsOfNone c.args.positions.at.now H c.loop-position.position-index = simp to_z-of_z at c.loop-position.invariant in
    found_none c.args.positions.at.now H c.loop-position.position-index (omega (arith, c.loop-position-test.false)) none
