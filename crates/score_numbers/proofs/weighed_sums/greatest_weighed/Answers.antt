use Rattle.std.proofs.Common.{◌≡◌, ◌+◌, ◌≤◌, ◌⊎◌, ℕ, ℤ, ◌+ℤ◌, ◌*ℤ◌, nat_abs, Some, length, map, get_or, slice_get, FitsSigned, w64, to_z, of_z, refl, sym, subst, inl, inr, ◌∙◌, arith, rules}
use Rattle.std.specs.Int.{int_max}
use Rattle.std.proofs.lemmas.Int.{ints, to_z-of_z}
use Rattle.std.proofs.lemmas.List.Elements.{Contains-get_or}
use Rattle.adp_model.specs.ProblemFields.{greatest_score}
use Rattle.score_numbers.specs.Entries.{no_candidate}
use Rattle.score_numbers.specs.Greatest.{IsGreatestOf}
use Rattle.score_numbers.specs.Sums.{number_at}
use Rattle.score_numbers.specs.WeighedSums.{HasWeighedSum, weight_at}
use Rattle.score_numbers.proofs.Greatest.{HasBefore}
use Rattle.score_numbers.proofs.LargestSums.{AtPosition, IsLargest, SomePosition, all_scattered, below_values, largest_entry, least_entry, mark_cases, nothing_yet, read_number, upto_values}
use Rattle.score_numbers.proofs.WeighedPositions.{weighed_low, weighed_marked, weighed_scored}
use Rattle.score_numbers.proofs.weighed_sums.greatest_weighed.Goals as goal

pub loop-position-init : goal.loop-position-init
loop-position-init g c =
    let Sum : ℕ → ℤ → Type 0 = HasWeighedSum c.args.mark c.args.scales c.args.weights (map g.N.Number.value c.args.first.now) (map g.N.Number.value c.args.second.now) in
    let fits_mark : FitsSigned w64 c.args.mark = c.ranges.mark in
    simp to_z-of_z (nothing_yet least_entry (AtPosition c.args.positions Sum) no_candidate (omega (arith, ints)))

pub overflow_sub-number : goal.overflow_sub-number
overflow_sub-number g c = c.requires.have.from_first (get_or c.args.positions.at.now c.loop-position.position-index 0) (Contains-get_or c.args.positions.at.now c.loop-position.position-index 0 c.loop-position-test.true)

pub offset_bounds-first-number : goal.offset_bounds-first-number
offset_bounds-first-number g c =
    let position = get_or c.args.positions.at.now c.loop-position.position-index 0 in
    let stands = Contains-get_or c.args.positions.at.now c.loop-position.position-index 0 c.loop-position-test.true in
    upto_values g.N.Number.value c.args.first.now (number_at c.args.positions position) (c.requires.have.before position stands)

pub offset_bounds-second-number : goal.offset_bounds-second-number
offset_bounds-second-number g c =
    let position = get_or c.args.positions.at.now c.loop-position.position-index 0 in
    let stands = Contains-get_or c.args.positions.at.now c.loop-position.position-index 0 c.loop-position-test.true in
    upto_values g.N.Number.value c.args.second.now (number_at c.args.positions position) (c.requires.have.behind position stands)

pub bounds-first-number : goal.bounds-first-number
bounds-first-number g c =
    let position = get_or c.args.positions.at.now c.loop-position.position-index 0 in
    let stands = Contains-get_or c.args.positions.at.now c.loop-position.position-index 0 c.loop-position-test.true in
    below_values g.N.Number.value c.args.first.now (number_at c.args.positions position) (c.requires.have.before position stands)

pub bounds-second-number : goal.bounds-second-number
bounds-second-number g c =
    let position = get_or c.args.positions.at.now c.loop-position.position-index 0 in
    let stands = Contains-get_or c.args.positions.at.now c.loop-position.position-index 0 c.loop-position-test.true in
    below_values g.N.Number.value c.args.second.now (number_at c.args.positions position) (c.requires.have.behind position stands)

pub at-requires : goal.at-requires
at-requires g c =
    let position = get_or c.args.positions.at.now c.loop-position.position-index 0 in
    c.requires.weights position (Contains-get_or c.args.positions.at.now c.loop-position.position-index 0 c.loop-position-test.true)

pub sum-sum-requires : goal.sum-sum-requires
sum-sum-requires g c =
    let positions = c.args.positions in
    let position = get_or positions.at.now c.loop-position.position-index 0 in
    let stands = Contains-get_or positions.at.now c.loop-position.position-index 0 c.loop-position-test.true in
    let number = number_at positions position in
    let a = c.wide-before.result in
    let b = c.wide-behind.result in
    let there : slice_get (map g.N.Number.value c.args.first.now) number ≡ Some a =
    read_number g.N.Number.value c.args.first.now number c.index-first-number.result a (c.requires.have.before position stands) c.index-first-number.is c.wide-before.ensures in
    let behind : slice_get (map g.N.Number.value c.args.second.now) number ≡ Some b =
    read_number g.N.Number.value c.args.second.now number c.index-second-number.result b (c.requires.have.behind position stands) c.index-second-number.is c.wide-behind.ensures in
    let fits_a : FitsSigned w64 a = search rules in
    let fits_b : FitsSigned w64 b = search rules in
    let fits_w : FitsSigned w64 c.at.result = search rules in
    let fits_mark : FitsSigned w64 c.args.mark = c.ranges.mark in
    let low = weighed_low c.args.mark c.args.scales c.args.weights (map g.N.Number.value c.args.first.now) (map g.N.Number.value c.args.second.now) number a b there behind (λ sum it. c.requires.low position sum stands it) in
    let low' : (a ≡ c.args.mark → ⊥) → (b ≡ c.args.mark → ⊥) → nat_abs (c.args.scales.before *ℤ a) + nat_abs (c.args.weights.factor *ℤ c.at.result) + nat_abs (c.args.scales.behind *ℤ b) ≤ greatest_score =
    subst (λ w. (a ≡ c.args.mark → ⊥) → (b ≡ c.args.mark → ⊥) → nat_abs (c.args.scales.before *ℤ a) + nat_abs (c.args.weights.factor *ℤ w) + nat_abs (c.args.scales.behind *ℤ b) ≤ greatest_score) (sym c.at.ensures) low in
    simp to_z-of_z (record { low = low' })

pub loop-position-preserved : goal.loop-position-preserved
loop-position-preserved g c =
    let positions = c.args.positions in
    let position = get_or positions.at.now c.loop-position.position-index 0 in
    let stands = Contains-get_or positions.at.now c.loop-position.position-index 0 c.loop-position-test.true in
    let number = number_at positions position in
    let firsts = map g.N.Number.value c.args.first.now in
    let seconds = map g.N.Number.value c.args.second.now in
    let scales = c.args.scales in
    let mark = c.args.mark in
    let a = c.wide-before.result in
    let b = c.wide-behind.result in
    let there : slice_get firsts number ≡ Some a =
    read_number g.N.Number.value c.args.first.now number c.index-first-number.result a (c.requires.have.before position stands) c.index-first-number.is c.wide-before.ensures in
    let behind : slice_get seconds number ≡ Some b =
    read_number g.N.Number.value c.args.second.now number c.index-second-number.result b (c.requires.have.behind position stands) c.index-second-number.is c.wide-behind.ensures in
    let fits_a : FitsSigned w64 a = search rules in
    let fits_b : FitsSigned w64 b = search rules in
    let fits_w : FitsSigned w64 c.at.result = search rules in
    let fits_mark : FitsSigned w64 mark = c.ranges.mark in
    let fits_entry : FitsSigned w64 c.sum-sum.result = search rules in
    let fits_new : FitsSigned w64 c.max-greatest.result = search rules in
    let old = to_z w64 c.loop-position.greatest-bits in
    let new = to_z w64 (of_z w64 c.max-greatest.result) in
    let max : c.max-greatest.result ≡ int_max old c.sum-sum.result = simp to_z-of_z at c.max-greatest.ensures.value in
    let max_new : new ≡ int_max old c.sum-sum.result = to_z-of_z w64 c.max-greatest.result fits_new ∙ max in
    let marked : (a ≡ mark) ⊎ (b ≡ mark) → c.sum-sum.result ≡ no_candidate = simp to_z-of_z at c.sum-sum.ensures.marked in
    let read : (a ≡ mark → ⊥) → (b ≡ mark → ⊥) → c.sum-sum.result ≡ (((scales.before *ℤ a) +ℤ (c.args.weights.factor *ℤ c.at.result)) +ℤ (scales.behind *ℤ b)) = simp to_z-of_z at c.sum-sum.ensures.scored in
    let scored : (a ≡ mark → ⊥) → (b ≡ mark → ⊥) → c.sum-sum.result ≡ (((scales.before *ℤ a) +ℤ (c.args.weights.factor *ℤ weight_at c.args.weights number)) +ℤ (scales.behind *ℤ b)) =
    subst (λ w. (a ≡ mark → ⊥) → (b ≡ mark → ⊥) → c.sum-sum.result ≡ (((scales.before *ℤ a) +ℤ (c.args.weights.factor *ℤ w)) +ℤ (scales.behind *ℤ b))) c.at.ensures read in
    let before : IsLargest least_entry (HasBefore (AtPosition positions (HasWeighedSum mark scales c.args.weights firsts seconds)) c.loop-position.position-index) old = simp to_z-of_z at c.loop-position.invariant in
    let at : ℕ → ℕ = λ k. number_at positions (get_or positions.at.now k 0) in
    let after : IsLargest least_entry (HasBefore (AtPosition positions (HasWeighedSum mark scales c.args.weights firsts seconds)) (c.loop-position.position-index + 1)) new =
    elim (mark_cases mark a b) [
      | inl e ↦ weighed_marked mark scales c.args.weights firsts seconds at c.loop-position.position-index old new a b c.sum-sum.result max_new there behind before e (marked e)
      | inr e ↦
          weighed_scored mark scales c.args.weights firsts seconds at c.loop-position.position-index old new a b c.sum-sum.result max_new there behind before e.0 e.1 (scored e.0 e.1)
          (weighed_low mark scales c.args.weights firsts seconds number a b there behind (λ sum it. c.requires.low position sum stands it) e.0 e.1)
    ] in
    simp (to_z-of_z w64 c.args.mark) after

pub returns : goal.returns
returns g c =
    let Sum : ℕ → ℤ → Type 0 = HasWeighedSum c.args.mark c.args.scales c.args.weights (map g.N.Number.value c.args.first.now) (map g.N.Number.value c.args.second.now) in
    let all : c.loop-position.position-index ≡ length c.args.positions.at.now = omega (arith, c.loop-position-test.false, c.loop-position.auto.position-index-end) in
    let greatest = to_z w64 c.loop-position.greatest-bits in
    let fits_mark : FitsSigned w64 c.args.mark = c.ranges.mark in
    let fits : FitsSigned w64 greatest = search rules in
    let before : IsLargest least_entry (HasBefore (AtPosition c.args.positions Sum) c.loop-position.position-index) greatest = simp to_z-of_z at c.loop-position.invariant in
    subst (IsGreatestOf (SomePosition c.args.positions Sum)) (sym c.score_of.ensures)
    (largest_entry (SomePosition c.args.positions Sum) greatest fits (all_scattered c.args.positions Sum least_entry c.loop-position.position-index greatest all before))
