use Rattle.std.proofs.Common.{◌≡◌, ◌+◌, ◌⊎◌, ℕ, ℤ, ◌+ℤ◌, ◌*ℤ◌, Some, length, map, get_or, slice_get, FitsSigned, w64, to_z, of_z, refl, sym, subst, inl, inr, ◌∙◌, arith, rules}
use Rattle.std.specs.Int.{int_max}
use Rattle.std.proofs.lemmas.Int.{ints, to_z-of_z}
use Rattle.std.proofs.lemmas.List.Elements.{Contains-get_or}
use Rattle.score_numbers.specs.Entries.{no_candidate}
use Rattle.score_numbers.specs.Greatest.{IsGreatestOf}
use Rattle.score_numbers.specs.Sums.{HasScaledSum, number_at}
use Rattle.score_numbers.proofs.Greatest.{HasBefore}
use Rattle.score_numbers.proofs.LargestSums.{AtPosition, IsLargest, SomePosition, all_scattered, below_values, largest_entry, least_entry, mark_cases, nothing_yet, read_number, scaled_marked, scaled_scored, upto_values}
use Rattle.score_numbers.proofs.sums.greatest_scaled.Goals as goal

pub loop-position-init : goal.loop-position-init
loop-position-init g c =
    let Sum : ℕ → ℤ → Type 0 = HasScaledSum c.args.mark c.args.scales (map g.N.Number.value c.args.first.now) (map g.N.Number.value c.args.second.now) in
    let fits_mark : FitsSigned w64 c.args.mark = c.ranges.mark in
    simp to_z-of_z (nothing_yet least_entry (AtPosition c.args.positions Sum) no_candidate (omega (arith, ints)))

pub overflow_sub-number : goal.overflow_sub-number
overflow_sub-number g c = c.requires.have.from_first (get_or c.args.positions.at.now c.loop-position.position-index 0) (Contains-get_or c.args.positions.at.now c.loop-position.position-index 0 c.loop-position-test.true)

pub offset_bounds-first-number : goal.offset_bounds-first-number
offset_bounds-first-number g c =
    let position = get_or c.args.positions.at.now c.loop-position.position-index 0 in
    let stands = Contains-get_or c.args.positions.at.now c.loop-position.position-index 0 c.loop-position-test.true in
    upto_values g.N.Number.value c.args.first.now (number_at c.args.positions position) (c.requires.have.before position stands)

pub offset_bounds-second-number : goal.offset_bounds-second-number
offset_bounds-second-number g c =
    let position = get_or c.args.positions.at.now c.loop-position.position-index 0 in
    let stands = Contains-get_or c.args.positions.at.now c.loop-position.position-index 0 c.loop-position-test.true in
    upto_values g.N.Number.value c.args.second.now (number_at c.args.positions position) (c.requires.have.behind position stands)

pub bounds-first-number : goal.bounds-first-number
bounds-first-number g c =
    let position = get_or c.args.positions.at.now c.loop-position.position-index 0 in
    let stands = Contains-get_or c.args.positions.at.now c.loop-position.position-index 0 c.loop-position-test.true in
    below_values g.N.Number.value c.args.first.now (number_at c.args.positions position) (c.requires.have.before position stands)

pub bounds-second-number : goal.bounds-second-number
bounds-second-number g c =
    let position = get_or c.args.positions.at.now c.loop-position.position-index 0 in
    let stands = Contains-get_or c.args.positions.at.now c.loop-position.position-index 0 c.loop-position-test.true in
    below_values g.N.Number.value c.args.second.now (number_at c.args.positions position) (c.requires.have.behind position stands)

pub sum-requires : goal.sum-requires
sum-requires g c =
    let positions = c.args.positions in
    let position = get_or positions.at.now c.loop-position.position-index 0 in
    let stands = Contains-get_or positions.at.now c.loop-position.position-index 0 c.loop-position-test.true in
    let number = number_at positions position in
    let a = c.wide-before.result in
    let b = c.wide-behind.result in
    let there : slice_get (map g.N.Number.value c.args.first.now) number ≡ Some a =
    read_number g.N.Number.value c.args.first.now number c.index-first-number.result a (c.requires.have.before position stands) c.index-first-number.is c.wide-before.ensures in
    let behind : slice_get (map g.N.Number.value c.args.second.now) number ≡ Some b =
    read_number g.N.Number.value c.args.second.now number c.index-second-number.result b (c.requires.have.behind position stands) c.index-second-number.is c.wide-behind.ensures in
    let fits_a : FitsSigned w64 a = search rules in
    let fits_b : FitsSigned w64 b = search rules in
    let fits_mark : FitsSigned w64 c.args.mark = c.ranges.mark in
    simp to_z-of_z (record {
      low = λ apart apart'. c.requires.low position ((c.args.scales.before *ℤ a) +ℤ (c.args.scales.behind *ℤ b)) stands
          (record { first = a; second = b; first_there = there; second_there = behind; first_scores = apart; second_scores = apart'; is = refl });
    })

pub loop-position-preserved : goal.loop-position-preserved
loop-position-preserved g c =
    let positions = c.args.positions in
    let position = get_or positions.at.now c.loop-position.position-index 0 in
    let stands = Contains-get_or positions.at.now c.loop-position.position-index 0 c.loop-position-test.true in
    let number = number_at positions position in
    let firsts = map g.N.Number.value c.args.first.now in
    let seconds = map g.N.Number.value c.args.second.now in
    let scales = c.args.scales in
    let mark = c.args.mark in
    let a = c.wide-before.result in
    let b = c.wide-behind.result in
    let there : slice_get firsts number ≡ Some a =
    read_number g.N.Number.value c.args.first.now number c.index-first-number.result a (c.requires.have.before position stands) c.index-first-number.is c.wide-before.ensures in
    let behind : slice_get seconds number ≡ Some b =
    read_number g.N.Number.value c.args.second.now number c.index-second-number.result b (c.requires.have.behind position stands) c.index-second-number.is c.wide-behind.ensures in
    let fits_a : FitsSigned w64 a = search rules in
    let fits_b : FitsSigned w64 b = search rules in
    let fits_mark : FitsSigned w64 mark = c.ranges.mark in
    let fits_entry : FitsSigned w64 c.sum.result = search rules in
    let fits_new : FitsSigned w64 c.max-greatest.result = search rules in
    let old = to_z w64 c.loop-position.greatest-bits in
    let new = to_z w64 (of_z w64 c.max-greatest.result) in
    let max : c.max-greatest.result ≡ int_max old c.sum.result = simp to_z-of_z at c.max-greatest.ensures.value in
    let max_new : new ≡ int_max old c.sum.result = to_z-of_z w64 c.max-greatest.result fits_new ∙ max in
    let marked : (a ≡ mark) ⊎ (b ≡ mark) → c.sum.result ≡ no_candidate = simp to_z-of_z at c.sum.ensures.marked in
    let scored : (a ≡ mark → ⊥) → (b ≡ mark → ⊥) → c.sum.result ≡ ((scales.before *ℤ a) +ℤ (scales.behind *ℤ b)) = simp to_z-of_z at c.sum.ensures.scored in
    let before : IsLargest least_entry (HasBefore (AtPosition positions (HasScaledSum mark scales firsts seconds)) c.loop-position.position-index) old = simp to_z-of_z at c.loop-position.invariant in
    let at : ℕ → ℕ = λ k. number_at positions (get_or positions.at.now k 0) in
    let after : IsLargest least_entry (HasBefore (AtPosition positions (HasScaledSum mark scales firsts seconds)) (c.loop-position.position-index + 1)) new =
    elim (mark_cases mark a b) [
      | inl e ↦ scaled_marked mark scales firsts seconds at c.loop-position.position-index old new a b c.sum.result max_new there behind before e (marked e)
      | inr e ↦
          scaled_scored mark scales firsts seconds at c.loop-position.position-index old new a b c.sum.result max_new there behind before e.0 e.1 (scored e.0 e.1)
          (c.requires.low position ((scales.before *ℤ a) +ℤ (scales.behind *ℤ b)) stands
          (record { first = a; second = b; first_there = there; second_there = behind; first_scores = e.0; second_scores = e.1; is = refl }))
    ] in
    simp (to_z-of_z w64 c.args.mark) after

pub returns : goal.returns
returns g c =
    let Sum : ℕ → ℤ → Type 0 = HasScaledSum c.args.mark c.args.scales (map g.N.Number.value c.args.first.now) (map g.N.Number.value c.args.second.now) in
    let all : c.loop-position.position-index ≡ length c.args.positions.at.now = omega (arith, c.loop-position-test.false, c.loop-position.auto.position-index-end) in
    let greatest = to_z w64 c.loop-position.greatest-bits in
    let fits_mark : FitsSigned w64 c.args.mark = c.ranges.mark in
    let fits : FitsSigned w64 greatest = search rules in
    let before : IsLargest least_entry (HasBefore (AtPosition c.args.positions Sum) c.loop-position.position-index) greatest = simp to_z-of_z at c.loop-position.invariant in
    subst (IsGreatestOf (SomePosition c.args.positions Sum)) (sym c.score_of.ensures)
    (largest_entry (SomePosition c.args.positions Sum) greatest fits (all_scattered c.args.positions Sum least_entry c.loop-position.position-index greatest all before))
