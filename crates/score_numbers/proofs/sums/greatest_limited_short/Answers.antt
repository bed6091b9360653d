use Rattle.std.proofs.Common.{◌≡◌, pos, ◌+ℤ◌, Some, length, get_or, slice_get, FitsSigned, w16, to_z, of_z, inl, inr, ap, ◌∙◌, arith, rules}
use Rattle.std.specs.Int.{int_max}
use Rattle.std.proofs.lemmas.Int.{to_z-of_z}
use Rattle.std.proofs.lemmas.Option.{slice_get-get_or}
use Rattle.score_numbers.specs.Packing.{IsProper, short}
use Rattle.score_numbers.specs.Sums.{HasUnlimitedSum, IsUnlimitedSum}
use Rattle.score_numbers.proofs.LargestSums.{short_spaced, short_fits, short_sum_fits, none_yet, unlimited_more, limited_more, limit_cases, limit_fits, all_limited, largest_sum}
use Rattle.score_numbers.specs.Spaced.{least_sum}
use Rattle.score_numbers.proofs.sums.greatest_limited_short.Goals as goal

pub loop-k-init : goal.loop-k-init
loop-k-init c = none_yet short short_spaced (IsUnlimitedSum c.args.limits.now c.args.first.now c.args.second.now)

pub overflow_add-first : goal.overflow_add-first
overflow_add-first c =
    let firsts = c.args.first.now in
    let seconds = c.args.second.now in
    let at = c.loop-k.k in
    let a = get_or firsts at (pos 0) in
    let b = get_or seconds at (pos 0) in
    let there : slice_get firsts at ≡ Some a = slice_get-get_or firsts at (pos 0) (omega (arith, c.loop-k-test.true, c.requires.as_many)) in
    let behind : slice_get seconds at ≡ Some b = slice_get-get_or seconds at (pos 0) (omega (arith, c.loop-k-test.true, c.requires.as_many_behind)) in
    let proper_a : IsProper short a = c.requires.first at a there in
    let proper_b : IsProper short b = c.requires.second at b behind in
    let fits_a : FitsSigned w16 a = short_fits a proper_a in
    let fits_b : FitsSigned w16 b = short_fits b proper_b in
    simp to_z-of_z (short_sum_fits a b proper_a proper_b)

pub loop-k-preserved : goal.loop-k-preserved
loop-k-preserved c =
    let firsts = c.args.first.now in
    let seconds = c.args.second.now in
    let limits = c.args.limits.now in
    let at = c.loop-k.k in
    let limit = get_or limits at (pos 0) in
    let limited : slice_get limits at ≡ Some limit = slice_get-get_or limits at (pos 0) c.loop-k-test.true in
    let a = get_or firsts at (pos 0) in
    let b = get_or seconds at (pos 0) in
    let there : slice_get firsts at ≡ Some a = slice_get-get_or firsts at (pos 0) (omega (arith, c.loop-k-test.true, c.requires.as_many)) in
    let behind : slice_get seconds at ≡ Some b = slice_get-get_or seconds at (pos 0) (omega (arith, c.loop-k-test.true, c.requires.as_many_behind)) in
    let proper_a : IsProper short a = c.requires.first at a there in
    let proper_b : IsProper short b = c.requires.second at b behind in
    let fits_a : FitsSigned w16 a = short_fits a proper_a in
    let fits_b : FitsSigned w16 b = short_fits b proper_b in
    let fits_sum : FitsSigned w16 (a +ℤ b) = short_sum_fits a b proper_a proper_b in
    let fits_new : FitsSigned w16 c.max-greatest.result = search rules in
    let of_two = c.requires.limits at limit limited in
    let fits_limit : FitsSigned w16 limit = limit_fits limit of_two in
    let fits_least : FitsSigned w16 c.min.result = search rules in
    let old = to_z w16 c.loop-k.greatest-bits in
    let new = to_z w16 (of_z w16 c.max-greatest.result) in
    let cases = limit_cases (a +ℤ b) limit c.min.result fits_sum of_two (simp to_z-of_z at c.min.ensures.value) in
    let max : new ≡ int_max old c.min.result = to_z-of_z w16 c.max-greatest.result fits_new ∙ (simp to_z-of_z at c.max-greatest.ensures.value) in
    elim cases [
      | inl it ↦ unlimited_more limits firsts seconds at old new a b (limited ∙ ap Some it.0) (max ∙ ap (λ x. int_max old x) it.1) there behind proper_a proper_b c.loop-k.invariant
      | inr it ↦ limited_more limits firsts seconds at old new c.min.result (limited ∙ ap Some it.0) max it.1 c.loop-k.invariant
    ]

pub returns : goal.returns
returns c =
    let all : c.loop-k.k ≡ length c.args.limits.now = omega (arith, c.loop-k-test.false, c.loop-k.auto.k-end) in
    let greatest = to_z w16 c.loop-k.greatest-bits in
    let firsts = c.args.first.now in
    let seconds = c.args.second.now in
    largest_sum (least_sum short) (HasUnlimitedSum c.args.limits.now firsts seconds) greatest c.sum_of.result
    c.sum_of.ensures (all_limited c.args.limits.now firsts seconds c.loop-k.k greatest all c.loop-k.invariant)
