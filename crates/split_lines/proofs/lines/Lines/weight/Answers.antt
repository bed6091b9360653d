use Rattle.std.proofs.Common.{◌≡◌, ℕ, ◌*◌, ◌^◌, ◌<◌, ◌≤◌, ℤ, pos, ◌-ℤ◌, nat_abs, FitsSigned, to_z, of_z, get_or, ap, ap₂, sym, subst, ◌∙◌, arith}
use Rattle.std.specs.Int.{w128}
use Rattle.std.proofs.lemmas.Int.{ints, to_z-of_z}
use Rattle.split_lines.proofs.lines.Lines.weight.Goals as goal

fits : (a : ℤ) (position : ℕ) → nat_abs a ≤ 2 ^ 63 * position → position < 2 ^ 16 → FitsSigned w128 a
fits a position low short = omega (arith, ints)

fits_both : (a b : ℤ) (from to : ℕ) → nat_abs a ≤ 2 ^ 63 * to → nat_abs b ≤ 2 ^ 63 * from → to < 2 ^ 16 → from < 2 ^ 16 → FitsSigned w128 (a -ℤ b)
fits_both a b from to low low' short short' = omega (arith, ints)

-- read back, the sums are as they are, and so is their difference
same_difference : (a b : ℤ) (from to : ℕ) → nat_abs a ≤ 2 ^ 63 * to → nat_abs b ≤ 2 ^ 63 * from → to < 2 ^ 16 → from < 2 ^ 16 → (to_z w128 (of_z w128 a) -ℤ to_z w128 (of_z w128 b)) ≡ (a -ℤ b)
same_difference a b from to low low' short short' = ap₂ (λ x y. x -ℤ y) (to_z-of_z w128 a (fits a to low short)) (to_z-of_z w128 b (fits b from low' short'))

pub overflow_sub-result : goal.overflow_sub-result
overflow_sub-result c =
    let sums = c.sums-sums.result.now in
    let from = c.args.from in
    let to = c.args.to in
    let low = c.sums-sums.ensures.low to c.requires.span.in_word in
    let low' = c.sums-sums.ensures.low from (omega (arith, c.requires.span.in_order, c.requires.span.in_word)) in
    subst (FitsSigned w128) (sym (same_difference (get_or sums to (pos 0)) (get_or sums from (pos 0)) from to low low' c.ranges.to.fits c.ranges.from.fits))
    (fits_both (get_or sums to (pos 0)) (get_or sums from (pos 0)) from to low low' c.ranges.to.fits c.ranges.from.fits)

pub returns : goal.returns
returns c =
    let sums = c.sums-sums.result.now in
    let from = c.args.from in
    let to = c.args.to in
    let low = c.sums-sums.ensures.low to c.requires.span.in_word in
    let low' = c.sums-sums.ensures.low from (omega (arith, c.requires.span.in_order, c.requires.span.in_word)) in
    let same = same_difference (get_or sums to (pos 0)) (get_or sums from (pos 0)) from to low low' c.ranges.to.fits c.ranges.from.fits in
    let fit = fits_both (get_or sums to (pos 0)) (get_or sums from (pos 0)) from to low low' c.ranges.to.fits c.ranges.from.fits in
    ap (λ it. to_z w128 (of_z w128 it)) same ∙ to_z-of_z w128 _ fit ∙ sym (c.sums-sums.ensures.told from to c.requires.span)
