use Rattle.std.proofs.Common.{◌≡◌, ℕ, ◌+◌, ◌^◌, ◌≤◌, ℤ, ◌-ℤ◌, nat_abs, FitsSigned, to_z, of_z, ap, ap₂, sym, subst, ◌∙◌, w64, arith}
use Rattle.std.specs.Int.{w128}
use Rattle.std.proofs.lemmas.Int.{ints, to_z-of_z, fits_signed_from_abs}
use Rattle.adp_model.specs.ProblemFields.{greatest_score}
use Rattle.score_numbers.specs.WeighedSums.{sum_at}
use Rattle.score_numbers.proofs.weighed_sums.Weights.at.Goals as goal

fits : (a : ℤ) → nat_abs a ≤ 2 ^ 100 → FitsSigned w128 a
fits a low = fits_signed_from_abs w128 a (omega (arith, low))

-- read back, the sums are as they are, and so is their difference
same_difference : (a b : ℤ) → nat_abs a ≤ 2 ^ 100 → nat_abs b ≤ 2 ^ 100 → (to_z w128 (of_z w128 a) -ℤ to_z w128 (of_z w128 b)) ≡ (a -ℤ b)
same_difference a b low low' = ap₂ (λ x y. x -ℤ y) (to_z-of_z w128 a (fits a low)) (to_z-of_z w128 b (fits b low'))

fits_both : (a b : ℤ) → nat_abs (a -ℤ b) ≤ greatest_score → FitsSigned w128 (a -ℤ b)
fits_both a b low = fits_signed_from_abs w128 (a -ℤ b) (omega (arith, low))

pub overflow_sub-result : goal.overflow_sub-result
overflow_sub-result c =
    let a = sum_at c.args.self (c.args.number + 1) in
    let b = sum_at c.args.self c.args.number in
    subst (FitsSigned w128) (sym (same_difference a b c.requires.small_behind c.requires.small)) (fits_both a b c.requires.low)
