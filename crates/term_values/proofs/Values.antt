-- The values of terms: a linear one factor by factor, a wide one part by part.
use Rattle.std.proofs.Common.{◌≡◌, ℕ, ◌+◌, ◌-◌, ◌*◌, ◌^◌, max, ◌<◌, ◌≤◌, List, length, map, get_or, drop, ℤ, pos, ◌+ℤ◌, ◌-ℤ◌, ◌*ℤ◌, nat_abs, FitsSigned, w64, to_z, of_z, arith}
use Rattle.std.proofs.lemmas.Int.{ints, unsigned_abs-mul, fits_signed_from_abs, to_z-of_z}
use Rattle.std.proofs.lemmas.List.{drop_more}
use Rattle.std.proofs.Math.Nat.{mul-le-mul}
use Rattle.std.proofs.Math.IntN.{+ℤ_assoc}
use Rattle.adp_model.specs.Terms.{weighted_sum, weighted_total}

-- the absolute value of a sum
pub nat_abs-sum : (a b : ℤ) → nat_abs (a +ℤ b) ≤ nat_abs a + nat_abs b
nat_abs-sum a b = omega (arith, ints)

-- one factor more
pub sum_more : (total : ℤ) (factors values : List ℤ) (i : ℕ) → i < length factors → i < length values
    → total +ℤ weighted_sum (drop i factors) (drop i values)
    ≡ (total +ℤ (get_or factors i (pos 0) *ℤ get_or values i (pos 0))) +ℤ weighted_sum (drop (i + 1) factors) (drop (i + 1) values)
sum_more total factors values i in_factors in_values =
    rw (drop_more factors i (pos 0) in_factors, drop_more values i (pos 0) in_values, +ℤ_assoc)

-- what is left bounds the next product
pub total_more : (factors values : List ℤ) (i : ℕ) → i < length factors → i < length values
    → weighted_total (drop i factors) (map nat_abs (drop i values))
    ≡ nat_abs (get_or factors i (pos 0) *ℤ get_or values i (pos 0)) + weighted_total (drop (i + 1) factors) (map nat_abs (drop (i + 1) values))
total_more factors values i in_factors in_values =
    rw (drop_more factors i (pos 0) in_factors, drop_more values i (pos 0) in_values, unsigned_abs-mul)

fits_below : (z : ℤ) → nat_abs z ≤ 2 ^ 62 - 1 → FitsSigned w64 z
fits_below z below = fits_signed_from_abs w64 z (omega arith)

-- the code's step, which wraps nowhere
pub step : (total : ℤ) (factors values : List ℤ) (i : ℕ) → i < length factors → i < length values
    → FitsSigned w64 (get_or factors i (pos 0)) → FitsSigned w64 (get_or values i (pos 0))
    → nat_abs total + weighted_total (drop i factors) (map nat_abs (drop i values)) ≤ 2 ^ 62 - 1
    → to_z w64 (of_z w64 (total +ℤ to_z w64 (of_z w64 (to_z w64 (of_z w64 (get_or factors i (pos 0))) *ℤ to_z w64 (of_z w64 (get_or values i (pos 0)))))))
    ≡ total +ℤ (get_or factors i (pos 0) *ℤ get_or values i (pos 0))
step total factors values i in_factors in_values fits_factor fits_value bound =
    let more = total_more factors values i in_factors in_values in
    let fits_product : FitsSigned w64 (get_or factors i (pos 0) *ℤ get_or values i (pos 0)) = fits_below _ (omega (arith, more)) in
    let sum = nat_abs-sum total (get_or factors i (pos 0) *ℤ get_or values i (pos 0)) in
    let fits_sum : FitsSigned w64 (total +ℤ (get_or factors i (pos 0) *ℤ get_or values i (pos 0))) = fits_below _ (omega (arith, more, sum)) in
    simp to_z-of_z

-- ---- numbers within bounds give numbers in range

pub sum_fits : (a b a' b' : ℤ) (m n : ℕ) → a ≡ a' → b ≡ b' → nat_abs a' ≤ m → nat_abs b' ≤ n → m + n ≤ 2 ^ 62 - 1 → FitsSigned w64 (a +ℤ b)
sum_fits a b a' b' m n is is' within within' bounded = fits_below _ (omega (arith, ints))

pub difference_fits : (a b a' b' : ℤ) (m n : ℕ) → a ≡ a' → b ≡ b' → nat_abs a' ≤ m → nat_abs b' ≤ n → m + n ≤ 2 ^ 62 - 1 → FitsSigned w64 (a -ℤ b)
difference_fits a b a' b' m n is is' within within' bounded = fits_below _ (omega (arith, ints))

pub product_fits : (a b a' b' : ℤ) (m n : ℕ) → a ≡ a' → b ≡ b' → nat_abs a' ≤ m → nat_abs b' ≤ n → max 1 m * max 1 n ≤ 2 ^ 62 - 1 → FitsSigned w64 (a *ℤ b)
product_fits a b a' b' m n is is' within within' bounded =
    let product = unsigned_abs-mul a' b' in
    let both : nat_abs a' * nat_abs b' ≤ max 1 m * max 1 n = mul-le-mul (omega arith) (omega arith) in
    rw (is, is') (fits_below _ (omega (arith, product, both)))
