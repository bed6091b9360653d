-- The four factors of a lowered term, one by one.
use Rattle.std.proofs.Common.{◌≡◌, ℕ, zero, suc, ◌*◌, ◌<◌, ◌≤◌, ℤ, pos, ◌+ℤ◌, ◌*ℤ◌, nat_abs, List, [], ◌∷◌, length, get_or, slice_index_or, arith}
use Rattle.std.proofs.Math.Nat.{mul-le-mul_left}
use Rattle.adp_model.specs.ProblemFields.{greatest_score}
use Rattle.adp_model.specs.Terms.{weighted_total}
use Rattle.term_values.specs.declared.lowering.LinearForm.{LinearForm}
use Rattle.term_values.specs.Lowering.{most_arguments}
use Rattle.term_values.specs.LoweredParts.{size_of, AreInRange, AreSums, AreProducts}

abbrev ones : List ℕ
ones = 1 ∷ 1 ∷ 1 ∷ 1 ∷ []

pub four_sums : (xs ys : List ℤ) (a b c d : ℤ) → length xs ≡ 4 → length ys ≡ 4
    → a ≡ get_or xs 0 (pos 0) +ℤ get_or ys 0 (pos 0) → b ≡ get_or xs 1 (pos 0) +ℤ get_or ys 1 (pos 0)
    → c ≡ get_or xs 2 (pos 0) +ℤ get_or ys 2 (pos 0) → d ≡ get_or xs 3 (pos 0) +ℤ get_or ys 3 (pos 0)
    → AreSums xs ys (a ∷ b ∷ c ∷ d ∷ [])
four_sums (p ∷ q ∷ r ∷ s ∷ []) (p' ∷ q' ∷ r' ∷ s' ∷ []) a b c d four four' first second third fourth = (first, (second, (third, (fourth, tt))))
four_sums [] ys a b c d four four' first second third fourth = absurd (omega (arith, four))
four_sums (p ∷ []) ys a b c d four four' first second third fourth = absurd (omega (arith, four))
four_sums (p ∷ q ∷ []) ys a b c d four four' first second third fourth = absurd (omega (arith, four))
four_sums (p ∷ q ∷ r ∷ []) ys a b c d four four' first second third fourth = absurd (omega (arith, four))
four_sums (p ∷ q ∷ r ∷ s ∷ t ∷ xs) ys a b c d four four' first second third fourth = absurd (omega (arith, four))
four_sums (p ∷ q ∷ r ∷ s ∷ []) [] a b c d four four' first second third fourth = absurd (omega (arith, four'))
four_sums (p ∷ q ∷ r ∷ s ∷ []) (p' ∷ []) a b c d four four' first second third fourth = absurd (omega (arith, four'))
four_sums (p ∷ q ∷ r ∷ s ∷ []) (p' ∷ q' ∷ []) a b c d four four' first second third fourth = absurd (omega (arith, four'))
four_sums (p ∷ q ∷ r ∷ s ∷ []) (p' ∷ q' ∷ r' ∷ []) a b c d four four' first second third fourth = absurd (omega (arith, four'))
four_sums (p ∷ q ∷ r ∷ s ∷ []) (p' ∷ q' ∷ r' ∷ s' ∷ t' ∷ ys) a b c d four four' first second third fourth = absurd (omega (arith, four'))

pub four_products : (factor : ℤ) (xs : List ℤ) (a b c d : ℤ) → length xs ≡ 4
    → a ≡ factor *ℤ get_or xs 0 (pos 0) → b ≡ factor *ℤ get_or xs 1 (pos 0)
    → c ≡ factor *ℤ get_or xs 2 (pos 0) → d ≡ factor *ℤ get_or xs 3 (pos 0)
    → AreProducts factor xs (a ∷ b ∷ c ∷ d ∷ [])
four_products factor (p ∷ q ∷ r ∷ s ∷ []) a b c d four first second third fourth = (first, (second, (third, (fourth, tt))))
four_products factor [] a b c d four first second third fourth = absurd (omega (arith, four))
four_products factor (p ∷ []) a b c d four first second third fourth = absurd (omega (arith, four))
four_products factor (p ∷ q ∷ []) a b c d four first second third fourth = absurd (omega (arith, four))
four_products factor (p ∷ q ∷ r ∷ []) a b c d four first second third fourth = absurd (omega (arith, four))
four_products factor (p ∷ q ∷ r ∷ s ∷ t ∷ xs) a b c d four first second third fourth = absurd (omega (arith, four))

pub four_in_range : (constant a b c d : ℤ) → nat_abs constant ≤ greatest_score → nat_abs a ≤ greatest_score → nat_abs b ≤ greatest_score
    → nat_abs c ≤ greatest_score → nat_abs d ≤ greatest_score → AreInRange (record { constant = constant; factors = a ∷ b ∷ c ∷ d ∷ [] })
four_in_range constant a b c d low first second third fourth = record {
  low_constant = low;
  low_factors = each;
}
  where
    each : (k : ℕ) → k < most_arguments → nat_abs (slice_index_or (a ∷ b ∷ c ∷ d ∷ []) k (pos 0)) ≤ greatest_score
    each zero inside = first
    each (suc zero) inside = second
    each (suc (suc zero)) inside = third
    each (suc (suc (suc zero))) inside = fourth
    each (suc (suc (suc (suc k)))) inside = absurd (omega arith)

-- no number of a lowered term is greater than all of them
each_within : (xs : List ℤ) (numbers : List ℕ) (k : ℕ) → length xs ≡ length numbers → k < length xs → 1 ≤ get_or numbers k 0
    → nat_abs (get_or xs k (pos 0)) ≤ weighted_total xs numbers
each_within [] numbers k same inside one = absurd (omega arith)
each_within (x ∷ xs) [] k same inside one = absurd (omega (arith, same))
each_within (x ∷ xs) (number ∷ numbers) zero same inside one =
    let times : nat_abs x * 1 ≤ nat_abs x * number = mul-le-mul_left (nat_abs x) one in omega (arith, times)
each_within (x ∷ xs) (number ∷ numbers) (suc k) same inside one =
    let before = each_within xs numbers k (omega (arith, same)) (omega arith) one in omega (arith, before)

pub factor_within : (lowered : LinearForm) (k : ℕ) → length lowered.factors ≡ 4 → k < 4 → nat_abs (get_or lowered.factors k (pos 0)) ≤ size_of lowered
factor_within lowered k four inside =
    let within = each_within lowered.factors ones k four (omega (arith, four)) (one k inside) in omega (arith, within)
  where
    one : (k : ℕ) → k < 4 → 1 ≤ get_or ones k 0
    one zero inside = omega arith
    one (suc zero) inside = omega arith
    one (suc (suc zero)) inside = omega arith
    one (suc (suc (suc zero))) inside = omega arith
    one (suc (suc (suc (suc k)))) inside = absurd (omega arith)

pub product_past : (factor number size : ℕ) → greatest_score < factor * number → number ≤ size → greatest_score < factor * size
product_past factor number size past within =
    let more : factor * number ≤ factor * size = mul-le-mul_left factor within in omega (arith, more)
