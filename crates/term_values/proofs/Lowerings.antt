-- What wide terms come to, from what their sides come to.
use Rattle.std.proofs.Common.{◌≡◌, ℕ, zero, suc, ◌+◌, ◌*◌, ◌<◌, ◌≤◌, max, inl, inr, ℤ, pos, negsuc, ◌+ℤ◌, ◌*ℤ◌, nat_abs, List, [], ◌∷◌, replicate, slice_index, slice_index_or, set, Option, Some, None, MatchOption, refl, sym, ap, ◌∙◌, arith}
use Rattle.std.proofs.Math.Nat.{mul-le-mul}
use Rattle.std.proofs.Math.IntN.{*ℤ_comm}
use Rattle.std.proofs.lemmas.Int.{ints, unsigned_abs-mul}
use Rattle.adp_model.specs.WideForm as wide
use Rattle.adp_model.specs.WideForm.{Number, Value, Sum, Difference, Product, Greater, Lesser}
use Rattle.adp_model.specs.declared.grammar.Term.TheVariants.{Wide}
use Rattle.adp_model.specs.ProblemFields.{greatest_score}
use Rattle.adp_model.specs.Terms.{weighted_sum, weighted_total, wide_value, wide_magnitude}
use Rattle.term_values.specs.declared.lowering.LinearForm.{LinearForm}
use Rattle.term_values.specs.Lowering.{IsLinearByForm, IsLowered, NamesNoValue, most_arguments}
use Rattle.term_values.specs.LoweredParts.{size_of, AreSums, AreProducts, IsSumOf, IsProductOf, IsFixed, MatchLowered}
use Rattle.term_values.proofs.Products.{sum_times, times_sum, times_regroup}

abbrev ones : List ℕ
ones = 1 ∷ 1 ∷ 1 ∷ 1 ∷ []

-- ---- lists of factors

sums_value : (xs ys zs values : List ℤ) → AreSums xs ys zs → weighted_sum zs values ≡ weighted_sum xs values +ℤ weighted_sum ys values
sums_value [] [] [] values are = refl
sums_value [] [] (z ∷ zs) values are = absurd are
sums_value [] (y ∷ ys) zs values are = absurd are
sums_value (x ∷ xs) [] zs values are = absurd are
sums_value (x ∷ xs) (y ∷ ys) [] values are = absurd are
sums_value (x ∷ xs) (y ∷ ys) (z ∷ zs) [] are = refl
sums_value (x ∷ xs) (y ∷ ys) (z ∷ zs) (value ∷ values) are =
    let first = ap (λ n. n *ℤ value) are.0 ∙ sum_times x y value in
    let others = sums_value xs ys zs values are.1 in
    omega (arith, ints, first, others)

sums_total : (xs ys zs : List ℤ) (numbers : List ℕ) → AreSums xs ys zs → weighted_total zs numbers ≤ weighted_total xs numbers + weighted_total ys numbers
sums_total [] [] [] numbers are = omega arith
sums_total [] [] (z ∷ zs) numbers are = absurd are
sums_total [] (y ∷ ys) zs numbers are = absurd are
sums_total (x ∷ xs) [] zs numbers are = absurd are
sums_total (x ∷ xs) (y ∷ ys) [] numbers are = absurd are
sums_total (x ∷ xs) (y ∷ ys) (z ∷ zs) [] are = omega arith
sums_total (x ∷ xs) (y ∷ ys) (z ∷ zs) (number ∷ numbers) are =
    let within : nat_abs z ≤ nat_abs x + nat_abs y = omega (arith, ints, are.0) in
    let first : nat_abs z * number ≤ (nat_abs x + nat_abs y) * number = mul-le-mul within (omega arith) in
    let others = sums_total xs ys zs numbers are.1 in
    omega (arith, first, others)

products_value : (factor : ℤ) (xs zs values : List ℤ) → AreProducts factor xs zs → weighted_sum zs values ≡ factor *ℤ weighted_sum xs values
products_value factor [] [] values are = omega (arith, ints)
products_value factor [] (z ∷ zs) values are = absurd are
products_value factor (x ∷ xs) [] values are = absurd are
products_value factor (x ∷ xs) (z ∷ zs) [] are = omega (arith, ints)
products_value factor (x ∷ xs) (z ∷ zs) (value ∷ values) are =
    let first = ap (λ n. n *ℤ value) are.0 ∙ times_regroup factor x value in
    let others = products_value factor xs zs values are.1 in
    let apart = times_sum factor (x *ℤ value) (weighted_sum xs values) in
    omega (arith, ints, first, others, apart)

products_total : (factor : ℤ) (xs zs : List ℤ) (numbers : List ℕ) → AreProducts factor xs zs → weighted_total zs numbers ≡ nat_abs factor * weighted_total xs numbers
products_total factor [] [] numbers are = omega arith
products_total factor [] (z ∷ zs) numbers are = absurd are
products_total factor (x ∷ xs) [] numbers are = absurd are
products_total factor (x ∷ xs) (z ∷ zs) [] are = omega arith
products_total factor (x ∷ xs) (z ∷ zs) (number ∷ numbers) are =
    let first = ap (λ n. nat_abs n * number) are.0 in
    let product = ap (λ n. n * number) (unsigned_abs-mul factor x) in
    let others = products_total factor xs zs numbers are.1 in
    omega (arith, first, product, others)

-- ---- terms without values

no_value_linear : (term : wide.WideForm) → NamesNoValue term → IsLinearByForm term
no_value_linear (Number number) h = tt
no_value_linear (Value place) h = absurd h
no_value_linear (Sum left right) h = (no_value_linear left h.0, no_value_linear right h.1)
no_value_linear (Difference left right) h = (no_value_linear left h.0, no_value_linear right h.1)
no_value_linear (Product left right) h = inl (h.0, no_value_linear right h.1)
no_value_linear (Greater left right) h = h
no_value_linear (Lesser left right) h = h

-- ---- a side's magnitude is at most the whole's

product_sides : (m n : ℕ) → (m ≤ max 1 m * max 1 n) × (n ≤ max 1 m * max 1 n)
product_sides m n =
    let first : m * 1 ≤ max 1 m * max 1 n = mul-le-mul (omega arith) (omega arith) in
    let second : 1 * n ≤ max 1 m * max 1 n = mul-le-mul (omega arith) (omega arith) in
    (omega (arith, first), omega (arith, second))

product_within : (k n m m' : ℕ) → k ≤ m → n ≤ m' → k * n ≤ max 1 m * max 1 m'
product_within k n m m' h h' = mul-le-mul (omega arith) (omega arith)

-- ---- a number alone

zeros_value : (count : ℕ) (values : List ℤ) → weighted_sum (replicate count (pos 0)) values ≡ pos 0
zeros_value zero values = refl
zeros_value (suc count) [] = refl
zeros_value (suc count) (value ∷ values) = omega (arith, ints, zeros_value count values)

zeros_total : (count : ℕ) (numbers : List ℕ) → weighted_total (replicate count (pos 0)) numbers ≡ 0
zeros_total zero numbers = refl
zeros_total (suc count) [] = refl
zeros_total (suc count) (number ∷ numbers) = omega (arith, zeros_total count numbers)

zeros_low : (count k : ℕ) → nat_abs (slice_index_or (replicate count (pos 0)) k (pos 0)) ≤ greatest_score
zeros_low zero k = omega arith
zeros_low (suc count) zero = omega arith
zeros_low (suc count) (suc k) = zeros_low count k

pub fixed_lowered : (term : wide.WideForm) (number : ℤ) (lowered : LinearForm) → IsFixed term number → lowered.constant ≡ number
    → lowered.factors ≡ replicate most_arguments (pos 0) → IsLinearByForm term × IsLowered (Wide term) lowered
fixed_lowered term number lowered is constant factors = (
  no_value_linear term is.unnamed,
  record {
    value = λ values.
        let same = is.value values in
        let none = ap (λ fs. weighted_sum fs values) factors ∙ zeros_value most_arguments values in
        omega (arith, ints, same, none, constant);
    low = λ numbers.
        let within = is.within numbers in
        let none = ap (λ fs. weighted_total fs numbers) factors ∙ zeros_total most_arguments numbers in
        omega (arith, ints, within, none, constant);
    low_constant = omega (arith, ints, is.low, constant);
    low_factors = λ k inside. rw factors (zeros_low most_arguments k);
  },
)

-- ---- sums

sum_is : (left right : wide.WideForm) (one other sum : LinearForm) → IsLowered (Wide left) one → IsLowered (Wide right) other → IsSumOf one other sum
    → IsLowered (Wide (Sum left right)) sum
sum_is left right one other sum is is' sums = record {
  value = λ values.
      let v = is.value values in let v' = is'.value values in
      let added = sums_value one.factors other.factors sum.factors values sums.factors in
      omega (arith, ints, v, v', added, sums.constant);
  low = λ numbers.
      let m = is.low numbers in let m' = is'.low numbers in
      let added = sums_total one.factors other.factors sum.factors numbers sums.factors in
      omega (arith, ints, m, m', added, sums.constant);
  low_constant = sums.low.low_constant;
  low_factors = sums.low.low_factors;
}

pub sum_lowered : (left right : wide.WideForm) (one other : LinearForm) (found : Option LinearForm)
    → IsLinearByForm left × IsLowered (Wide left) one → IsLinearByForm right × IsLowered (Wide right) other
    → MatchOption found (greatest_score < size_of one + size_of other) (IsSumOf one other)
    → MatchLowered (Sum left right) found
sum_lowered left right one other None is is' past = λ linear low.
    let m = is.1.low ones in let m' = is'.1.low ones in omega (arith, m, m', past, low)
sum_lowered left right one other (Some sum) is is' sums = ((is.0, is'.0), sum_is left right one other sum is.1 is'.1 sums)

-- ---- differences

turned_total : (other turned : LinearForm) (numbers : List ℕ) → IsProductOf (negsuc 0) other turned
    → nat_abs turned.constant + weighted_total turned.factors numbers ≡ nat_abs other.constant + weighted_total other.factors numbers
turned_total other turned numbers is =
    let others = products_total (negsuc 0) other.factors turned.factors numbers is.factors in
    let constant = ap nat_abs is.constant ∙ unsigned_abs-mul (negsuc 0) other.constant in
    omega (arith, others, constant)

difference_is : (left right : wide.WideForm) (one other turned sum : LinearForm) → IsLowered (Wide left) one → IsLowered (Wide right) other
    → IsProductOf (negsuc 0) other turned → IsSumOf one turned sum → IsLowered (Wide (Difference left right)) sum
difference_is left right one other turned sum is is' turns sums = record {
  value = λ values.
      let v = is.value values in let v' = is'.value values in
      let added = sums_value one.factors turned.factors sum.factors values sums.factors in
      let others = products_value (negsuc 0) other.factors turned.factors values turns.factors in
      omega (arith, ints, v, v', added, others, sums.constant, turns.constant);
  low = λ numbers.
      let m = is.low numbers in let m' = is'.low numbers in
      let added = sums_total one.factors turned.factors sum.factors numbers sums.factors in
      let others = turned_total other turned numbers turns in
      omega (arith, ints, m, m', added, others, sums.constant);
  low_constant = sums.low.low_constant;
  low_factors = sums.low.low_factors;
}

pub difference_lowered : (left right : wide.WideForm) (one other turned : LinearForm) (found : Option LinearForm)
    → IsLinearByForm left × IsLowered (Wide left) one → IsLinearByForm right × IsLowered (Wide right) other
    → IsProductOf (negsuc 0) other turned
    → MatchOption found (greatest_score < size_of one + size_of turned) (IsSumOf one turned)
    → MatchLowered (Difference left right) found
difference_lowered left right one other turned None is is' turns past = λ linear low.
    let m = is.1.low ones in let m' = is'.1.low ones in let others = turned_total other turned ones turns in omega (arith, m, m', others, past, low)
difference_lowered left right one other turned (Some sum) is is' turns sums =
    ((is.0, is'.0), difference_is left right one other turned sum is.1 is'.1 turns sums)

-- ---- products

product_total : (factor : ℤ) (one product : LinearForm) (numbers : List ℕ) → IsProductOf factor one product
    → nat_abs product.constant + weighted_total product.factors numbers ≡ nat_abs factor * (nat_abs one.constant + weighted_total one.factors numbers)
product_total factor one product numbers is =
    let others = products_total factor one.factors product.factors numbers is.factors in
    let constant = ap nat_abs is.constant ∙ unsigned_abs-mul factor one.constant in
    omega (arith, others, constant)

product_value : (factor : ℤ) (one product : LinearForm) (values : List ℤ) → IsProductOf factor one product
    → product.constant +ℤ weighted_sum product.factors values ≡ factor *ℤ (one.constant +ℤ weighted_sum one.factors values)
product_value factor one product values is =
    let others = products_value factor one.factors product.factors values is.factors in
    let apart = times_sum factor one.constant (weighted_sum one.factors values) in
    omega (arith, ints, others, apart, is.constant)

left_product_is : (left right : wide.WideForm) (factor : ℤ) (one product : LinearForm) → IsFixed left factor → IsLowered (Wide right) one
    → IsProductOf factor one product → IsLowered (Wide (Product left right)) product
left_product_is left right factor one product fixed is products = record {
  value = λ values.
      ap (λ n. n *ℤ wide_value right values) (fixed.value values) ∙ ap (λ n. factor *ℤ n) (is.value values)
      ∙ sym (product_value factor one product values products);
  low = λ numbers.
      let total = product_total factor one product numbers products in
      let within = product_within (nat_abs factor) (nat_abs one.constant + weighted_total one.factors numbers) _ _ (fixed.within numbers) (is.low numbers) in
      omega (arith, total, within);
  low_constant = products.low.low_constant;
  low_factors = products.low.low_factors;
}

right_product_is : (left right : wide.WideForm) (factor : ℤ) (one product : LinearForm) → IsFixed right factor → IsLowered (Wide left) one
    → IsProductOf factor one product → IsLowered (Wide (Product left right)) product
right_product_is left right factor one product fixed is products = record {
  value = λ values.
      ap (λ n. wide_value left values *ℤ n) (fixed.value values) ∙ *ℤ_comm (wide_value left values) factor
      ∙ ap (λ n. factor *ℤ n) (is.value values) ∙ sym (product_value factor one product values products);
  low = λ numbers.
      let total = product_total factor one product numbers products in
      let within = product_within (nat_abs factor) (nat_abs one.constant + weighted_total one.factors numbers) _ _ (fixed.within numbers) (is.low numbers) in
      omega (arith, total, within);
  low_constant = products.low.low_constant;
  low_factors = products.low.low_factors;
}

-- where the left side is a number and the other one comes to nothing, the product does not either
pub left_product_none : (left right : wide.WideForm) (factor : ℤ) → IsFixed left factor → MatchLowered right None
    → MatchLowered (Product left right) None
left_product_none left right factor fixed none (inl linear) low =
    none linear.1 (let sides = product_sides (wide_magnitude left ones) (wide_magnitude right ones) in omega (arith, sides.1, low))
left_product_none left right factor fixed none (inr linear) low =
    none (no_value_linear right linear.1) (let sides = product_sides (wide_magnitude left ones) (wide_magnitude right ones) in omega (arith, sides.1, low))

pub left_product_lowered : (left right : wide.WideForm) (factor : ℤ) (one : LinearForm) (found : Option LinearForm)
    → IsFixed left factor → IsLinearByForm right × IsLowered (Wide right) one
    → MatchOption found (greatest_score < nat_abs factor * size_of one) (IsProductOf factor one)
    → MatchLowered (Product left right) found
left_product_lowered left right factor one None fixed is past = λ linear low.
    let within = product_within (nat_abs factor) (size_of one) _ _ (fixed.within ones) (is.1.low ones) in omega (arith, within, past, low)
left_product_lowered left right factor one (Some product) fixed is products =
    (inl (fixed.unnamed, is.0), left_product_is left right factor one product fixed is.1 products)

pub right_product_lowered : (left right : wide.WideForm) (factor : ℤ) (one : LinearForm) (found : Option LinearForm)
    → IsFixed right factor → IsLinearByForm left × IsLowered (Wide left) one
    → MatchOption found (greatest_score < nat_abs factor * size_of one) (IsProductOf factor one)
    → MatchLowered (Product left right) found
right_product_lowered left right factor one None fixed is past = λ linear low.
    let within = product_within (nat_abs factor) (size_of one) _ _ (fixed.within ones) (is.1.low ones) in omega (arith, within, past, low)
right_product_lowered left right factor one (Some product) fixed is products =
    (inr (is.0, fixed.unnamed), right_product_is left right factor one product fixed is.1 products)

-- ---- the value of an argument

only_value : (count place : ℕ) (values : List ℤ) → place < count
    → weighted_sum (set (replicate count (pos 0)) place (pos 1)) values ≡ slice_index_or values place (pos 0)
only_value zero place values inside = absurd (omega arith)
only_value (suc count) zero [] inside = refl
only_value (suc count) zero (value ∷ values) inside = omega (arith, ints, zeros_value count values)
only_value (suc count) (suc place) [] inside = refl
only_value (suc count) (suc place) (value ∷ values) inside = omega (arith, ints, only_value count place values (omega arith))

only_total : (count place : ℕ) (numbers : List ℕ) → place < count
    → weighted_total (set (replicate count (pos 0)) place (pos 1)) numbers ≡ slice_index numbers place
only_total zero place numbers inside = absurd (omega arith)
only_total (suc count) zero [] inside = refl
only_total (suc count) zero (number ∷ numbers) inside = omega (arith, zeros_total count numbers)
only_total (suc count) (suc place) [] inside = refl
only_total (suc count) (suc place) (number ∷ numbers) inside = omega (arith, only_total count place numbers (omega arith))

only_low : (count place k : ℕ) → nat_abs (slice_index_or (set (replicate count (pos 0)) place (pos 1)) k (pos 0)) ≤ greatest_score
only_low zero place k = omega arith
only_low (suc count) zero zero = omega arith
only_low (suc count) zero (suc k) = zeros_low count k
only_low (suc count) (suc place) zero = omega arith
only_low (suc count) (suc place) (suc k) = only_low count place k

pub value_lowered : (place : ℕ) → place < most_arguments
    → IsLowered (Wide (Value place)) (record { constant = pos 0; factors = set (replicate most_arguments (pos 0)) place (pos 1) })
value_lowered place inside = record {
  value = λ values. let only = only_value most_arguments place values inside in omega (arith, ints, only);
  low = λ numbers. let only = only_total most_arguments place numbers inside in omega (arith, only);
  low_constant = omega arith;
  low_factors = λ k inside'. only_low most_arguments place k;
}
