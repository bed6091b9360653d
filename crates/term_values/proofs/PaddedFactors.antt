-- Factors with zeros behind them.
use Rattle.std.proofs.Common.{◌≡◌, ℕ, zero, suc, ◌*◌, ◌<◌, ◌≤◌, ℤ, pos, ◌+ℤ◌, ◌*ℤ◌, nat_abs, List, [], ◌∷◌, length, slice_index_or, refl, ap, arith}
use Rattle.std.proofs.lemmas.Int.{ints}
use Rattle.std.proofs.Math.IntN.{zero-*ℤ}
use Rattle.adp_model.specs.declared.grammar.Linear as linear
use Rattle.adp_model.specs.declared.grammar.Term.TheVariants.{Linear}
use Rattle.adp_model.specs.ProblemFields.{greatest_score}
use Rattle.adp_model.specs.Terms.{weighted_sum, weighted_total}
use Rattle.adp_model.specs.TermForms.{IsLinearFor}
use Rattle.term_values.specs.Lowering.{IsLowered, most_arguments}

-- the factors, and zeros behind them
abbrev IsPadded : List ℤ → List ℤ → Type 0
IsPadded [] [] = Unit {0}
IsPadded [] (y ∷ ys) = (y ≡ pos 0) × IsPadded [] ys
IsPadded (x ∷ xs) [] = ⊥
IsPadded (x ∷ xs) (y ∷ ys) = (y ≡ x) × IsPadded xs ys

padded_value : (xs ys values : List ℤ) → IsPadded xs ys → weighted_sum xs values ≡ weighted_sum ys values
padded_value [] [] values is = refl
padded_value [] (y ∷ ys) [] is = refl
padded_value [] (y ∷ ys) (value ∷ values) is =
    let none = ap (λ n. n *ℤ value) is.0 in
    omega (arith, ints, none, zero-*ℤ value, padded_value [] ys values is.1)
padded_value (x ∷ xs) [] values is = absurd is
padded_value (x ∷ xs) (y ∷ ys) [] is = refl
padded_value (x ∷ xs) (y ∷ ys) (value ∷ values) is =
    let same = ap (λ n. n *ℤ value) is.0 in
    omega (arith, ints, same, padded_value xs ys values is.1)

padded_total : (xs ys : List ℤ) (numbers : List ℕ) → IsPadded xs ys → weighted_total ys numbers ≡ weighted_total xs numbers
padded_total [] [] numbers is = refl
padded_total [] (y ∷ ys) [] is = refl
padded_total [] (y ∷ ys) (number ∷ numbers) is =
    let none = ap (λ n. nat_abs n * number) is.0 in
    omega (arith, none, padded_total [] ys numbers is.1)
padded_total (x ∷ xs) [] numbers is = absurd is
padded_total (x ∷ xs) (y ∷ ys) [] is = refl
padded_total (x ∷ xs) (y ∷ ys) (number ∷ numbers) is =
    let same = ap (λ n. nat_abs n * number) is.0 in
    omega (arith, same, padded_total xs ys numbers is.1)

padded_low : (xs ys : List ℤ) (k : ℕ) → IsPadded xs ys
    → ((place : ℕ) → place < length xs → nat_abs (slice_index_or xs place (pos 0)) ≤ greatest_score)
    → nat_abs (slice_index_or ys k (pos 0)) ≤ greatest_score
padded_low [] [] k is low = omega arith
padded_low [] (y ∷ ys) zero is low = omega (arith, ints, is.0)
padded_low [] (y ∷ ys) (suc k) is low = padded_low [] ys k is.1 (λ place inside. absurd (omega arith))
padded_low (x ∷ xs) [] k is low = absurd is
padded_low (x ∷ xs) (y ∷ ys) zero is low = let first = low 0 (omega arith) in omega (arith, ints, is.0, first)
padded_low (x ∷ xs) (y ∷ ys) (suc k) is low = padded_low xs ys k is.1 (λ place inside. low (suc place) (omega arith))

four_padded : (xs : List ℤ) (a b c d : ℤ) → length xs ≤ 4 → a ≡ slice_index_or xs 0 (pos 0) → b ≡ slice_index_or xs 1 (pos 0)
    → c ≡ slice_index_or xs 2 (pos 0) → d ≡ slice_index_or xs 3 (pos 0) → IsPadded xs (a ∷ b ∷ c ∷ d ∷ [])
four_padded [] a b c d few first second third fourth = (first, (second, (third, (fourth, tt))))
four_padded (p ∷ []) a b c d few first second third fourth = (first, (second, (third, (fourth, tt))))
four_padded (p ∷ q ∷ []) a b c d few first second third fourth = (first, (second, (third, (fourth, tt))))
four_padded (p ∷ q ∷ r ∷ []) a b c d few first second third fourth = (first, (second, (third, (fourth, tt))))
four_padded (p ∷ q ∷ r ∷ s ∷ []) a b c d few first second third fourth = (first, (second, (third, (fourth, tt))))
four_padded (p ∷ q ∷ r ∷ s ∷ t ∷ xs) a b c d few first second third fourth = absurd (omega arith)

pub linear_lowered : (term : linear.Linear) (a b c d : ℤ) → length term.factors ≤ most_arguments → IsLinearFor (length term.factors) term
    → a ≡ slice_index_or term.factors 0 (pos 0) → b ≡ slice_index_or term.factors 1 (pos 0)
    → c ≡ slice_index_or term.factors 2 (pos 0) → d ≡ slice_index_or term.factors 3 (pos 0)
    → IsLowered (Linear term) (record { constant = term.constant; factors = a ∷ b ∷ c ∷ d ∷ [] })
linear_lowered term a b c d few fits first second third fourth =
    let padded = four_padded term.factors a b c d few first second third fourth in record {
      value = λ values. ap (λ n. term.constant +ℤ n) (padded_value term.factors (a ∷ b ∷ c ∷ d ∷ []) values padded);
      low = λ numbers. let same = padded_total term.factors (a ∷ b ∷ c ∷ d ∷ []) numbers padded in omega (arith, same);
      low_constant = fits.low_constant;
      low_factors = λ k inside. padded_low term.factors (a ∷ b ∷ c ∷ d ∷ []) k padded fits.low_factors;
    }
