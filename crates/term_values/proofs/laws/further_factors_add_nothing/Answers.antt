use Rattle.std.proofs.Common.{◌≡◌, ℕ, ◌+◌, ◌*◌, ℤ, ◌+ℤ◌, ◌*ℤ◌, nat_abs, List, [], ◌∷◌, length, take, refl, ap}
use Rattle.adp_model.specs.Terms.{weighted_sum, weighted_total}
use Rattle.term_values.proofs.laws.further_factors_add_nothing.Goals as goal

sums : (factors values : List ℤ) → weighted_sum (take (length values) factors) values ≡ weighted_sum factors values
sums [] [] = refl
sums [] (value ∷ values) = refl
sums (factor ∷ factors) [] = refl
sums (factor ∷ factors) (value ∷ values) = ap (λ n. (factor *ℤ value) +ℤ n) (sums factors values)

totals : (factors : List ℤ) (numbers : List ℕ) → weighted_total (take (length numbers) factors) numbers ≡ weighted_total factors numbers
totals [] [] = refl
totals [] (number ∷ numbers) = refl
totals (factor ∷ factors) [] = refl
totals (factor ∷ factors) (number ∷ numbers) = ap (λ n. nat_abs factor * number + n) (totals factors numbers)

pub returns : goal.returns
returns c = record { sums = sums; totals = totals }
