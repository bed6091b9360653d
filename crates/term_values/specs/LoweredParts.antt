-- What lowered terms come to in parts.
use Rattle.std.specs.Prelude.{◌≡◌, ℕ, ◌+◌, ◌<◌, ◌≤◌, ℤ, pos, ◌+ℤ◌, ◌*ℤ◌, nat_abs, List, [], ◌∷◌, Option, Some, None, slice_index_or}
use Rattle.adp_model.specs.WideForm as wide
use Rattle.adp_model.specs.declared.grammar.Term.TheVariants.{Wide}
use Rattle.adp_model.specs.ProblemFields.{greatest_score}
use Rattle.adp_model.specs.Terms.{weighted_total, wide_magnitude, wide_value}
use Rattle.term_values.specs.declared.lowering.LinearForm.{LinearForm}
use Rattle.term_values.specs.Lowering.{IsLinearByForm, IsLow, IsLowered, NamesNoValue, most_arguments}

-- the numbers of a lowered term, added up by their absolute values
abbrev pub size_of : LinearForm → ℕ
size_of lowered = nat_abs lowered.constant + weighted_total lowered.factors (1 ∷ 1 ∷ 1 ∷ 1 ∷ [])

-- the numbers are in range
pub record AreInRange (lowered : LinearForm) : Type 0 where
  pub low_constant : nat_abs lowered.constant ≤ greatest_score
  pub low_factors : (k : ℕ) → k < most_arguments → nat_abs (slice_index_or lowered.factors k (pos 0)) ≤ greatest_score

-- each is the sum of two in the same place
abbrev pub AreSums : List ℤ → List ℤ → List ℤ → Type 0
AreSums [] [] [] = Unit {0}
AreSums (one ∷ ones) (other ∷ others) (sum ∷ sums) = (sum ≡ one +ℤ other) × AreSums ones others sums
AreSums ones others sums = ⊥

-- each is so many times the one in the same place
abbrev pub AreProducts : ℤ → List ℤ → List ℤ → Type 0
AreProducts factor [] [] = Unit {0}
AreProducts factor (one ∷ ones) (product ∷ products) = (product ≡ factor *ℤ one) × AreProducts factor ones products
AreProducts factor ones products = ⊥

-- number by number the sum of two
pub record IsSumOf (one other sum : LinearForm) : Type 0 where
  pub constant : sum.constant ≡ one.constant +ℤ other.constant
  pub factors : AreSums one.factors other.factors sum.factors
  pub low : AreInRange sum

-- number by number so many times another
pub record IsProductOf (factor : ℤ) (one product : LinearForm) : Type 0 where
  pub constant : product.constant ≡ factor *ℤ one.constant
  pub factors : AreProducts factor one.factors product.factors
  pub low : AreInRange product

-- a wide term has this value, whatever values its arguments have, and can become as great
pub record IsFixed (term : wide.WideForm) (number : ℤ) : Type 0 where
  pub unnamed : NamesNoValue term
  pub value : (values : List ℤ) → wide_value term values ≡ number
  pub within : (numbers : List ℕ) → nat_abs number ≤ wide_magnitude term numbers
  pub low : nat_abs number ≤ greatest_score

-- the value of a wide term that names none and is low
abbrev pub MatchFixed : wide.WideForm → Option ℤ → Type 0
MatchFixed term None = NamesNoValue term → IsLow (Wide term) → ⊥
MatchFixed term (Some number) = IsFixed term number

-- what a wide term comes to that is linear by its form and low
abbrev pub MatchLowered : wide.WideForm → Option LinearForm → Type 0
MatchLowered term None = IsLinearByForm term → IsLow (Wide term) → ⊥
MatchLowered term (Some lowered) = IsLinearByForm term × IsLowered (Wide term) lowered
