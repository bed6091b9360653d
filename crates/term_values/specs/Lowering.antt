-- Terms that are linear, as they stand or by their form, and what they come to.
use Rattle.std.specs.Prelude.{◌≡◌, ℕ, ◌+◌, ◌<◌, ◌≤◌, ℤ, pos, ◌+ℤ◌, nat_abs, ◌⊎◌, List, replicate, slice_index_or}
use Rattle.adp_model.specs.WideForm as wide
use Rattle.adp_model.specs.WideForm.{Number, Value, Sum, Difference, Product, Greater, Lesser}
use Rattle.adp_model.specs.declared.grammar.Term.{Term}
use Rattle.adp_model.specs.declared.grammar.Term.TheVariants.{Linear, Wide}
use Rattle.adp_model.specs.ProblemFields.{greatest_score}
use Rattle.adp_model.specs.Terms.{magnitude, term_value, weighted_sum, weighted_total, wide_magnitude}
use Rattle.adp_model.specs.TermForms.{IsTermFor}
use Rattle.term_values.specs.declared.lowering.LinearForm.{LinearForm}

-- a sign has at most this many arguments
abbrev pub most_arguments : ℕ
most_arguments = 4

-- the term is one for few arguments
pub record IsForFew (term : Term) : Type 0 where
  pub count : ℕ
  pub few : count ≤ most_arguments
  pub fits : IsTermFor count term

-- no value stands in the wide term
abbrev pub NamesNoValue : wide.WideForm → Type 0
NamesNoValue (Number number) = Unit {0}
NamesNoValue (Value place) = ⊥
NamesNoValue (Sum left right) = NamesNoValue left × NamesNoValue right
NamesNoValue (Difference left right) = NamesNoValue left × NamesNoValue right
NamesNoValue (Product left right) = NamesNoValue left × NamesNoValue right
NamesNoValue (Greater left right) = NamesNoValue left × NamesNoValue right
NamesNoValue (Lesser left right) = NamesNoValue left × NamesNoValue right

-- the wide term is linear by its form: of a product one side names no value, and the greater or the lesser is one of two
-- that name none
abbrev pub IsLinearByForm : wide.WideForm → Type 0
IsLinearByForm (Number number) = Unit {0}
IsLinearByForm (Value place) = Unit {0}
IsLinearByForm (Sum left right) = IsLinearByForm left × IsLinearByForm right
IsLinearByForm (Difference left right) = IsLinearByForm left × IsLinearByForm right
IsLinearByForm (Product left right) =
    (NamesNoValue left × IsLinearByForm right) ⊎ (IsLinearByForm left × NamesNoValue right)
IsLinearByForm (Greater left right) = NamesNoValue left × NamesNoValue right
IsLinearByForm (Lesser left right) = NamesNoValue left × NamesNoValue right

-- the term is linear, or a wide one that is so by its form
abbrev pub IsOfLinearForm : Term → Type 0
IsOfLinearForm (Linear term) = Unit {0}
IsOfLinearForm (Wide term) = IsLinearByForm term

-- what the numbers of a wide term come to is in range: its magnitude, where each argument is 1; those of a linear term
-- are in range as they stand
abbrev pub IsLow : Term → Type 0
IsLow (Linear term) = Unit {0}
IsLow (Wide term) = wide_magnitude term (replicate most_arguments 1) ≤ greatest_score

-- the constant and each factor times the value of its argument make the term's value, nothing of which is greater than
-- the term can become, and they are in range
pub record IsLowered (term : Term) (lowered : LinearForm) : Type 0 where
  pub value : (values : List ℤ) → term_value term values ≡ lowered.constant +ℤ weighted_sum lowered.factors values
  pub low : (numbers : List ℕ)
      → nat_abs lowered.constant + weighted_total lowered.factors numbers ≤ magnitude term numbers
  pub low_constant : nat_abs lowered.constant ≤ greatest_score
  pub low_factors : (k : ℕ) → k < most_arguments → nat_abs (slice_index_or lowered.factors k (pos 0)) ≤ greatest_score
