-- What is so of a term for so many arguments.
use Rattle.std.specs.Prelude.{◌≡◌, ℕ, ◌<◌, ◌≤◌, pos, ◌≤ℤ◌, nat_abs, IsTrue, length, slice_index_or}
use Rattle.std.specs.List.{AllByRecursion}
use Rattle.adp_model.specs.declared.grammar.Linear as linear
use Rattle.adp_model.specs.WideForm as wide
use Rattle.adp_model.specs.WideForm.{Number, Value}
use Rattle.adp_model.specs.declared.grammar.Term.{Term}
use Rattle.adp_model.specs.declared.grammar.Term.TheVariants.{Linear, Wide}
use Rattle.adp_model.specs.Terms.{leaves}
use Rattle.adp_model.specs.WellFormed.{has_no_value_twice, most_leaves}
use Rattle.adp_model.specs.ProblemFields.{greatest_score}

-- a linear term has a factor for each argument, and its numbers are in range
pub record IsLinearFor (count : ℕ) (term : linear.Linear) : Type 0 where
  pub factors : length term.factors ≡ count
  pub low_constant : nat_abs term.constant ≤ greatest_score
  pub low_factors : (k : ℕ) → k < length term.factors → nat_abs (slice_index_or term.factors k (pos 0)) ≤ greatest_score

-- a leaf is a number in range that is not negative, or the value of one of the arguments
abbrev pub IsLeafFor : ℕ → wide.WideForm → Type 0
IsLeafFor count (Number number) = (pos 0 ≤ℤ number) × (nat_abs number ≤ greatest_score)
IsLeafFor count (Value place) = place < count
IsLeafFor count term = ⊥

-- a wide term has few leaves, all of them right, and no value stands twice in it
pub record IsWideFor (count : ℕ) (term : wide.WideForm) : Type 0 where
  pub few : length (leaves term) ≤ most_leaves
  pub right : AllByRecursion (IsLeafFor count) (leaves term)
  pub once : IsTrue (has_no_value_twice (leaves term))

-- a term for so many arguments
abbrev pub IsTermFor : ℕ → Term → Type 0
IsTermFor count (Linear term) = IsLinearFor count term
IsTermFor count (Wide term) = IsWideFor count term
