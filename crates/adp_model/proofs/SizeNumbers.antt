-- A rule has one least and one greatest size, so to lie between its sizes is to lie between these numbers.
use Rattle.std.proofs.Common.{◌≡◌, ℕ, ◌<◌, ◌≤◌, Option, Some, None, IfSome, List, length, slice_index, slice_index_or, min, refl, sym, ap, subst, arith, ◌∙◌, ◌↔◌}
use Rattle.adp_model.specs.declared.grammar.Grammar.{Grammar}
use Rattle.adp_model.specs.Sizes.{greatest_kept, IsUpTo, IsLeastSize, IsGreatestSize, IsWithinSizes, IsBetween}
use Rattle.adp_model.specs.Checks.{IsChecked}

pub IsLeastSize_unique : (grammar : Grammar) (rule a b : ℕ) → IsLeastSize grammar rule a → IsLeastSize grammar rule b → a ≡ b
IsLeastSize_unique grammar rule a b h k =
    let low : h.0 ≤ k.0 = h.2 k.0 k.1 in
    let high : k.0 ≤ h.0 = k.2 h.0 h.1 in
    let e : h.0 ≡ k.0 = omega arith in
    h.3 ∙ ap (λ n. min n greatest_kept) e ∙ sym k.3

up_to_each_other : (a b : Option ℕ) → IsUpTo a b → IsUpTo b a → a ≡ b
up_to_each_other None None h k = refl
up_to_each_other None (Some b) h k = absurd h
up_to_each_other (Some a) None h k = absurd k
up_to_each_other (Some a) (Some b) h k = let e : a ≡ b = omega arith in ap (λ n. Some n) e

pub IsGreatestSize_unique : (grammar : Grammar) (rule : ℕ) (a b : Option ℕ) → IsGreatestSize grammar rule a → IsGreatestSize grammar rule b → a ≡ b
IsGreatestSize_unique grammar rule a b h k =
    h.3 ∙ up_to_each_other (slice_index_or h.0 rule None) (slice_index_or k.0 rule None) (h.1.least k.0 k.1.are rule h.2) (k.1.least h.0 h.1.are rule h.2) ∙ sym k.3

-- what is known of the numbers that are one rule's sizes
pub sizes_at_numbers : (grammar : Grammar) (least : List ℕ) (greatest : List (Option ℕ)) (rule len : ℕ) → IsLeastSize grammar rule (slice_index least rule) → IsGreatestSize grammar rule (slice_index_or greatest rule None) → IsWithinSizes grammar rule len ↔ IsBetween least greatest rule len
sizes_at_numbers grammar least greatest rule len low high = (
  λ w. (
    subst (λ n. n ≤ len) (IsLeastSize_unique grammar rule w.0 (slice_index least rule) w.2 low) w.4,
    subst (λ o. IfSome o (λ most. len ≤ most)) (IsGreatestSize_unique grammar rule w.1 (slice_index_or greatest rule None) w.3 high) w.5,
  ),
  λ h. (slice_index least rule, slice_index_or greatest rule None, low, high, h.0, h.1),
)

pub sizes_as_numbers : (grammar : Grammar) (algebra : ℕ) (least : List ℕ) (greatest : List (Option ℕ)) (ranks : List ℕ) → IsChecked grammar algebra least greatest ranks → (rule len : ℕ) → rule < length grammar.rules → IsWithinSizes grammar rule len ↔ IsBetween least greatest rule len
sizes_as_numbers grammar algebra least greatest ranks checked rule len l =
    sizes_at_numbers grammar least greatest rule len (checked.least_are rule l) (checked.greatest_are rule l)
