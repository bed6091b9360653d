-- The numbers of texts are in range: weights, constants and factors.
use Rattle.std.proofs.Common.{◌≡◌, ℕ, zero, suc, ◌^◌, ℤ, pos, Bool, true, false, cond, ◌&&◌, nat_eq, nat_lt, Option, Some, None, IfSome, unwrap_or, List, [], ◌∷◌, ◌++◌, length, refl, ap, subst}
use Rattle.std.specs.List.{list_all, list_any}
use Rattle.std.specs.Option.{option_eq}
use Rattle.std.specs.Str.{all_ascii_digits}
use Rattle.std.specs.Str.Parse.{digits_value}
use Rattle.std.proofs.lemmas.Bool.{and_parts, and_from, or_parts}
use lib.Pointwise.{pointwise}
use Rattle.adp_model.specs.WellFormed.{is_in_range}
use Rattle.job_texts.specs.TermText.{Part, number_of, signed, total, totals_fit, is_among, factor_after, factors_after}
use Rattle.job_texts.specs.Declarations.{Item}
use Rattle.job_texts.specs.TextFaults.{weight_of}
use Rattle.grammar_text.proofs.Sorts.{same_text}

-- ---- weights

small_if : (b small : Bool) (n : ℕ) → nat_lt n (2 ^ 62) ≡ small → IfSome (cond (b && small) (Some n) None) (λ m. nat_lt m (2 ^ 62) ≡ true)
small_if true true n h = h
small_if true false n h = tt
small_if false small n h = tt

pub number_small : (word : List ℕ) → IfSome (number_of word) (λ n. nat_lt n (2 ^ 62) ≡ true)
number_small word = small_if (all_ascii_digits word) (nat_lt (digits_value 10 word) (2 ^ 62)) (digits_value 10 word) refl

signed_in_range : (negative : Bool) (number : Option ℕ) → IfSome number (λ n. nat_lt n (2 ^ 62) ≡ true) → is_in_range (unwrap_or (signed negative number) (pos 0)) ≡ true
signed_in_range negative None h = refl
signed_in_range true (Some zero) h = refl
signed_in_range true (Some (suc n)) h = h
signed_in_range false (Some n) h = h

pub weight_in_range : (item : Item) → is_in_range (unwrap_or (weight_of item) (pos 0)) ≡ true
weight_in_range item = signed_in_range item.negative (number_of item.number) (number_small item.number)

-- ---- totals

abbrev is_of : Option (List ℕ) → Part → Bool
is_of variable part = option_eq (pointwise nat_eq) part.variable variable

same_variable : (variable other : Option (List ℕ)) → option_eq (pointwise nat_eq) variable other ≡ true → variable ≡ other
same_variable None None h = refl
same_variable None (Some other) h = absurd cc
same_variable (Some variable) None h = absurd cc
same_variable (Some variable) (Some other) h = ap (λ (v : List ℕ). Some v) (same_text variable other h)

total_zero : (variable : Option (List ℕ)) (parts : List Part) → list_any (is_of variable) parts ≡ false → total variable parts ≡ pos 0
total_zero variable [] h = refl
total_zero variable (part ∷ parts) h =
    let none = or_parts (is_of variable part) (list_any (is_of variable) parts) h in
    rw (none.0, total_zero variable parts none.1) refl

found_total : (all parts : List Part) (variable : Option (List ℕ)) → list_all (λ (part : Part). is_in_range (total part.variable all)) parts ≡ true → list_any (is_of variable) parts ≡ true → is_in_range (total variable all) ≡ true
found_total all [] variable h some = absurd cc
found_total all (part ∷ parts) variable h some =
    let fits = and_parts (is_in_range (total part.variable all)) (list_all (λ (p : Part). is_in_range (total p.variable all)) parts) h in
    here (is_of variable part) refl fits.0 (found_total all parts variable fits.1)
  where
    here : (same : Bool) → is_of variable part ≡ same → is_in_range (total part.variable all) ≡ true → (list_any (is_of variable) parts ≡ true → is_in_range (total variable all) ≡ true) → is_in_range (total variable all) ≡ true
    here true e fit others = subst (λ v. is_in_range (total v all) ≡ true) (same_variable part.variable variable e) fit
    here false e fit others = others (rw e at some)

total_by : (parts : List Part) (variable : Option (List ℕ)) (some : Bool) → list_any (is_of variable) parts ≡ some → totals_fit parts ≡ true → is_in_range (total variable parts) ≡ true
total_by parts variable true e h = found_total parts parts variable h e
total_by parts variable false e h = rw (total_zero variable parts e) refl

pub total_in_range : (parts : List Part) (variable : Option (List ℕ)) → totals_fit parts ≡ true → is_in_range (total variable parts) ≡ true
total_in_range parts variable h = total_by parts variable (list_any (is_of variable) parts) refl h

zero_or : (b : Bool) (number : ℤ) → is_in_range number ≡ true → is_in_range (cond b (pos 0) number) ≡ true
zero_or true number h = refl
zero_or false number h = h

pub factors_in_range : (earlier variables : List (List ℕ)) (parts : List Part) → totals_fit parts ≡ true → list_all is_in_range (factors_after earlier variables parts) ≡ true
factors_in_range earlier [] parts h = refl
factors_in_range earlier (variable ∷ variables) parts h =
    and_from (is_in_range (factor_after earlier variable parts)) (list_all is_in_range (factors_after (earlier ++ variable ∷ []) variables parts))
    (zero_or (is_among earlier variable) (total (Some variable) parts) (total_in_range parts (Some variable) h)) (factors_in_range (earlier ++ variable ∷ []) variables parts h)

pub factors_counted : (earlier variables : List (List ℕ)) (parts : List Part) → length (factors_after earlier variables parts) ≡ length variables
factors_counted earlier [] parts = refl
factors_counted earlier (variable ∷ variables) parts = ap suc (factors_counted (earlier ++ variable ∷ []) variables parts)
