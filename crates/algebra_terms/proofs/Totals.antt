-- What parts add up to, one part after the other.
use Rattle.std.proofs.Common.{◌≡◌, ℕ, ◌+◌, ◌*◌, ◌^◌, ◌<◌, ◌≤◌, ℤ, pos, ◌+ℤ◌, nat_abs, FitsSigned, to_z, of_z, Bool, true, false, ◌||◌, cond, Option, Some, None, unwrap_or, List, [], ◌∷◌, ◌++◌, length, take, drop, get_or, nat_eq, refl, sym, ◌∙◌, ap, arith}
use Rattle.std.proofs.lemmas.Int.{ints, fits_signed_from_abs, to_z-of_z}
use Rattle.std.proofs.lemmas.List.{take_more, drop_more, map_push}
use Rattle.std.proofs.Math.IntN.{+ℤ_assoc, +ℤ_idr, +ℤ_idl}
use Rattle.std.proofs.lemmas.List.Folds.{list_any-append}
use Rattle.std.specs.List.{list_any, list_all}
use Rattle.std.specs.Int.{w128}
use Rattle.std.specs.Cmp.Lexicographic.{same_text}
use lib.Pointwise.{pointwise}
use Rattle.adp_model.specs.WellFormed.{is_in_range}
use Rattle.job_texts.specs.TermText.{Part, amount_for, total, totals_fit}
use Rattle.algebra_terms.specs.declared.part.Part as code_parts
use Rattle.algebra_terms.specs.Reading.{part_of, parts_seen, is_part_of, factor_in}

pub seen_more : (parts : List code_parts.Part) (i : ℕ) (d : code_parts.Part) → i < length parts
    → parts_seen (take (i + 1) parts) ≡ parts_seen (take i parts) ++ part_of (get_or parts i d) ∷ []
seen_more parts i d inside = rw (take_more parts i d inside) (map_push part_of (take i parts) (get_or parts i d))

pub total_push : (variable : Option (List ℕ)) (parts : List Part) (part : Part)
    → total variable (parts ++ part ∷ []) ≡ total variable parts +ℤ amount_for variable part
total_push variable [] part = +ℤ_idr (amount_for variable part) ∙ sym (+ℤ_idl (amount_for variable part))
total_push variable (first ∷ parts) part = rw (total_push variable parts part) (sym (+ℤ_assoc (amount_for variable first) (total variable parts) (amount_for variable part)))

-- a variable that no part has has nothing added to it
none_added : (variable : List ℕ) (parts : List Part) → list_any (is_part_of variable) parts ≡ false → total (Some variable) parts ≡ pos 0
none_added variable [] h = refl
none_added variable (part ∷ parts) h = step (is_part_of variable part) refl h (none_added variable parts)
  where
    step : (b : Bool) → is_part_of variable part ≡ b → list_any (is_part_of variable) (part ∷ parts) ≡ false
        → (list_any (is_part_of variable) parts ≡ false → total (Some variable) parts ≡ pos 0) → total (Some variable) (part ∷ parts) ≡ pos 0
    step true e h others = let contrary : true ≡ false = rw e at h in cc
    step false e h others = rw (e, others (rw e at h)) refl

-- what the parts add to a variable, whether one of them has it or none
pub factor_is : (parts : List Part) (variable : List ℕ) → unwrap_or (factor_in parts variable) (pos 0) ≡ total (Some variable) parts
factor_is parts variable = step (list_any (is_part_of variable) parts) refl
  where
    step : (b : Bool) → list_any (is_part_of variable) parts ≡ b → unwrap_or (factor_in parts variable) (pos 0) ≡ total (Some variable) parts
    step true e = rw e refl
    step false e = rw e (sym (none_added variable parts e))

pub or_true : (b : Bool) → (b || true) ≡ true
or_true true = refl
or_true false = refl

pub or_false : (b : Bool) → (b || false) ≡ b
or_false true = refl
or_false false = refl

-- a part of another variable, or of none
pub other_part : (seen : List Part) (part : Part) (name : List ℕ) → is_part_of name part ≡ false → factor_in (seen ++ part ∷ []) name ≡ factor_in seen name
other_part seen part name other =
    let has : list_any (is_part_of name) (seen ++ part ∷ []) ≡ list_any (is_part_of name) seen =
    list_any-append (is_part_of name) seen (part ∷ []) ∙ rw other (or_false (list_any (is_part_of name) seen)) in
    let adds : total (Some name) (seen ++ part ∷ []) ≡ total (Some name) seen =
    total_push (Some name) seen part ∙ rw other (+ℤ_idr (total (Some name) seen)) in
    rw (has, adds) refl

pub own_part : (seen : List Part) (part : Part) (name : List ℕ) → is_part_of name part ≡ true
    → factor_in (seen ++ part ∷ []) name ≡ Some (unwrap_or (factor_in seen name) (pos 0) +ℤ unwrap_or part.amount (pos 0))
own_part seen part name own =
    let has : list_any (is_part_of name) (seen ++ part ∷ []) ≡ true =
    list_any-append (is_part_of name) seen (part ∷ []) ∙ rw own (or_true (list_any (is_part_of name) seen)) in
    let adds : total (Some name) (seen ++ part ∷ []) ≡ total (Some name) seen +ℤ unwrap_or part.amount (pos 0) =
    total_push (Some name) seen part ∙ rw own refl in
    rw (has, adds, factor_is seen name) refl

pub no_part : (part : Part) (name : List ℕ) → part.variable ≡ None → is_part_of name part ≡ false
no_part part name h = rw h refl

-- a map from variables to totals, where a part's variable gets a new total
pub totals_more : (seen : List Part) (part : Part) (variable : List ℕ) (old new : List ℕ → Option ℤ) (value : ℤ) → part.variable ≡ Some variable
    → ((name : List ℕ) → old name ≡ factor_in seen name)
    → ((name : List ℕ) → new name ≡ cond (pointwise nat_eq variable name) (Some value) (old name))
    → value ≡ unwrap_or (old variable) (pos 0) +ℤ unwrap_or part.amount (pos 0)
    → (name : List ℕ) → new name ≡ factor_in (seen ++ part ∷ []) name
totals_more seen part variable old new value is so_far changed value_is name = step (pointwise nat_eq variable name) refl
  where
    step : (b : Bool) → pointwise nat_eq variable name ≡ b → new name ≡ factor_in (seen ++ part ∷ []) name
    step true h =
        let same : variable ≡ name = same_text variable name (sym h) in
        let own : is_part_of name part ≡ true = rw is h in
        let value_is' : value ≡ unwrap_or (factor_in seen name) (pos 0) +ℤ unwrap_or part.amount (pos 0) =
        value_is ∙ ap (λ (found : Option ℤ). unwrap_or found (pos 0) +ℤ unwrap_or part.amount (pos 0)) (ap old same ∙ so_far name) in
        changed name ∙ rw h (ap (λ (value : ℤ). Some value) value_is') ∙ sym (own_part seen part name own)
    step false h =
        let other : is_part_of name part ≡ false = rw is h in
        changed name ∙ rw h (so_far name) ∙ sym (other_part seen part name other)

pub small_more : (i : ℕ) (variable : List ℕ) (old new : List ℕ → Option ℤ) (value amount : ℤ)
    → ((name : List ℕ) → nat_abs (unwrap_or (old name) (pos 0)) ≤ 2 ^ 63 * i)
    → ((name : List ℕ) → new name ≡ cond (pointwise nat_eq variable name) (Some value) (old name))
    → value ≡ unwrap_or (old variable) (pos 0) +ℤ amount → nat_abs amount ≤ 2 ^ 63
    → (name : List ℕ) → nat_abs (unwrap_or (new name) (pos 0)) ≤ 2 ^ 63 * (i + 1)
small_more i variable old new value amount so_far changed value_is small name = step (pointwise nat_eq variable name) refl
  where
    step : (b : Bool) → pointwise nat_eq variable name ≡ b → nat_abs (unwrap_or (new name) (pos 0)) ≤ 2 ^ 63 * (i + 1)
    step true h = rw (changed name, h, value_is) (omega (arith, ints, so_far variable))
    step false h = rw (changed name, h) (omega (arith, so_far name))

-- the sum fits 128 bits, since there are fewer than 2 ^ 64 parts
pub sum_fits : (before amount : ℤ) (i : ℕ) → nat_abs before ≤ 2 ^ 63 * i → nat_abs amount ≤ 2 ^ 63 → i + 1 < 2 ^ 64 → FitsSigned w128 (before +ℤ amount)
sum_fits before amount i small_before small_amount inside = fits_signed_from_abs w128 (before +ℤ amount) (omega (arith, ints))

-- the code's sum, which wraps nowhere
pub sum_is : (before amount : ℤ) → FitsSigned w128 before → FitsSigned w128 amount → FitsSigned w128 (before +ℤ amount)
    → to_z w128 (of_z w128 (to_z w128 (of_z w128 before) +ℤ to_z w128 (of_z w128 amount))) ≡ before +ℤ amount
sum_is before amount fits_before fits_amount fits_sum = simp to_z-of_z

-- a part whose sum is in range
pub fit_more : (all : List Part) (parts : List code_parts.Part) (i : ℕ) (d : code_parts.Part) (sum : ℤ) → i < length parts
    → totals_fit all ≡ list_all (λ (part : Part). is_in_range (total part.variable all)) (parts_seen (drop i parts))
    → sum ≡ total (part_of (get_or parts i d)).variable all → is_in_range sum ≡ true
    → totals_fit all ≡ list_all (λ (part : Part). is_in_range (total part.variable all)) (parts_seen (drop (i + 1) parts))
fit_more all parts i d sum inside so_far is fits =
    let own : is_in_range (total (part_of (get_or parts i d)).variable all) ≡ true = rw (← is) fits in
    so_far ∙ rw (drop_more parts i d inside, own) refl
