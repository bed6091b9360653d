-- Which sums of parts are in range.
use Rattle.std.proofs.Common.{◌≡◌, ℕ, ◌^◌, ◌<◌, pos, nat_abs, FitsSigned, w64, Bool, true, false, ◌&&◌, nat_eq, ◌⊎◌, inl, inr, Option, Some, None, List, [], ◌∷◌, refl, sym, ap, arith}
use Rattle.std.specs.List.{list_all}
use Rattle.std.specs.Option.{option_eq}
use Rattle.std.specs.Cmp.Lexicographic.{same_text}
use Rattle.std.proofs.lemmas.Int.{fits_signed_from_abs}
use lib.Pointwise.{pointwise}
use Rattle.adp_model.specs.WellFormed.{is_in_range}
use Rattle.job_texts.specs.TermText.{Part, total, totals_fit}

pub same_variable : (a b : Option (List ℕ)) → option_eq (pointwise nat_eq) a b ≡ true → a ≡ b
same_variable None None h = refl
same_variable None (Some name) h = cc
same_variable (Some name) None h = cc
same_variable (Some name) (Some other) h = ap (λ (name : List ℕ). Some name) (same_text name other (sym h))

pub both : (a b : Bool) → (a && b) ≡ true → (a ≡ true) × (b ≡ true)
both true b h = (refl, h)
both false b h = cc

-- what some part adds to is in range, and what none adds to is 0
added : (all : List Part) (variable : Option (List ℕ)) (parts : List Part) → list_all (λ (part : Part). is_in_range (total part.variable all)) parts ≡ true
    → (is_in_range (total variable all) ≡ true) ⊎ (total variable parts ≡ pos 0)
added all variable [] h = inr refl
added all variable (part ∷ parts) h =
    step (option_eq (pointwise nat_eq) part.variable variable) refl
    (both (is_in_range (total part.variable all)) (list_all (λ (part : Part). is_in_range (total part.variable all)) parts) h)
    (added all variable parts)
  where
    step : (b : Bool) → option_eq (pointwise nat_eq) part.variable variable ≡ b
        → (is_in_range (total part.variable all) ≡ true) × (list_all (λ (part : Part). is_in_range (total part.variable all)) parts ≡ true)
        → (list_all (λ (part : Part). is_in_range (total part.variable all)) parts ≡ true → (is_in_range (total variable all) ≡ true) ⊎ (total variable parts ≡ pos 0))
        → (is_in_range (total variable all) ≡ true) ⊎ (total variable (part ∷ parts) ≡ pos 0)
    step true same fits others = inl (rw (sym (same_variable part.variable variable same)) fits.0)
    step false other fits others =
        elim (others fits.1) [ inl h ↦ inl h | inr none ↦ inr (rw (other, none) refl) ]

-- where all that parts add to is in range, so is each sum
pub total_fits : (parts : List Part) (variable : Option (List ℕ)) → totals_fit parts ≡ true → FitsSigned w64 (total variable parts)
total_fits parts variable h =
    elim (added parts variable parts h) [ inl fits ↦ by_range fits | inr none ↦ rw none (fits_signed_from_abs w64 (pos 0) (omega arith)) ]
  where
    by_range : is_in_range (total variable parts) ≡ true → FitsSigned w64 (total variable parts)
    by_range fits = let small : nat_abs (total variable parts) < 2 ^ 62 = grind arith in fits_signed_from_abs w64 (total variable parts) (omega arith)
