-- Rows that are raised number by number: what holds of the numbers up to a bound.
use Rattle.std.proofs.Common.{◌≡◌, ◌⊎◌, ℕ, ◌+◌, ◌<◌, ℤ, Some, List, slice_get, slice_set, ap, subst, ◌∙◌, refl, inl, inr, arith}
use Rattle.std.proofs.lemmas.Bool.{cases_lt}
use Rattle.score_numbers.specs.Packing.{Width}
use Rattle.score_rows.specs.Raised.{AreHighest, IsHighest}
use Rattle.score_rows.proofs.Highest.{row_at, rows_both, rows_same, rows_still}
use Rattle.score_rows.proofs.Positions.{set_there}

-- the row is raised by what holds at the places before the bound, each at its position, and is as it was at others
pub record AreRaisedBefore (width : Width) (At : ℕ → ℕ) (Holds : ℕ → ℤ → Type 0) (IsLow : ℕ → Type 0) (old new : List ℤ) (bound : ℕ) : Type 0 where
  pub raised : AreHighest width (λ k number. (place : ℕ) × (place < bound) × (k ≡ At place) × Holds place number)
      (λ k. (place : ℕ) → k ≡ At place → IsLow place) old new
  pub others : (k : ℕ) → ((place : ℕ) → place < bound → k ≡ At place → ⊥) → slice_get new k ≡ slice_get old k

module _ (width : Width) (At : ℕ → ℕ) (Holds : ℕ → ℤ → Type 0) (IsLow : ℕ → Type 0) (old : List ℤ) where
  pub none_raised : AreRaisedBefore width At Holds IsLow old old 0
  none_raised = record {
    raised = rows_still width (λ k number. (place : ℕ) × (place < 0) × (k ≡ At place) × Holds place number)
        (λ k. (place : ℕ) → k ≡ At place → IsLow place) old (λ k number (place, l, at, has). absurd (omega (arith, l)));
    others = λ k none. refl;
  }

  -- one place more
  pub raised_more : (apart : (a b : ℕ) → At a ≡ At b → a ≡ b) (row : List ℤ) (bound : ℕ) (before after : ℤ)
      → slice_get row (At bound) ≡ Some before → (IsLow bound → IsHighest width (Holds bound) before after)
      → AreRaisedBefore width At Holds IsLow old row bound
      → AreRaisedBefore width At Holds IsLow old (slice_set row (At bound) after) (bound + 1)
  raised_more apart row bound before after there highest so_far = record {
    raised =
        let Here : ℕ → ℤ → Type 0 = λ k number. (k ≡ At bound) × Holds bound number in
        let Low : ℕ → Type 0 = λ k. (place : ℕ) → k ≡ At place → IsLow place in
        let Before : ℕ → ℤ → Type 0 = λ k number. (place : ℕ) × (place < bound) × (k ≡ At place) × Holds place number in
        let one = row_at width Here Low row (At bound) before after there (λ k number has. has.0)
        (λ low. highest_here (highest (low bound refl))) in
        rows_same width (λ k number. Before k number ⊎ Here k number)
        (λ k number. (place : ℕ) × (place < bound + 1) × (k ≡ At place) × Holds place number)
        (λ k. Low k × Low k) Low old (slice_set row (At bound) after)
        (λ k number low has. elim has [
          | inl (place, l, at, h) ↦ (place, omega (arith, l), at, h)
          | inr (at, h) ↦ (bound, omega arith, at, h)
        ])
        (λ k number low (place, l, at, h). elim (cases_lt place bound) [
          | inl l' ↦ inl (place, l', at, h)
          | inr m ↦
              let same : place ≡ bound = omega arith in
              inr (at ∙ ap At same, subst (λ q. Holds q number) same h)
        ])
        (λ k low. (low, low))
        (rows_both width Before Here Low Low old row (slice_set row (At bound) after) so_far.raised one);
    others = λ k none. set_there row (At bound) k after (λ e. none bound (omega arith) e)
        ∙ so_far.others k (λ place l e. none place (omega (arith, l)) e);
  }
    where
      highest_here : IsHighest width (Holds bound) before after → IsHighest width (λ number. (At bound ≡ At bound) × Holds bound number) before after
      highest_here it = record {
        risen = it.risen;
        all = λ number has. it.all number has.1;
        one = elim it.one [
          | inl same ↦ inl same
          | inr (inl has) ↦ inr (inl (refl, has))
          | inr (inr less) ↦ inr (inr less)
        ];
      }

  -- a place of which nothing holds
  pub raised_past : (row : List ℤ) (bound : ℕ) → ((number : ℤ) → Holds bound number → ⊥)
      → AreRaisedBefore width At Holds IsLow old row bound → AreRaisedBefore width At Holds IsLow old row (bound + 1)
  raised_past row bound none so_far = record {
    raised =
        let Low : ℕ → Type 0 = λ k. (place : ℕ) → k ≡ At place → IsLow place in
        rows_same width (λ k number. (place : ℕ) × (place < bound) × (k ≡ At place) × Holds place number)
        (λ k number. (place : ℕ) × (place < bound + 1) × (k ≡ At place) × Holds place number)
        Low Low old row
        (λ k number low (place, l, at, h). (place, omega (arith, l), at, h))
        (λ k number low (place, l, at, h). elim (cases_lt place bound) [
          | inl l' ↦ (place, l', at, h)
          | inr m ↦ let same : place ≡ bound = omega arith in absurd (none number (subst (λ q. Holds q number) same h))
        ])
        (λ k low. low) so_far.raised;
    others = λ k apart. so_far.others k (λ place l e. apart place (omega (arith, l)) e);
  }
