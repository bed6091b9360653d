-- What can't be refuted: one thing behind another, a decision, and the first of some numbers.
use Rattle.std.proofs.Common.{ℕ, zero, suc, ◌<◌, ◌⊎◌, inl, inr, sym, subst, arith}
use Rattle.std.proofs.lemmas.Bool.{cases_eq}
use Rattle.adp_model.specs.GrammarFaults.{IsFirstFaulty}
use Rattle.faultless_grammars.specs.Irrefutable.{IsIrrefutable}

pub it_holds : (P : Type 0) → P → IsIrrefutable P
it_holds P p refuted = refuted p

pub and_then : (P Q : Type 0) → IsIrrefutable P → (P → IsIrrefutable Q) → IsIrrefutable Q
and_then P Q there next refuted = there (λ p. next p refuted)

pub decided : (P : Type 0) → IsIrrefutable (P ⊎ (P → ⊥))
decided P refuted = refuted (inr (λ p. refuted (inl p)))

-- the first number below a count at which it fails, or it holds at all of them
abbrev pub FailsOrHolds : (ℕ → Type 0) → ℕ → Type 0
FailsOrHolds Holds count =
    ((n : ℕ) × IsFirstFaulty (λ n. Holds n → ⊥) Holds count n) ⊎ ((n : ℕ) → n < count → Holds n)

one_more : (Holds : ℕ → Type 0) (count : ℕ) → Holds count ⊎ (Holds count → ⊥) → FailsOrHolds Holds count
    → FailsOrHolds Holds (suc count)
one_more Holds count case (inl (n, first)) =
    inl (n, record { in_range = omega (arith, first.in_range); faulty = first.faulty; before = first.before })
one_more Holds count (inr fails) (inr all) = inl (count, record { in_range = omega arith; faulty = fails; before = all })
one_more Holds count (inl holds) (inr all) = inr (λ n inside. elim (cases_eq n count) [
  | inl same ↦ subst Holds (sym same) holds
  | inr differs ↦ all n (grind (arith, inside, differs))
])

pub fails_or_holds : (Holds : ℕ → Type 0) (count : ℕ) → IsIrrefutable (FailsOrHolds Holds count)
fails_or_holds Holds zero = it_holds _ (inr (λ n inside. absurd (omega (arith, inside))))
fails_or_holds Holds (suc count) =
    and_then _ _ (fails_or_holds Holds count) (λ earlier.
    and_then _ _ (decided (Holds count)) (λ case. it_holds _ (one_more Holds count case earlier)))
