-- What can't be refuted: one thing behind another, a decision, a list of what is there at each place, a least number.
use Rattle.std.proofs.Common.{◌≡◌, ℕ, zero, suc, ◌+◌, ◌<◌, ◌≤◌, ◌⊎◌, inl, inr, List, [], ◌∷◌, length, get_or, refl, ap, subst, arith}
use Rattle.std.proofs.lemmas.Bool.{cases_eq}
use Rattle.faultless_grammars.specs.Irrefutable.{IsIrrefutable}

pub it_holds : (P : Type 0) → P → IsIrrefutable P
it_holds P p refuted = refuted p

pub and_then : (P Q : Type 0) → IsIrrefutable P → (P → IsIrrefutable Q) → IsIrrefutable Q
and_then P Q there next refuted = there (λ p. next p refuted)

pub decided : (P : Type 0) → IsIrrefutable (P ⊎ (P → ⊥))
decided P refuted = refuted (inr (λ p. refuted (inl p)))

-- ---- one for each number below a count

abbrev pub AreListed : (X : Type 0) → (ℕ → X → Type 0) → X → ℕ → List X → Type 0
AreListed X Holds default count list =
    (length list ≡ count) × ((i : ℕ) → i < count → Holds i (get_or list i default))

pub all_listed : (X : Type 0) (default : X) (count : ℕ) (Holds : ℕ → X → Type 0)
    → ((i : ℕ) → i < count → IsIrrefutable ((x : X) × Holds i x))
    → IsIrrefutable ((list : List X) × AreListed X Holds default count list)
all_listed X default zero Holds each = it_holds _ ([], (refl, λ i l. absurd (omega (arith, l))))
all_listed X default (suc count) Holds each =
    and_then _ _ (each 0 (omega arith)) (λ first.
    and_then _ _ (all_listed X default count (λ i. Holds (suc i)) (λ i l. each (suc i) (omega (arith, l)))) (λ rest.
    it_holds _ (first.0 ∷ rest.0, (ap suc rest.1.0, at first.0 first.1 rest.0 rest.1.1))))
  where
    at : (x : X) → Holds 0 x → (list : List X) → ((i : ℕ) → i < count → Holds (suc i) (get_or list i default)) → (i : ℕ)
        → i < suc count → Holds i (get_or (x ∷ list) i default)
    at x here list later zero l = here
    at x here list later (suc i) l = later i (omega (arith, l))

-- ---- the least number of which something holds

abbrev pub HasLeast : (ℕ → Type 0) → Type 0
HasLeast Holds = (least : ℕ) × Holds least × ((n : ℕ) → Holds n → least ≤ n)

least_above : (Holds : ℕ → Type 0) (left from : ℕ) → ((n : ℕ) → Holds n → from ≤ n) → Holds (from + left)
    → IsIrrefutable (HasLeast Holds)
least_above Holds zero from none_below there =
    let same : from + 0 ≡ from = omega arith in
    it_holds _ (from, subst Holds same there, none_below)
least_above Holds (suc left) from none_below there =
    and_then _ _ (decided (Holds from)) (λ case. elim case [
      | inl here ↦ it_holds _ (from, here, none_below)
      | inr other ↦ least_above Holds left (from + 1) (λ n is. after n is other (cases_eq n from))
          (subst Holds (let same : from + suc left ≡ from + 1 + left = omega arith in same) there)
    ])
  where
    after : (n : ℕ) → Holds n → (Holds from → ⊥) → (n ≡ from) ⊎ (n ≡ from → ⊥) → from + 1 ≤ n
    after n is other (inl same) = absurd (other (subst Holds same is))
    after n is other (inr differs) = let low = none_below n is in grind (arith, differs, low)

pub least_there : (Holds : ℕ → Type 0) (n : ℕ) → Holds n → IsIrrefutable (HasLeast Holds)
least_there Holds n is = least_above Holds n 0 (λ m held. omega arith) (subst Holds (let same : n ≡ 0 + n = omega arith in same) is)
