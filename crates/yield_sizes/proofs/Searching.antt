-- Searches among the first numbers, parts of lists, and results.
use Rattle.std.proofs.Common.{ℕ, zero, suc, ◌<◌, ◌⊎◌, inl, inr, List, ◌∷◌, Result, Ok, Err, IfOk, subst, sym, refl, arith}
use Rattle.std.specs.List.{Contains}
use Rattle.std.proofs.lemmas.Bool.{cases_eq}

-- a number of one sort, or all are of the other
pub search_below : (P Q : ℕ → Type 0) (n : ℕ) → ((k : ℕ) → k < n → P k ⊎ Q k) → ((k : ℕ) × (k < n) × P k) ⊎ ((k : ℕ) → k < n → Q k)
search_below P Q zero each = inr (λ k l. absurd (omega arith))
search_below P Q (suc n) each = elim (search_below P Q n (λ k l. each k (omega arith))) [
  | inl found ↦ inl (found.0, omega (arith, found.1), found.2)
  | inr none ↦ elim (each n (omega arith)) [
    | inl here ↦ inl (n, omega arith, here)
    | inr here ↦ inr (λ k l. elim (cases_eq k n) [ inl same ↦ subst Q (sym same) here | inr other ↦ none k (omega arith) ])
  ]
]

pub contains_here : {X : Type 0} (x : X) (xs : List X) → Contains (x ∷ xs) x
contains_here x xs = (0, omega arith, refl)

pub contains_later : {X : Type 0} (x y : X) (xs : List X) → Contains xs y → Contains (x ∷ xs) y
contains_later x y xs contained = (suc contained.0, omega (arith, contained.1), contained.2)

pub if_ok_weaker : {A E : Type 0} (result : Result A E) (P Q : A → Type 0) → ((a : A) → P a → Q a) → IfOk result P → IfOk result Q
if_ok_weaker (Ok a) P Q h k = h a k
if_ok_weaker (Err e) P Q h k = tt
