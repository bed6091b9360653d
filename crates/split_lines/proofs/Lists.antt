-- Elements of a list and of a part of it.
use Rattle.std.proofs.Common.{◌≡◌, ◌⊎◌, ℕ, zero, suc, ◌+◌, ◌<◌, List, [], ◌∷◌, ◌++◌, length, get_or, take, drop, slice_get, inl, inr, sym, ap, refl, ◌∙◌, arith}
use Rattle.std.specs.List.{AllByRecursion, Contains}
use Rattle.std.proofs.lemmas.Bool.{cases_eq}

pub contained_or_not : (xs : List ℕ) (x : ℕ) → Contains xs x ⊎ (Contains xs x → ⊥)
contained_or_not [] x = inr (λ (k, l, e). absurd (omega arith))
contained_or_not (y ∷ xs) x =
    elim (cases_eq y x) [
      | inl e ↦ inl (0, omega arith, e)
      | inr apart ↦
          elim (contained_or_not xs x) [
            | inl (k, l, e) ↦ inl (suc k, omega arith, e)
            | inr none ↦ inr (λ (k, l, e). later y xs x apart none k l e)
          ]
    ]
  where
    later : (y : ℕ) (xs : List ℕ) (x : ℕ) → (y ≡ x → ⊥) → (Contains xs x → ⊥) → (k : ℕ) → k < length (y ∷ xs) → get_or (y ∷ xs) k x ≡ x → ⊥
    later y xs x apart none zero l e = apart e
    later y xs x apart none (suc k) l e = none (k, omega arith, e)

pub slice_get-drop : {V : Type 0} (n k : ℕ) (xs : List V) → slice_get (drop n xs) k ≡ slice_get xs (n + k)
slice_get-drop zero k xs = let same : 0 + k ≡ k = omega arith in ap (slice_get xs) (sym same)
slice_get-drop (suc n) k [] = refl
slice_get-drop (suc n) k (x ∷ xs) = let same : suc n + k ≡ suc (n + k) = omega arith in slice_get-drop n k xs ∙ ap (slice_get (x ∷ xs)) (sym same)

pub slice_get-take : {V : Type 0} (n k : ℕ) (xs : List V) → k < n → slice_get (take n xs) k ≡ slice_get xs k
slice_get-take zero k xs l = absurd (omega arith)
slice_get-take (suc n) k [] l = refl
slice_get-take (suc n) zero (x ∷ xs) l = refl
slice_get-take (suc n) (suc k) (x ∷ xs) l = slice_get-take n k xs (omega arith)

pub all_front : {X : Type 0} (P : X → Type 0) (xs ys : List X) → AllByRecursion P (xs ++ ys) → AllByRecursion P xs
all_front P [] ys all = tt
all_front P (x ∷ xs) ys all = (all.0, all_front P xs ys all.1)

pub all_back : {X : Type 0} (P : X → Type 0) (xs ys : List X) → AllByRecursion P (xs ++ ys) → AllByRecursion P ys
all_back P [] ys all = all
all_back P (x ∷ xs) ys all = all_back P xs ys all.1

pub empty_without : {X : Type 0} (xs : List X) → length xs ≡ 0 → xs ≡ []
empty_without [] l = refl
empty_without (x ∷ xs) l = absurd (omega arith)
