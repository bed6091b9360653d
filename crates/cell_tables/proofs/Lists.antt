-- Elements of the front of a list as it grows by one, and elements of a part of a list.
use Rattle.std.proofs.Common.{◌≡◌, ℕ, zero, suc, ◌+◌, ◌<◌, ◌⊎◌, List, [], ◌∷◌, length, get_or, take, drop, slice_get, sym, ap, refl, subst, ◌∙◌, arith}
use Rattle.std.specs.List.{Contains}
use Rattle.std.proofs.lemmas.List.{take_more}
use Rattle.std.proofs.lemmas.List.Elements.{Contains-append_left, Contains-push, Contains-push_cases}

pub contained_later : {V : Type 0} (xs : List V) (i : ℕ) (d x : V) → i < length xs → Contains (take i xs) x → Contains (take (i + 1) xs) x
contained_later xs i d x l there =
    subst (λ ys. Contains ys x) (sym (take_more xs i d l)) (Contains-append_left (take i xs) (get_or xs i d ∷ []) x there)

pub contained_now : {V : Type 0} (xs : List V) (i : ℕ) (d : V) → i < length xs → Contains (take (i + 1) xs) (get_or xs i d)
contained_now xs i d l = subst (λ ys. Contains ys (get_or xs i d)) (sym (take_more xs i d l)) (Contains-push (take i xs) (get_or xs i d))

pub contained_cases : {V : Type 0} (xs : List V) (i : ℕ) (d x : V) → i < length xs → Contains (take (i + 1) xs) x → Contains (take i xs) x ⊎ (get_or xs i d ≡ x)
contained_cases xs i d x l there =
    Contains-push_cases (take i xs) (get_or xs i d) x (subst (λ ys. Contains ys x) (take_more xs i d l) there)

pub slice_get-drop : {V : Type 0} (n k : ℕ) (xs : List V) → slice_get (drop n xs) k ≡ slice_get xs (n + k)
slice_get-drop zero k xs = let same : 0 + k ≡ k = omega arith in ap (slice_get xs) (sym same)
slice_get-drop (suc n) k [] = refl
slice_get-drop (suc n) k (x ∷ xs) = let same : suc n + k ≡ suc (n + k) = omega arith in slice_get-drop n k xs ∙ ap (slice_get (x ∷ xs)) (sym same)

pub slice_get-take : {V : Type 0} (n k : ℕ) (xs : List V) → k < n → slice_get (take n xs) k ≡ slice_get xs k
slice_get-take zero k xs l = absurd (omega arith)
slice_get-take (suc n) k [] l = refl
slice_get-take (suc n) zero (x ∷ xs) l = refl
slice_get-take (suc n) (suc k) (x ∷ xs) l = slice_get-take n k xs (omega arith)
