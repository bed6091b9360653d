-- Items of a list with one more item behind them.
use Rattle.std.proofs.Common.{◌≡◌, ◌⊎◌, ℕ, zero, suc, Some, List, [], ◌∷◌, ◌++◌, length, slice_get, refl, inl, inr, arith}

pub get_push : {X : Type 0} (items : List X) (last : X) (k : ℕ) (item : X) → slice_get (items ++ last ∷ []) k ≡ Some item
    → (slice_get items k ≡ Some item) ⊎ ((k ≡ length items) × (last ≡ item))
get_push [] last zero item e = inr (refl, cc)
get_push [] last (suc k) item e = absurd cc
get_push (first ∷ items) last zero item e = inl e
get_push (first ∷ items) last (suc k) item e = elim (get_push items last k item e) [
  | inl here ↦ inl here
  | inr (at, same) ↦ inr (omega (arith, at), same)
]

pub get_pushed : {X : Type 0} (items : List X) (last : X) (k : ℕ) (item : X) → slice_get items k ≡ Some item → slice_get (items ++ last ∷ []) k ≡ Some item
get_pushed [] last k item e = absurd cc
get_pushed (first ∷ items) last zero item e = e
get_pushed (first ∷ items) last (suc k) item e = get_pushed items last k item e
