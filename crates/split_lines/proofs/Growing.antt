-- What holds of the items of a list at each position, as the list grows.
use Rattle.std.proofs.Common.{◌≡◌, ℕ, ◌+◌, ◌<◌, ◌≤◌, List, [], ◌∷◌, ◌++◌, length, get_or, set, sym, ap, subst, ◌∙◌, inl, inr, arith}
use Rattle.std.proofs.lemmas.Bool.{cases_lt, cases_eq}
use Rattle.std.proofs.lemmas.List.{get_or_append_left, get_or_push, get_or-set_same, get_or-set_other}

-- one more item behind
pub holds_more : {X : Type 0} (P : ℕ → X → Type 0) (items : List X) (n : ℕ) (value d : X) → length items ≡ n + 1 → ((k : ℕ) → k ≤ n → P k (get_or items k d)) → P (n + 1) value → (k : ℕ) → k ≤ n + 1 → P k (get_or (items ++ value ∷ []) k d)
holds_more P items n value d long before now k l =
    elim (cases_lt k (n + 1)) [
      | inl inside ↦ subst (P k) (sym (get_or_append_left items (value ∷ []) d k (omega arith))) (before k (omega arith))
      | inr past ↦
          let last : k ≡ n + 1 = omega arith in
          let read = get_or_push items value d k (omega arith) in
          subst (P k) (sym read) (subst (λ n. P n value) (sym last) now)
    ]

-- one item written, before those that are
pub holds_before : (P : ℕ → ℕ → Type 0) (items : List ℕ) (position value most : ℕ) → position < length items → ((k : ℕ) → position + 1 ≤ k → k ≤ most → P k (get_or items k 0)) → P position value → (k : ℕ) → position ≤ k → k ≤ most → P k (get_or (set items position value) k 0)
holds_before P items position value most within behind now k l h =
    elim (cases_eq k position) [
      | inl same ↦
          let read = ap (λ n. get_or (set items position value) n 0) same ∙ get_or-set_same items position value 0 within in
          subst (P k) (sym read) (subst (λ n. P n value) (sym same) now)
      | inr differ ↦ subst (P k) (sym (get_or-set_other items position k value 0 differ)) (behind k (omega arith) h)
    ]

-- one more item, where it holds of the first so many
pub each_more : {X : Type 0} (P : ℕ → X → Type 0) (items : List X) (n : ℕ) (value : X) → length items ≡ n → ((k : ℕ) (d : X) → k < n → P k (get_or items k d)) → P n value → (k : ℕ) (d : X) → k < n + 1 → P k (get_or (items ++ value ∷ []) k d)
each_more P items n value long before now k d l =
    elim (cases_lt k n) [
      | inl inside ↦ subst (P k) (sym (get_or_append_left items (value ∷ []) d k (omega arith))) (before k d inside)
      | inr past ↦
          let last : k ≡ n = omega arith in
          let read = get_or_push items value d k (omega arith) in
          subst (P k) (sym read) (subst (λ n. P n value) (sym last) now)
    ]
