-- The greatest number of which something holds: it is unique, and a search over finitely many finds it.
use Rattle.std.proofs.Common.{◌≡◌, ℕ, zero, suc, ◌<◌, ◌≤◌, max, ◌⊎◌, inl, inr, refl, subst, sym, arith}
use Rattle.adp_model.specs.Bounds.{IsGreatest}

pub greatest_unique : (Holds : ℕ → Type 0) (a b : ℕ) → IsGreatest Holds a → IsGreatest Holds b → a ≡ b
greatest_unique Holds a b (inl (holds, top)) (inl (holds', top')) =
    let low = top b holds' in
    let high = top' a holds in
    omega arith
greatest_unique Holds a b (inl (holds, top)) (inr (zero', none)) = absurd (none a holds)
greatest_unique Holds a b (inr (zero', none)) (inl (holds, top)) = absurd (none b holds)
greatest_unique Holds a b (inr (zero', none)) (inr (zero'', none')) = omega arith

-- numbers of which the same holds
pub greatest_same : (Holds Other : ℕ → Type 0) → ((n : ℕ) → Holds n → Other n) → ((n : ℕ) → Other n → Holds n) → (a : ℕ) → IsGreatest Holds a → IsGreatest Other a
greatest_same Holds Other to from a (inl (holds, top)) = inl (to a holds, λ n h. top n (from n h))
greatest_same Holds Other to from a (inr (nothing, none)) = inr (nothing, λ n h. none n (from n h))

max_cases : (a b : ℕ) → ((max a b ≡ a) × (b ≤ a)) ⊎ ((max a b ≡ b) × (a ≤ b))
max_cases a b = grind arith

-- of one or another
pub greatest_either : (Holds Other : ℕ → Type 0) (a b : ℕ) → IsGreatest Holds a → IsGreatest Other b → IsGreatest (λ n. Holds n ⊎ Other n) (max a b)
greatest_either Holds Other a b (inl (holds, top)) (inl (holds', top')) = by (max_cases a b)
  where
    by : ((max a b ≡ a) × (b ≤ a)) ⊎ ((max a b ≡ b) × (a ≤ b)) → IsGreatest (λ n. Holds n ⊎ Other n) (max a b)
    by (inl (e, low)) = inl (inl (subst Holds (sym e) holds), λ n h. subst (λ m. n ≤ m) (sym e) (elim h [ inl one ↦ top n one | inr two ↦ let t = top' n two in omega arith ]))
    by (inr (e, low)) = inl (inr (subst Other (sym e) holds'), λ n h. subst (λ m. n ≤ m) (sym e) (elim h [ inl one ↦ let t = top n one in omega arith | inr two ↦ top' n two ]))
greatest_either Holds Other a b (inl (holds, top)) (inr (nothing, none)) =
    let e : max a b ≡ a = omega arith in
    inl (inl (subst Holds (sym e) holds), λ n h. subst (λ m. n ≤ m) (sym e) (elim h [ inl one ↦ top n one | inr two ↦ absurd (none n two) ]))
greatest_either Holds Other a b (inr (nothing, none)) (inl (holds, top)) =
    let e : max a b ≡ b = omega arith in
    inl (inr (subst Other (sym e) holds), λ n h. subst (λ m. n ≤ m) (sym e) (elim h [ inl one ↦ absurd (none n one) | inr two ↦ top n two ]))
greatest_either Holds Other a b (inr (nothing, none)) (inr (nothing', none')) =
    inr (omega arith, λ n h. elim h [ inl one ↦ none n one | inr two ↦ none' n two ])

abbrev pub HasGreatest : (ℕ → Type 0) → Type 0
HasGreatest Holds = (number : ℕ) × IsGreatest Holds number

pub HasGreatest-same : (Holds Other : ℕ → Type 0) → ((n : ℕ) → Holds n → Other n) → ((n : ℕ) → Other n → Holds n) → HasGreatest Holds → HasGreatest Other
HasGreatest-same Holds Other to from found = (found.0, greatest_same Holds Other to from found.0 found.1)

pub HasGreatest-none : (Holds : ℕ → Type 0) → ((n : ℕ) → Holds n → ⊥) → HasGreatest Holds
HasGreatest-none Holds none = (0, inr (refl, none))

-- it holds of the number at some place below the count
pub record IsSomewhere (Holds : ℕ → ℕ → Type 0) (count number : ℕ) : Type 0 where
  pub place : ℕ
  pub below : place < count
  pub holds : Holds place number

pub HasGreatest-below : (Holds : ℕ → ℕ → Type 0) (count : ℕ) → ((place : ℕ) → place < count → HasGreatest (Holds place)) → HasGreatest (IsSomewhere Holds count)
HasGreatest-below Holds zero each = HasGreatest-none (IsSomewhere Holds zero) (λ n h. omega (arith, h.below))
HasGreatest-below Holds (suc count) each =
    let earlier = HasGreatest-below Holds count (λ place below. each place (omega arith)) in
    let last = each count (omega arith) in
    HasGreatest-same (λ n. IsSomewhere Holds count n ⊎ Holds count n) (IsSomewhere Holds (suc count)) to from
    (max earlier.0 last.0, greatest_either (IsSomewhere Holds count) (Holds count) earlier.0 last.0 earlier.1 last.1)
  where
    to : (n : ℕ) → IsSomewhere Holds count n ⊎ Holds count n → IsSomewhere Holds (suc count) n
    to n (inl h) = record { place = h.place; below = omega (arith, h.below); holds = h.holds }
    to n (inr h) = record { place = count; below = omega arith; holds = h }

    by : (n place : ℕ) → Holds place n → (place < count) ⊎ (place ≡ count) → IsSomewhere Holds count n ⊎ Holds count n
    by n place h (inl below) = inl (record { place = place; below = below; holds = h })
    by n place h (inr same) = inr (subst (λ k. Holds k n) same h)

    place_cases : (place : ℕ) → place < suc count → (place < count) ⊎ (place ≡ count)
    place_cases place below = grind arith

    from : (n : ℕ) → IsSomewhere Holds (suc count) n → IsSomewhere Holds count n ⊎ Holds count n
    from n h = by n h.place h.holds (place_cases h.place h.below)
