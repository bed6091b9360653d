-- Owned records, and what was seen.
use Rattle.std.proofs.Common.{◌≡◌, ℕ, zero, suc, ◌+◌, ◌<◌, ◌≢◌, ◌⊎◌, inl, inr, ⊎_elim, List, [], ◌∷◌, ◌++◌, length, sym, refl, subst, ap, ◌∙◌, if◌then◌else◌, nat_eq, All, Contains, get_or, arith, eq-eqb, ne_eqb}
use Rattle.std.proofs.lemmas.List.Elements.{All-nil, All-cons, All-head, All-tail}
use mathlib.Core.Logic.{dite}
use native.Mathlib.Decide.{ℕ_discrete}
use Rattle.memo_words.specs.declared.view.Seen.{Seen}
use Rattle.memo_words.specs.declared.view.Owned.{Owned}
use Rattle.memo_words.specs.Views.{seen_at, owns, dropped}

-- a choice by a test of two numbers
pub chosen : {A : Type 0} (P : A → Type 0) (m n : ℕ) (a b : A) → (m ≡ n → P a) → (m ≢ n → P b)
    → P (if nat_eq m n then a else b)
chosen P m n a b hit miss = dite (ℕ_discrete m n) (λ e. subst
    (λ t. P (if t then a else b)) (sym (eq-eqb m n e)) (hit e)) (λ ne. subst
    (λ t. P (if t then a else b)) (sym (ne_eqb m n ne)) (miss ne))

pub is_yes : {A : Type 0} (m n : ℕ) (a b : A) → m ≡ n → (if nat_eq m n then a else b) ≡ a
is_yes m n a b e = chosen (λ x. x ≡ a) m n a b (λ _. refl) (λ ne. absurd (ne e))

pub is_no : {A : Type 0} (m n : ℕ) (a b : A) → m ≢ n → (if nat_eq m n then a else b) ≡ b
is_no m n a b ne = chosen (λ x. x ≡ b) m n a b (λ e. absurd (ne e)) (λ _. refl)

pub one_if : (m n : ℕ) → m ≡ n → if◌then◌else◌ {A = ℕ} (nat_eq m n) 1 0 ≡ 1
one_if m n e = is_yes m n 1 0 e

pub none_if : (m n : ℕ) → m ≢ n → if◌then◌else◌ {A = ℕ} (nat_eq m n) 1 0 ≡ 0
none_if m n ne = is_no m n 1 0 ne

pub seen-append : (xs ys : List Seen) (position : ℕ)
    → (seen_at (xs ++ ys) position ≡ seen_at xs position) ⊎ (seen_at (xs ++ ys) position ≡ seen_at ys position)
seen-append [] ys position = inr refl
seen-append (x ∷ xs) ys position = chosen (λ t. (seen_at ((x ∷ xs) ++ ys) position ≡ t) ⊎ (seen_at
    ((x ∷ xs) ++ ys) position ≡ seen_at ys position)) x.position position x.value (seen_at xs position)
    (λ e. inl (is_yes x.position position x.value (seen_at (xs ++ ys) position) e))
    (λ ne. let rest = is_no x.position position x.value (seen_at (xs ++ ys) position) ne in ⊎_elim (λ t. inl (rest
    ∙ t)) (λ t. inr (rest ∙ t)) (seen-append xs ys position))

pub owns-append : (number : ℕ) (xs ys : List Owned) → owns number (xs ++ ys) ≡ owns number xs + owns number ys
owns-append number [] ys = omega arith
owns-append number (x ∷ xs) ys = let t = owns-append number xs ys in omega arith

pub length-dropped : (number : ℕ) (xs : List Owned) → 0 < owns number xs → length (dropped number xs) + 1 ≡ length xs
length-dropped number [] h = absurd (omega arith)
length-dropped number (x ∷ xs) h = chosen (λ (t : List Owned). length t + 1 ≡ length (x ∷ xs)) x.number number xs
    (x ∷ dropped number xs) (λ _. omega arith)
    (λ ne. let z = none_if x.number number ne in let t = length-dropped number xs (omega arith) in omega arith)

pub owns-dropped : (number : ℕ) (xs : List Owned) → 0 < owns number xs
    → owns number (dropped number xs) + 1 ≡ owns number xs
owns-dropped number [] h = absurd (omega arith)
owns-dropped number (x ∷ xs) h = chosen (λ (t : List Owned). owns number t + 1 ≡ owns number
    (x ∷ xs)) x.number number xs (x ∷ dropped number xs) (λ e. let z = one_if x.number number e in omega arith)
    (λ ne. let z = none_if x.number number ne in let t = owns-dropped number xs (omega arith) in omega arith)

pub owns-dropped_other : (number other : ℕ) (xs : List Owned) → other ≢ number
    → owns other (dropped number xs) ≡ owns other xs
owns-dropped_other number other [] n = refl
owns-dropped_other number other (x ∷ xs) n = chosen
    (λ (t : List Owned). owns other t ≡ owns other (x ∷ xs)) x.number number xs (x ∷ dropped number xs)
    (λ e. let z = none_if x.number other (λ q. n (sym q ∙ e)) in omega arith) (λ ne.
    let t = owns-dropped_other number other xs n in omega arith)

pub All-dropped : (P : Owned → Type 0) (number : ℕ) (xs : List Owned) → All P xs → All P (dropped number xs)
All-dropped P number [] h = h
All-dropped P number (x ∷ xs) h = chosen (All P) x.number number xs (x ∷ dropped number xs) (λ _. All-tail P x xs h)
    (λ _. All-cons P x (dropped number xs) (All-head P x xs h) (All-dropped P number xs (All-tail P x xs h)))

pub owns_some : (xs : List Owned) (e : Owned) → Contains xs e → 0 < owns e.number xs
owns_some [] e h = let lt = h.1 in absurd (omega arith)
owns_some (x ∷ xs) e h = dite (ℕ_discrete h.0 0)
    (λ z. let same : x ≡ e = subst (λ (k : ℕ). get_or (x ∷ xs) k e ≡ e) z h.2 in
    let y = one_if x.number e.number (ap (λ (o : Owned). o.number) same) in omega arith)
    (λ n. let t = owns_some xs e (pred_at xs x e h.0 h.1 h.2 n) in omega arith)
  where
    pred_at : (xs : List Owned) (x e : Owned) (k : ℕ) → k < length (x ∷ xs) → get_or (x ∷ xs) k e ≡ e → k ≢ 0
        → Contains xs e
    pred_at xs x e zero lt is n = absurd (n refl)
    pred_at xs x e (suc k) lt is n = (k, omega arith, is)

-- a record that isn't owned is none of those owned
pub owned_other : (P : Owned → Type 0) (number : ℕ) (xs : List Owned) → owns number xs ≡ 0 → ((e : Owned)
    → Contains xs e → e.number ≢ number → P e) → All P xs
owned_other P number [] none h = All-nil P
owned_other P number (x ∷ xs) none h = All-cons P x xs (h x (0, omega arith, refl) (λ e.
    let y = one_if x.number number e in omega arith))
    (owned_other P number xs (omega arith) (λ e has n. h e (suc has.0, (let lt = has.1 in omega arith), has.2) n))
