-- That something holds or does not, as far as it can be told of numbers and lists.
use Rattle.std.proofs.Common.{◌≡◌, ℕ, ◌≤◌, ◌⊎◌, inl, inr, Option, Some, None, IfSome, List, [], ◌∷◌, refl, ap₂, arith}
use Rattle.std.specs.List.{AllByRecursion}

-- it holds, or it does not
abbrev pub Decided : Type 0 → Type 0
Decided A = A ⊎ (A → ⊥)

pub both : {A B : Type 0} → Decided A → Decided B → Decided (A × B)
both (inl a) (inl b) = inl (a, b)
both (inl a) (inr wrong) = inr (λ h. wrong h.1)
both (inr wrong) d = inr (λ h. wrong h.0)

pub all_three : {A B C : Type 0} → Decided A → Decided B → Decided C → Decided (A × B × C)
all_three (inl a) (inl b) (inl c) = inl (a, b, c)
all_three (inl a) (inl b) (inr wrong) = inr (λ h. wrong h.2)
all_three (inl a) (inr wrong) c = inr (λ h. wrong h.1)
all_three (inr wrong) b c = inr (λ h. wrong h.0)

pub for_all : {X : Type 0} (P : X → Type 0) → ((x : X) → Decided (P x)) → (xs : List X) → Decided (AllByRecursion P xs)
for_all P each [] = inl tt
for_all P each (x ∷ xs) = both (each x) (for_all P each xs)

pub same_number : (m n : ℕ) → Decided (m ≡ n)
same_number m n = grind arith

pub at_most : (m n : ℕ) → Decided (m ≤ n)
at_most m n = grind arith

pub within_high : (high : Option ℕ) (n : ℕ) → Decided (IfSome high (λ most. n ≤ most))
within_high None n = inl tt
within_high (Some most) n = at_most n most

pub same_list : (xs ys : List ℕ) → Decided (xs ≡ ys)
same_list [] [] = inl refl
same_list [] (y ∷ ys) = inr (λ e. cc)
same_list (x ∷ xs) [] = inr (λ e. cc)
same_list (x ∷ xs) (y ∷ ys) = go (same_number x y) (same_list xs ys)
  where
    go : Decided (x ≡ y) → Decided (xs ≡ ys) → Decided (x ∷ xs ≡ y ∷ ys)
    go (inl e) (inl f) = inl (ap₂ (λ a l. a ∷ l) e f)
    go (inl e) (inr wrong) = inr (λ g. wrong (cc))
    go (inr wrong) d = inr (λ g. wrong (cc))
