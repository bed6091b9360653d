-- Scans over lists, item by item, as the reader's loops go.
use Rattle.std.proofs.Common.{◌≡◌, ℕ, zero, suc, ◌+◌, ◌<◌, ◌≤◌, Bool, true, false, ◌||◌, cond, Option, Some, None, is_some, List, [], ◌∷◌, ◌++◌, length, map, take, drop, get_or, refl, sym, ◌∙◌, ap, arith, length-append}
use Rattle.std.specs.List.{list_any, list_all, filter_map, cons_option}
use Rattle.std.specs.Option.{option_map_or}
use Rattle.std.proofs.lemmas.List.{drop_more, take_more, map_push, append-nil}
use Rattle.std.proofs.lemmas.List.Elements.{filter_map-append}

pub nothing_left : {A : Type 0} (xs : List A) (i : ℕ) → length xs ≤ i → drop i xs ≡ []
nothing_left [] zero h = refl
nothing_left [] (suc i) h = refl
nothing_left (x ∷ xs) zero h = absurd (omega arith)
nothing_left (x ∷ xs) (suc i) h = nothing_left xs i (omega arith)

-- the item at hand stands before those that are left
pub at_hand : {A : Type 0} (xs : List A) (i : ℕ) (item : A) → i < length xs → item ≡ get_or xs i item → drop i xs ≡ item ∷ drop (i + 1) xs
at_hand xs i item inside is = drop_more xs i item inside ∙ ap (λ first. first ∷ drop (i + 1) xs) (sym is)

-- ---- whether one passes

pub one_passes : {A B : Type 0} (seen : A → B) (p : B → Bool) (xs : List A) (i : ℕ) (item : A) → i < length xs → item ≡ get_or xs i item → p (seen item) ≡ true
    → list_any p (map seen xs) ≡ list_any p (map seen (drop i xs)) → list_any p (map seen xs) ≡ true
one_passes seen p xs i item inside is passes so_far = so_far ∙ rw (at_hand xs i item inside is) (rw passes refl)

pub one_more_fails : {A B : Type 0} (seen : A → B) (p : B → Bool) (xs : List A) (i : ℕ) (item : A) → i < length xs → item ≡ get_or xs i item → p (seen item) ≡ false
    → list_any p (map seen xs) ≡ list_any p (map seen (drop i xs)) → list_any p (map seen xs) ≡ list_any p (map seen (drop (i + 1) xs))
one_more_fails seen p xs i item inside is fails so_far = so_far ∙ rw (at_hand xs i item inside is) (rw fails refl)

pub none_passes : {A B : Type 0} (seen : A → B) (p : B → Bool) (xs : List A) (i : ℕ) → length xs ≤ i
    → list_any p (map seen xs) ≡ list_any p (map seen (drop i xs)) → list_any p (map seen xs) ≡ false
none_passes seen p xs i over so_far = so_far ∙ rw (nothing_left xs i over) refl

-- the same, read with a default
pub one_passes_at : {A B : Type 0} (seen : A → B) (p : B → Bool) (xs : List A) (i : ℕ) (d : A) → i < length xs → p (seen (get_or xs i d)) ≡ true
    → list_any p (map seen xs) ≡ list_any p (map seen (drop i xs)) → list_any p (map seen xs) ≡ true
one_passes_at seen p xs i d inside passes so_far = so_far ∙ rw (drop_more xs i d inside) (rw passes refl)

pub one_more_fails_at : {A B : Type 0} (seen : A → B) (p : B → Bool) (xs : List A) (i : ℕ) (d : A) → i < length xs → p (seen (get_or xs i d)) ≡ false
    → list_any p (map seen xs) ≡ list_any p (map seen (drop i xs)) → list_any p (map seen xs) ≡ list_any p (map seen (drop (i + 1) xs))
one_more_fails_at seen p xs i d inside fails so_far = so_far ∙ rw (drop_more xs i d inside) (rw fails refl)

-- ---- whether all pass

pub one_fails : {A B : Type 0} (seen : A → B) (p : B → Bool) (xs : List A) (i : ℕ) (item : A) → i < length xs → item ≡ get_or xs i item → p (seen item) ≡ false
    → list_all p (map seen xs) ≡ list_all p (map seen (drop i xs)) → list_all p (map seen xs) ≡ false
one_fails seen p xs i item inside is fails so_far = so_far ∙ rw (at_hand xs i item inside is) (rw fails refl)

pub one_more_passes : {A B : Type 0} (seen : A → B) (p : B → Bool) (xs : List A) (i : ℕ) (item : A) → i < length xs → item ≡ get_or xs i item → p (seen item) ≡ true
    → list_all p (map seen xs) ≡ list_all p (map seen (drop i xs)) → list_all p (map seen xs) ≡ list_all p (map seen (drop (i + 1) xs))
one_more_passes seen p xs i item inside is passes so_far = so_far ∙ rw (at_hand xs i item inside is) (rw passes refl)

-- ---- what some items give

-- what one of the items gives passes
pub any_given : {A B : Type 0} (give : A → Option B) (p : B → Bool) (xs : List A) → list_any (λ x. option_map_or p (give x) false) xs ≡ list_any p (filter_map give xs)
any_given give p [] = refl
any_given {B = B} give p (x ∷ xs) = step (give x) refl (any_given give p xs)
  where
    step : (given : Option B) → give x ≡ given → list_any (λ x. option_map_or p (give x) false) xs ≡ list_any p (filter_map give xs)
        → list_any (λ x. option_map_or p (give x) false) (x ∷ xs) ≡ list_any p (filter_map give (x ∷ xs))
    step None e others = rw e others
    step (Some y) e others = rw e (ap (λ rest. p y || rest) others)

-- what one more item gives
pub given_more : {A B C : Type 0} (give : B → Option C) (seen : A → B) (xs : List A) (i : ℕ) (item : A) → i < length xs → item ≡ get_or xs i item
    → filter_map give (map seen (take (i + 1) xs)) ≡ filter_map give (map seen (take i xs)) ++ cons_option (give (seen item)) []
given_more give seen xs i item inside is =
    ap (filter_map give) (ap (map seen) (take_more xs i item inside ∙ ap (λ last. take i xs ++ last ∷ []) (sym is)) ∙ map_push seen (take i xs) item)
    ∙ filter_map-append give (map seen (take i xs)) (seen item ∷ [])

pub length_given : {C : Type 0} (front : List C) (given : Option C) → length (front ++ cons_option given []) ≡ cond (is_some given) (length front + 1) (length front)
length_given front None = ap length (append-nil front)
length_given front (Some x) = length-append front (x ∷ [])
