-- Parts of a table of lists.
use Rattle.std.proofs.Common.{◌≡◌, ℕ, zero, suc, ◌+◌, ◌-◌, ◌<◌, ◌≤◌, ◌⊎◌, inl, inr, Some, List, [], ◌∷◌, ◌++◌, get_or, set, replicate, length, take, drop, refl, sym, ap, ◌∙◌, arith}
use Rattle.std.specs.Prelude.{slice_get}
use Rattle.k_best.proofs.InOrder.{nothing_at, some_one}

pub some_at : {X : Type 0} (items : List X) (place : ℕ) (d : X) → place < length items
    → slice_get items place ≡ Some (get_or items place d)
some_at [] place d l = absurd (omega arith)
some_at (x ∷ items) zero d l = refl
some_at (x ∷ items) (suc place) d l = some_at items place d (omega arith)

pub part_is : {X : Type 0} (items : List X) (place : ℕ) (x y : X) → slice_get items place ≡ Some x
    → slice_get items place ≡ Some y → x ≡ y
part_is items place x y e f = some_one x y (sym e ∙ f)

-- ---- entries that are put behind others, and a part that is written

pub part_kept : {X : Type 0} (items more : List X) (start end : ℕ) → end ≤ length items
    → take (end - start) (drop start (items ++ more)) ≡ take (end - start) (drop start items)
part_kept [] more start end l =
    let none : end - start ≡ 0 = omega arith in
    ap (λ n. take n (drop start more)) none ∙ ap (λ n. take n (drop start [])) (sym none)
part_kept (x ∷ items) more zero end l = front_kept (x ∷ items) more (end - zero) (omega arith)
  where
    front_kept : {X : Type 0} (items more : List X) (count : ℕ) → count ≤ length items
        → take count (items ++ more) ≡ take count items
    front_kept items more zero l = refl
    front_kept [] more (suc count) l = absurd (omega arith)
    front_kept (x ∷ items) more (suc count) l = ap (λ xs. x ∷ xs) (front_kept items more count (omega arith))
part_kept (x ∷ items) more (suc start) end l =
    let same : end - suc start ≡ (end - 1) - start = omega arith in
    ap (λ n. take n (drop start (items ++ more))) same ∙ part_kept items more start (end - 1) (omega arith)
    ∙ ap (λ n. take n (drop start items)) (sym same)

pub part_new : {X : Type 0} (items more : List X) (start end : ℕ) → start ≡ length items
    → end ≡ length items + length more → take (end - start) (drop start (items ++ more)) ≡ more
part_new [] more start end s e =
    let none : start ≡ zero = s in
    let all : end - start ≡ length more = omega arith in
    ap (λ n. take n (drop start more)) all ∙ ap (λ n. take (length more) (drop n more)) none ∙ whole more
  where
    whole : {X : Type 0} (xs : List X) → take (length xs) xs ≡ xs
    whole [] = refl
    whole (x ∷ xs) = ap (λ ys. x ∷ ys) (whole xs)
part_new (x ∷ items) more zero end s e = absurd (omega arith)
part_new (x ∷ items) more (suc start) end s e =
    let same : end - suc start ≡ (end - 1) - start = omega arith in
    ap (λ n. take n (drop start (items ++ more))) same ∙ part_new items more start (end - 1) (omega arith) (omega arith)

pub set_here : {X : Type 0} (items : List X) (place : ℕ) (x : X) → place < length items
    → slice_get (set items place x) place ≡ Some x
set_here [] place x l = absurd (omega arith)
set_here (y ∷ items) zero x l = refl
set_here (y ∷ items) (suc place) x l = set_here items place x (omega arith)

pub set_elsewhere : {X : Type 0} (items : List X) (place other : ℕ) (x : X) → (other ≡ place → ⊥)
    → slice_get (set items place x) other ≡ slice_get items other
set_elsewhere [] place other x apart = refl
set_elsewhere (y ∷ items) zero zero x apart = absurd (apart refl)
set_elsewhere (y ∷ items) zero (suc other) x apart = refl
set_elsewhere (y ∷ items) (suc place) zero x apart = refl
set_elsewhere (y ∷ items) (suc place) (suc other) x apart = set_elsewhere items place other x (λ e. apart (ap suc e))

pub set_length : {X : Type 0} (items : List X) (place : ℕ) (x : X) → length (set items place x) ≡ length items
set_length [] place x = refl
set_length (y ∷ items) zero x = refl
set_length (y ∷ items) (suc place) x = ap suc (set_length items place x)

-- the part at a place is the new one or what it was
pub set_or_same : {X : Type 0} (items : List X) (place other : ℕ) (x y : X)
    → slice_get (set items place x) other ≡ Some y
    → ((other ≡ place) × (y ≡ x)) ⊎ (slice_get items other ≡ Some y)
set_or_same [] place other x y at = inr at
set_or_same (z ∷ items) zero zero x y at = inl (refl, sym (some_one x y at))
set_or_same (z ∷ items) zero (suc other) x y at = inr at
set_or_same (z ∷ items) (suc place) zero x y at = inr at
set_or_same (z ∷ items) (suc place) (suc other) x y at = go (set_or_same items place other x y at)
  where
    go : ((other ≡ place) × (y ≡ x)) ⊎ (slice_get items other ≡ Some y)
        → ((suc other ≡ suc place) × (y ≡ x)) ⊎ (slice_get items other ≡ Some y)
    go (inl found) = inl (ap suc found.0, found.1)
    go (inr found) = inr found

pub replicated : {X : Type 0} (count : ℕ) (x : X) (place : ℕ) (y : X) → slice_get (replicate count x) place ≡ Some y
    → y ≡ x
replicated zero x place y at = absurd (nothing_at y at)
replicated (suc count) x zero y at = sym (some_one x y at)
replicated (suc count) x (suc place) y at = replicated count x place y at

pub replicated_length : {X : Type 0} (count : ℕ) (x : X) → length (replicate count x) ≡ count
replicated_length zero x = refl
replicated_length (suc count) x = ap suc (replicated_length count x)
