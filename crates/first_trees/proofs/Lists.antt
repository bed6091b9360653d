-- Lists in order, and where their items stand.
use Rattle.std.proofs.Common.{◌≡◌, ℕ, zero, suc, ◌<◌, ◌≤◌, ◌⊎◌, inl, inr, Some, None, List, [], ◌∷◌, length, take, refl, ap, subst, arith}
use Rattle.std.specs.List.{AllByRecursion}
use Rattle.first_trees.specs.FirstTrees.{AreInOrder, IsAt}

-- the item stands somewhere in the list
abbrev pub IsIn : {X : Type 0} → List X → X → Type 0
IsIn items item = (place : ℕ) × IsAt items place item

pub some_one : {X : Type 0} (x y : X) → Some x ≡ Some y → x ≡ y
some_one x y e = cc

pub nothing_at : {X : Type 0} (items : List X) (x : X) → None ≡ Some x → ⊥
nothing_at items x e = cc

pub all_at : {X : Type 0} (P : X → Type 0) (items : List X) (place : ℕ) (item : X) → AllByRecursion P items
    → IsAt items place item → P item
all_at P [] place item all at = absurd (nothing_at [] item at)
all_at P (x ∷ items) zero item all at = subst P (some_one x item at) all.0
all_at P (x ∷ items) (suc place) item all at = all_at P items place item all.1 at

pub all_from : {X : Type 0} (P Q : X → Type 0) → ((x : X) → P x → Q x) → (items : List X) → AllByRecursion P items
    → AllByRecursion Q items
all_from P Q each [] all = tt
all_from P Q each (x ∷ items) all = (each x all.0, all_from P Q each items all.1)

pub all_both : {X : Type 0} (P Q : X → Type 0) (items : List X) → AllByRecursion P items → AllByRecursion Q items
    → AllByRecursion (λ x. P x × Q x) items
all_both P Q [] all all' = tt
all_both P Q (x ∷ items) all all' = ((all.0, all'.0), all_both P Q items all.1 all'.1)

pub all_told : {X : Type 0} (P : X → Type 0) (items : List X) → ((x : X) → IsIn items x → P x) → AllByRecursion P items
all_told P [] each = tt
all_told P (x ∷ items) each =
    (each x (zero, refl), all_told P items (λ y stands. each y (suc stands.0, stands.1)))

pub all_taken : {X : Type 0} (P : X → Type 0) (count : ℕ) (items : List X) → AllByRecursion P items
    → AllByRecursion P (take count items)
all_taken P zero items all = tt
all_taken P (suc count) [] all = tt
all_taken P (suc count) (x ∷ items) all = (all.0, all_taken P count items all.1)

pub in_order_taken : {X : Type 0} (R : X → X → Type 0) (count : ℕ) (items : List X) → AreInOrder R items
    → AreInOrder R (take count items)
in_order_taken R zero items ordered = tt
in_order_taken R (suc count) [] ordered = tt
in_order_taken R (suc count) (x ∷ items) ordered =
    (all_taken (R x) count items ordered.0, in_order_taken R count items ordered.1)

pub few_taken : {X : Type 0} (count : ℕ) (items : List X) → length (take count items) ≤ count
few_taken zero items = omega arith
few_taken (suc count) [] = omega arith
few_taken (suc count) (x ∷ items) = let rest = few_taken count items in omega arith

pub all_are_taken : {X : Type 0} (count : ℕ) (items : List X) → count ≤ length items
    → length (take count items) ≡ count
all_are_taken zero items enough = refl
all_are_taken (suc count) [] enough = absurd (omega arith)
all_are_taken (suc count) (x ∷ items) enough = let rest = all_are_taken count items (omega arith) in omega arith

-- an item of a list in order is among its first ones, or comes behind them
pub taken_or_behind : {X : Type 0} (R : X → X → Type 0) (count place : ℕ) (items : List X) (item : X)
    → AreInOrder R items → IsAt items place item
    → IsIn (take count items) item
    ⊎ ((length (take count items) ≡ count) × AllByRecursion (λ listed. R listed item) (take count items))
taken_or_behind R count place [] item ordered at = absurd (nothing_at [] item at)
taken_or_behind R zero place (x ∷ items) item ordered at = inr (refl, tt)
taken_or_behind R (suc count) zero (x ∷ items) item ordered at = inl (zero, at)
taken_or_behind R (suc count) (suc place) (x ∷ items) item ordered at =
    go (taken_or_behind R count place items item ordered.1 at)
  where
    go : IsIn (take count items) item
        ⊎ ((length (take count items) ≡ count) × AllByRecursion (λ listed. R listed item) (take count items))
        → IsIn (x ∷ take count items) item
        ⊎ ((length (x ∷ take count items) ≡ suc count) × AllByRecursion (λ listed. R listed item) (x ∷ take count items))
    go (inl stands) = inl (suc stands.0, stands.1)
    go (inr behind) = inr (ap suc behind.0, (all_at (R x) items place item ordered.0 at, behind.1))

-- where one item stands before another, it comes before it
pub order_at : {X : Type 0} (R : X → X → Type 0) (items : List X) (place later : ℕ) (x y : X) → AreInOrder R items
    → IsAt items place x → IsAt items later y → place < later → R x y
order_at R [] place later x y ordered at at' less = absurd (nothing_at [] x at)
order_at R (z ∷ items) zero zero x y ordered at at' less = absurd (omega arith)
order_at R (z ∷ items) zero (suc later) x y ordered at at' less =
    subst (λ w. R w y) (some_one z x at) (all_at (R z) items later y ordered.0 at')
order_at R (z ∷ items) (suc place) zero x y ordered at at' less = absurd (omega arith)
order_at R (z ∷ items) (suc place) (suc later) x y ordered at at' less =
    order_at R items place later x y ordered.1 at at' (omega arith)

-- an item of the first ones stands where it stands in the list
pub taken_at : {X : Type 0} (count : ℕ) (items : List X) (place : ℕ) (item : X) → IsAt (take count items) place item
    → IsAt items place item
taken_at zero items place item at = absurd (nothing_at items item at)
taken_at (suc count) [] place item at = at
taken_at (suc count) (x ∷ items) zero item at = at
taken_at (suc count) (x ∷ items) (suc place) item at = taken_at count items place item at
