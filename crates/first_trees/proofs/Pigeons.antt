-- Lists whose items are all different, and how long they are.
use Rattle.std.proofs.Common.{◌≡◌, ℕ, zero, suc, ◌+◌, ◌*◌, ◌≤◌, ◌⊎◌, inl, inr, List, [], ◌∷◌, ◌++◌, length, take, map, refl, ap, arith}
use Rattle.std.specs.List.{AllByRecursion}
use Rattle.first_trees.specs.FirstTrees.{AreInOrder, IsAt}
use Rattle.first_trees.proofs.Lists.{IsIn, nothing_at, some_one, all_at, all_from}

-- no item is one of those behind it
abbrev pub AreDifferent : {X : Type 0} → List X → Type 0
AreDifferent = AreInOrder (λ x y. x ≡ y → ⊥)

abbrev without : {X : Type 0} → List X → ℕ → List X
without [] place = []
without (x ∷ items) zero = items
without (x ∷ items) (suc place) = x ∷ without items place

length_without : {X : Type 0} (items : List X) (place : ℕ) (x : X) → IsAt items place x
    → suc (length (without items place)) ≡ length items
length_without [] place x at = absurd (nothing_at [] x at)
length_without (y ∷ items) zero x at = refl
length_without (y ∷ items) (suc place) x at = ap suc (length_without items place x at)

-- another item stays
still_in : {X : Type 0} (items : List X) (place other : ℕ) (x y : X) → IsAt items place x → IsAt items other y
    → (x ≡ y → ⊥) → IsIn (without items place) y
still_in [] place other x y at at' differ = absurd (nothing_at [] x at)
still_in (z ∷ items) zero zero x y at at' differ = absurd (differ (cc))
still_in (z ∷ items) zero (suc other) x y at at' differ = (other, at')
still_in (z ∷ items) (suc place) zero x y at at' differ = (zero, at')
still_in (z ∷ items) (suc place) (suc other) x y at at' differ =
    let rest = still_in items place other x y at at' differ in (suc rest.0, rest.1)

all_still_in : {X : Type 0} (xs items : List X) (place : ℕ) (x : X) → IsAt items place x
    → AllByRecursion (λ y. x ≡ y → ⊥) xs → AllByRecursion (IsIn items) xs
    → AllByRecursion (IsIn (without items place)) xs
all_still_in [] items place x at differ all = tt
all_still_in (y ∷ xs) items place x at differ all =
    (still_in items place all.0.0 x y at all.0.1 differ.0, all_still_in xs items place x at differ.1 all.1)

-- items that are all different and all stand in a list are no more than it has
pub no_more : {X : Type 0} (xs items : List X) → AreDifferent xs → AllByRecursion (IsIn items) xs
    → length xs ≤ length items
no_more [] items differ all = omega arith
no_more (x ∷ xs) items differ all =
    let rest =
    no_more xs (without items all.0.0) differ.1 (all_still_in xs items all.0.0 x all.0.1 differ.0 all.1) in
    omega (arith, length_without items all.0.0 x all.0.1)

-- ---- lists that are put together

pub all_appended : {X : Type 0} (P : X → Type 0) (xs ys : List X) → AllByRecursion P xs → AllByRecursion P ys
    → AllByRecursion P (xs ++ ys)
all_appended P [] ys all all' = all'
all_appended P (x ∷ xs) ys all all' = (all.0, all_appended P xs ys all.1 all')

pub all_mapped : {X Y : Type 0} (f : X → Y) (P : Y → Type 0) (xs : List X) → AllByRecursion (λ x. P (f x)) xs
    → AllByRecursion P (map f xs)
all_mapped f P [] all = tt
all_mapped f P (x ∷ xs) all = (all.0, all_mapped f P xs all.1)

pub length_mapped : {X Y : Type 0} (f : X → Y) (xs : List X) → length (map f xs) ≡ length xs
length_mapped f [] = refl
length_mapped f (x ∷ xs) = ap suc (length_mapped f xs)

pub length_joined : {X : Type 0} (xs ys : List X) → length (xs ++ ys) ≡ length xs + length ys
length_joined [] ys = omega arith
length_joined (x ∷ xs) ys = let rest = length_joined xs ys in omega arith

pub in_order_appended : {X : Type 0} (R : X → X → Type 0) (xs ys : List X) → AreInOrder R xs → AreInOrder R ys
    → AllByRecursion (λ x. AllByRecursion (R x) ys) xs → AreInOrder R (xs ++ ys)
in_order_appended R [] ys ordered ordered' across = ordered'
in_order_appended R (x ∷ xs) ys ordered ordered' across =
    (all_appended (R x) xs ys ordered.0 across.0, in_order_appended R xs ys ordered.1 ordered' across.1)

pub in_order_mapped : {X Y : Type 0} (f : X → Y) (R : X → X → Type 0) (S : Y → Y → Type 0)
    → ((x y : X) → R x y → S (f x) (f y)) → (xs : List X) → AreInOrder R xs → AreInOrder S (map f xs)
in_order_mapped f R S moved [] ordered = tt
in_order_mapped f R S moved (x ∷ xs) ordered = (
  all_mapped f (S (f x)) xs (all_from (R x) (λ y. S (f x) (f y)) (moved x) xs ordered.0),
  in_order_mapped f R S moved xs ordered.1,
)

-- ---- up to a place

-- the items up to a place are the one that stands there and those before it
pub none_later : {X : Type 0} (R : X → X → Type 0) (items : List X) (place : ℕ) (x : X) → AreInOrder R items
    → IsAt items place x → AllByRecursion (λ y. (y ≡ x) ⊎ R y x) (take (suc place) items)
none_later R [] place x ordered at = absurd (nothing_at [] x at)
none_later R (y ∷ items) zero x ordered at = (inl (some_one y x at), tt)
none_later R (y ∷ items) (suc place) x ordered at =
    (inr (all_at (R y) items place x ordered.0 at), none_later R items place x ordered.1 at)

pub length_up_to : {X : Type 0} (items : List X) (place : ℕ) (x : X) → IsAt items place x
    → length (take (suc place) items) ≡ suc place
length_up_to [] place x at = absurd (nothing_at [] x at)
length_up_to (y ∷ items) zero x at = refl
length_up_to (y ∷ items) (suc place) x at = ap suc (length_up_to items place x at)

-- ---- products

pub times_some : (a b : ℕ) → 1 ≤ a → b ≤ a * b
times_some zero b some = absurd (omega arith)
times_some (suc n) b some = omega arith

pub some_times : (a b : ℕ) → 1 ≤ b → a ≤ a * b
some_times a zero some = absurd (omega arith)
some_times a (suc n) some = omega arith
