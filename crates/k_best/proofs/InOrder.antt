-- The first so many of a list in order, when one item more is put into its place.
use Rattle.std.proofs.Common.{◌≡◌, ℕ, zero, suc, ◌<◌, ◌≤◌, ◌⊎◌, inl, inr, Some, None, List, [], ◌∷◌, ◌++◌, get_or, length, take, drop, refl, sym, ap, subst, arith, ⊎_elim}
use Rattle.std.specs.List.{AllByRecursion}
use Rattle.first_trees.specs.FirstTrees.{AreInOrder, IsAt}

-- ---- items by their places

pub nothing_at : {X : Type 0} (x : X) → None ≡ Some x → ⊥
nothing_at x e = cc

pub some_one : {X : Type 0} (x y : X) → Some x ≡ Some y → x ≡ y
some_one x y e = cc

pub all_at : {X : Type 0} (P : X → Type 0) (items : List X) (place : ℕ) (item : X) → AllByRecursion P items
    → IsAt items place item → P item
all_at P [] place item all at = absurd (nothing_at item at)
all_at P (x ∷ items) zero item all at = subst P (some_one x item at) all.0
all_at P (x ∷ items) (suc place) item all at = all_at P items place item all.1 at

pub all_from : {X : Type 0} (P Q : X → Type 0) → ((x : X) → P x → Q x) → (items : List X) → AllByRecursion P items
    → AllByRecursion Q items
all_from P Q each [] all = tt
all_from P Q each (x ∷ items) all = (each x all.0, all_from P Q each items all.1)

pub all_both : {X : Type 0} (P Q : X → Type 0) (items : List X) → AllByRecursion P items → AllByRecursion Q items
    → AllByRecursion (λ x. P x × Q x) items
all_both P Q [] all all' = tt
all_both P Q (x ∷ items) all all' = ((all.0, all'.0), all_both P Q items all.1 all'.1)

pub all_told : {X : Type 0} (P : X → Type 0) (items : List X) → ((x : X) (place : ℕ) → IsAt items place x → P x)
    → AllByRecursion P items
all_told P [] each = tt
all_told P (x ∷ items) each = (each x zero refl, all_told P items (λ y place at. each y (suc place) at))

pub all_joined : {X : Type 0} (P : X → Type 0) (xs ys : List X) → AllByRecursion P xs → AllByRecursion P ys
    → AllByRecursion P (xs ++ ys)
all_joined P [] ys all all' = all'
all_joined P (x ∷ xs) ys all all' = (all.0, all_joined P xs ys all.1 all')

pub all_front : {X : Type 0} (P : X → Type 0) (xs ys : List X) → AllByRecursion P (xs ++ ys) → AllByRecursion P xs
all_front P [] ys all = tt
all_front P (x ∷ xs) ys all = (all.0, all_front P xs ys all.1)

pub all_back : {X : Type 0} (P : X → Type 0) (xs ys : List X) → AllByRecursion P (xs ++ ys) → AllByRecursion P ys
all_back P [] ys all = all
all_back P (x ∷ xs) ys all = all_back P xs ys all.1

pub all_taken : {X : Type 0} (P : X → Type 0) (count : ℕ) (items : List X) → AllByRecursion P items
    → AllByRecursion P (take count items)
all_taken P zero items all = tt
all_taken P (suc count) [] all = tt
all_taken P (suc count) (x ∷ items) all = (all.0, all_taken P count items all.1)

pub get_at : {X : Type 0} (items : List X) (place : ℕ) (item : X) → place < length items
    → item ≡ get_or items place item → IsAt items place item
get_at [] place item within is = absurd (omega arith)
get_at (x ∷ items) zero item within is = ap Some (sym is)
get_at (x ∷ items) (suc place) item within is = get_at items place item (omega arith) is

pub at_within : {X : Type 0} (items : List X) (place : ℕ) (item : X) → IsAt items place item → place < length items
at_within [] place item at = absurd (nothing_at item at)
at_within (x ∷ items) zero item at = omega arith
at_within (x ∷ items) (suc place) item at = let rest = at_within items place item at in omega arith

-- one item more from the back on
pub all_earlier : {X : Type 0} (P : X → Type 0) (items : List X) (place : ℕ) (item : X) → IsAt items place item
    → P item → AllByRecursion P (drop (suc place) items) → AllByRecursion P (drop place items)
all_earlier P [] place item at holds all = absurd (nothing_at item at)
all_earlier P (x ∷ items) zero item at holds all = (subst P (sym (some_one x item at)) holds, all)
all_earlier P (x ∷ items) (suc place) item at holds all = all_earlier P items place item at holds all

pub first_dropped : {X : Type 0} (P : X → Type 0) (items : List X) (place : ℕ) (item : X) → IsAt items place item
    → AllByRecursion P (drop place items) → P item
first_dropped P [] place item at all = absurd (nothing_at item at)
first_dropped P (x ∷ items) zero item at all = subst P (some_one x item at) all.0
first_dropped P (x ∷ items) (suc place) item at all = first_dropped P items place item at all

pub none_dropped : {X : Type 0} (P : X → Type 0) (items : List X) → AllByRecursion P (drop (length items) items)
none_dropped P [] = tt
none_dropped P (x ∷ items) = none_dropped P items

pub taken_dropped : {X : Type 0} (place : ℕ) (items : List X) → take place items ++ drop place items ≡ items
taken_dropped zero items = refl
taken_dropped (suc place) [] = refl
taken_dropped (suc place) (x ∷ items) = ap (λ xs. x ∷ xs) (taken_dropped place items)

-- ---- order

module _ {X : Type 0} (Precedes : X → X → Type 0)
    (transitive : (x y z : X) → Precedes x y → Precedes y z → Precedes x z) where
  -- what comes before a listed item comes before all behind it
  pub all_behind : (items : List X) (place : ℕ) (item x : X) → AreInOrder Precedes items → IsAt items place item
      → Precedes x item → AllByRecursion (Precedes x) (drop place items)
  all_behind [] place item x ordered at before = absurd (nothing_at item at)
  all_behind (y ∷ items) zero item x ordered at before =
      let first : Precedes x y = subst (Precedes x) (sym (some_one y item at)) before in
      (first, all_from (Precedes y) (Precedes x) (λ z. transitive x y z first) items ordered.0)
  all_behind (y ∷ items) (suc place) item x ordered at before = all_behind items place item x ordered.1 at before

  -- and what comes behind a listed item comes behind all up to it
  pub all_up_to : (items : List X) (place : ℕ) (item x : X) → AreInOrder Precedes items → IsAt items place item
      → Precedes item x → AllByRecursion (λ y. Precedes y x) (take (suc place) items)
  all_up_to [] place item x ordered at before = absurd (nothing_at item at)
  all_up_to (y ∷ items) zero item x ordered at before =
      (subst (λ z. Precedes z x) (sym (some_one y item at)) before, tt)
  all_up_to (y ∷ items) (suc place) item x ordered at before = (
    transitive y item x (all_at (Precedes y) items place item ordered.0 at) before,
    all_up_to items place item x ordered.1 at before,
  )

  pub put_in_order : (xs ys : List X) (x : X) → AreInOrder Precedes (xs ++ ys)
      → AllByRecursion (λ y. Precedes y x) xs → AllByRecursion (Precedes x) ys → AreInOrder Precedes (xs ++ x ∷ ys)
  put_in_order [] ys x ordered before behind = (behind, ordered)
  put_in_order (y ∷ xs) ys x ordered before behind = (
    all_joined (Precedes y) xs (x ∷ ys) (all_front (Precedes y) xs ys ordered.0)
        (before.0, all_back (Precedes y) xs ys ordered.0),
    put_in_order xs ys x ordered.1 before.1 behind,
  )

  pub taken_in_order : (count : ℕ) (items : List X) → AreInOrder Precedes items → AreInOrder Precedes (take count items)
  taken_in_order zero items ordered = tt
  taken_in_order (suc count) [] ordered = tt
  taken_in_order (suc count) (x ∷ items) ordered =
      (all_taken (Precedes x) count items ordered.0, taken_in_order count items ordered.1)

  -- of a list in order, each item is among the first so many or comes behind all of them
  pub taken_or_behind : (count : ℕ) (items : List X) (place : ℕ) (item : X) → AreInOrder Precedes items
      → IsAt items place item
      → ((at : ℕ) × IsAt (take count items) at item)
      ⊎ ((length (take count items) ≡ count) × AllByRecursion (λ other. Precedes other item) (take count items))
  taken_or_behind zero items place item ordered at = inr (refl, tt)
  taken_or_behind (suc count) [] place item ordered at = absurd (nothing_at item at)
  taken_or_behind (suc count) (x ∷ items) zero item ordered at = inl (zero, at)
  taken_or_behind (suc count) (x ∷ items) (suc place) item ordered at =
      ⊎_elim
      (λ stands. inl (suc stands.0, stands.1))
      (λ behind. inr (ap suc behind.0, (all_at (Precedes x) items place item ordered.0 at, behind.1)))
      (taken_or_behind count items place item ordered.1 at)

pub none_behind : {X : Type 0} (P : X → Type 0) (items : List X) (place : ℕ) → length items ≤ place
    → AllByRecursion P (drop place items)
none_behind P [] zero l = tt
none_behind P [] (suc place) l = tt
none_behind P (x ∷ items) zero l = absurd (omega arith)
none_behind P (x ∷ items) (suc place) l = none_behind P items place (omega arith)
