-- One entry more among the first so many.
use Rattle.std.proofs.Common.{◌≡◌, ℕ, zero, suc, ◌<◌, ◌≤◌, ◌⊎◌, inl, inr, List, [], ◌∷◌, ◌++◌, length, take, refl, sym, arith, ⊎_elim, length-append}
use Rattle.std.specs.List.{AllByRecursion}
use Rattle.adp_model.specs.declared.grammar.Goal.{Goal}
use Rattle.first_trees.specs.FirstTrees.{AreInOrder, IsAt}
use Rattle.first_trees.specs.Entries.{Entry, EntryPrecedes}
use Rattle.k_best.specs.Settled.{IsListed, IsSettled}
use Rattle.k_best.proofs.InOrder.{all_at, nothing_at, some_one, all_joined, put_in_order, taken_in_order, taken_or_behind}

-- ---- items of a list with one item more

at_front : {X : Type 0} (xs ys : List X) (place : ℕ) (item : X) → IsAt xs place item → IsAt (xs ++ ys) place item
at_front [] ys place item at = absurd (nothing_at item at)
at_front (x ∷ xs) ys zero item at = at
at_front (x ∷ xs) ys (suc place) item at = at_front xs ys place item at

at_put : {X : Type 0} (xs ys : List X) (item : X) → IsAt (xs ++ item ∷ ys) (length xs) item
at_put [] ys item = refl
at_put (x ∷ xs) ys item = at_put xs ys item

still_in : {X : Type 0} (xs ys : List X) (item x : X) → ((place : ℕ) × IsAt (xs ++ ys) place x)
    → (place : ℕ) × IsAt (xs ++ item ∷ ys) place x
still_in [] ys item x stands = (suc stands.0, stands.1)
still_in (y ∷ xs) ys item x (zero, at) = (zero, at)
still_in (y ∷ xs) ys item x (suc place, at) =
    let rest = still_in xs ys item x (place, at) in (suc rest.0, rest.1)

was_in : {X : Type 0} (xs ys : List X) (item x : X) → ((place : ℕ) × IsAt (xs ++ item ∷ ys) place x)
    → ((place : ℕ) × IsAt (xs ++ ys) place x) ⊎ (x ≡ item)
was_in [] ys item x (zero, at) = inr (sym (some_one item x at))
was_in [] ys item x (suc place, at) = inl (place, at)
was_in (y ∷ xs) ys item x (zero, at) = inl (zero, at)
was_in (y ∷ xs) ys item x (suc place, at) =
    ⊎_elim (λ stands. inl (suc stands.0, stands.1)) (λ e. inr e) (was_in xs ys item x (place, at))

taken_in : {X : Type 0} (count : ℕ) (items : List X) (place : ℕ) (item : X) → IsAt (take count items) place item
    → IsAt items place item
taken_in zero items place item at = absurd (nothing_at item at)
taken_in (suc count) [] place item at = absurd (nothing_at item at)
taken_in (suc count) (x ∷ items) zero item at = at
taken_in (suc count) (x ∷ items) (suc place) item at = taken_in count items place item at

short_taken : {X : Type 0} (count : ℕ) (items : List X) → length (take count items) ≤ count
short_taken zero items = omega arith
short_taken (suc count) [] = omega arith
short_taken (suc count) (x ∷ items) = let rest = short_taken count items in omega arith

full_taken : {X : Type 0} (count : ℕ) (items : List X) → count ≤ length items → length (take count items) ≡ count
full_taken zero items l = refl
full_taken (suc count) [] l = absurd (omega arith)
full_taken (suc count) (x ∷ items) l = let rest = full_taken count items (omega arith) in omega arith

all_taken : {X : Type 0} (P : X → Type 0) (count : ℕ) (items : List X) → AllByRecursion P items → AllByRecursion P (take count items)
all_taken P zero items all = tt
all_taken P (suc count) [] all = tt
all_taken P (suc count) (x ∷ items) all = (all.0, all_taken P count items all.1)

stays_taken : {X : Type 0} (count : ℕ) (items : List X) (place : ℕ) (item : X) → place < count → IsAt items place item
    → IsAt (take count items) place item
stays_taken zero items place item l at = absurd (omega arith)
stays_taken (suc count) [] place item l at = absurd (nothing_at item at)
stays_taken (suc count) (x ∷ items) zero item l at = at
stays_taken (suc count) (x ∷ items) (suc place) item l at = stays_taken count items place item (omega arith) at

-- an item of two lists stands in the first, or at the place behind that in the second
front_or_back : {X : Type 0} (xs ys : List X) (place : ℕ) (item : X) → IsAt (xs ++ ys) place item
    → ((place < length xs) × IsAt xs place item) ⊎ ((other : ℕ) × IsAt ys other item)
front_or_back [] ys place item at = inr (place, at)
front_or_back (x ∷ xs) ys zero item at = inl (omega arith, at)
front_or_back (x ∷ xs) ys (suc place) item at =
    ⊎_elim (λ front. inl (omega (arith, front.0), front.1)) (λ back. inr back) (front_or_back xs ys place item at)

-- ---- the entry is put between those before it and those behind it

module _ (goal : Goal) (transitive : (a b c : Entry) → EntryPrecedes goal a b → EntryPrecedes goal b c → EntryPrecedes goal a c)
    (k : ℕ) (front back : List Entry) (entry : Entry) (ordered : AreInOrder (EntryPrecedes goal) (front ++ back))
    (before : AllByRecursion (λ other. EntryPrecedes goal other entry) front)
    (behind : AllByRecursion (EntryPrecedes goal entry) back) (few : length (front ++ back) ≤ k) where
  all_put : AreInOrder (EntryPrecedes goal) (front ++ entry ∷ back)
  all_put = put_in_order (EntryPrecedes goal) transitive front back entry ordered before behind

  pub put_few : length (take k (front ++ entry ∷ back)) ≤ k
  put_few = short_taken k (front ++ entry ∷ back)

  pub put_ordered : AreInOrder (EntryPrecedes goal) (take k (front ++ entry ∷ back))
  put_ordered = taken_in_order (EntryPrecedes goal) transitive k (front ++ entry ∷ back) all_put

  pub put_from : (other : Entry) → IsListed (take k (front ++ entry ∷ back)) other → IsListed (front ++ back) other ⊎ (other ≡ entry)
  put_from other (place, at) = was_in front back entry other (place, taken_in k (front ++ entry ∷ back) place other at)

  pub put_settled : IsSettled goal k (take k (front ++ entry ∷ back)) entry
  put_settled =
      taken_or_behind (EntryPrecedes goal) transitive k (front ++ entry ∷ back) (length front) entry all_put
      (at_put front back entry)

  -- what comes before the new entry stands where it stood
  pub put_front : ((a : Entry) → EntryPrecedes goal a a → ⊥) → (place : ℕ) (other : Entry) → IsAt (front ++ back) place other
      → EntryPrecedes goal other entry → IsAt (take k (front ++ entry ∷ back)) place other
  put_front irreflexive place other at earlier =
      ⊎_elim
      (λ (stands : (place < length front) × IsAt front place other).
      let l : place < length front = stands.0 in
      stays_taken k (front ++ entry ∷ back) place other (omega (arith, few, length-append front back)) (at_front front (entry ∷ back) place other stands.1))
      (λ (stands : (other' : ℕ) × IsAt back other' other).
      absurd (irreflexive entry (transitive entry other entry (all_at (EntryPrecedes goal entry) back stands.0 other behind stands.1) earlier)))
      (front_or_back front back place other at)

  -- what comes behind all of as many entries as are asked for comes behind the new one too, where that is not the last
  -- one itself
  pub put_kept : length front < k → (other : Entry) → IsSettled goal k (front ++ back) other
      → IsSettled goal k (take k (front ++ entry ∷ back)) other
  put_kept room other (inl stands) =
      let there = still_in front back entry other stands in
      taken_or_behind (EntryPrecedes goal) transitive k (front ++ entry ∷ back) there.0 other all_put there.1
  put_kept room other (inr (full, all)) =
      let long : length (front ++ entry ∷ back) ≡ suc (length (front ++ back)) =
      omega (arith, length-append front (entry ∷ back), length-append front back) in
      inr (
        full_taken k (front ++ entry ∷ back) (omega arith),
        all_taken (λ x. EntryPrecedes goal x other) k (front ++ entry ∷ back)
            (all_put_before back behind all full),
      )
    where
      all_put_before : (ys : List Entry) → AllByRecursion (EntryPrecedes goal entry) ys
          → AllByRecursion (λ x. EntryPrecedes goal x other) (front ++ ys) → length (front ++ ys) ≡ k
          → AllByRecursion (λ x. EntryPrecedes goal x other) (front ++ entry ∷ ys)
      all_put_before [] b all full = absurd (omega (arith, length-append front []))
      all_put_before (y ∷ ys) b all full =
          let first : EntryPrecedes goal entry other =
          transitive entry y other b.0 (last front (y ∷ ys) all).0 in
          all_joined (λ x. EntryPrecedes goal x other) front (entry ∷ y ∷ ys) (front_of front (y ∷ ys) all) (first, last front (y ∷ ys) all)
        where
          last : (xs zs : List Entry) → AllByRecursion (λ x. EntryPrecedes goal x other) (xs ++ zs) → AllByRecursion (λ x. EntryPrecedes goal x other) zs
          last [] zs all = all
          last (x ∷ xs) zs all = last xs zs all.1

          front_of : (xs zs : List Entry) → AllByRecursion (λ x. EntryPrecedes goal x other) (xs ++ zs) → AllByRecursion (λ x. EntryPrecedes goal x other) xs
          front_of [] zs all = tt
          front_of (x ∷ xs) zs all = (all.0, front_of xs zs all.1)
