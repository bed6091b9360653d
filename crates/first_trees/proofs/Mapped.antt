-- First items, mapped one to one onto others that have the same order.
use Rattle.std.proofs.Common.{◌≡◌, ◌↔◌, ℕ, zero, suc, ◌≤◌, ◌⊎◌, inl, inr, Some, List, [], ◌∷◌, length, map, refl, sym, ap, ◌∙◌, subst}
use Rattle.std.proofs.lemmas.List.{length-map}
use Rattle.std.specs.List.{AllByRecursion}
use Rattle.first_trees.specs.FirstTrees.{AreFirstOf, AreInOrder, IsAt}
use Rattle.first_trees.proofs.Lists.{nothing_at, some_one}

module _ {X Y : Type 0} (f : X → Y) where
  at_mapped : (xs : List X) (place : ℕ) (x : X) → IsAt xs place x → IsAt (map f xs) place (f x)
  at_mapped [] place x at = absurd (nothing_at [] x at)
  at_mapped (x ∷ xs) zero y at = ap (λ z. Some (f z)) (some_one x y at)
  at_mapped (x ∷ xs) (suc place) y at = at_mapped xs place y at

  all_mapped : (P : X → Type 0) (Q : Y → Type 0) → ((x : X) → P x → Q (f x)) → (xs : List X) → AllByRecursion P xs
      → AllByRecursion Q (map f xs)
  all_mapped P Q each [] all = tt
  all_mapped P Q each (x ∷ xs) all = (each x all.0, all_mapped P Q each xs all.1)

  all_unmapped : (P : X → Type 0) (Q R : Y → Type 0) → ((x : X) → P x → Q (f x) → R (f x)) → (xs : List X)
      → AllByRecursion P xs → AllByRecursion Q (map f xs) → AllByRecursion (λ x. R (f x)) xs
  all_unmapped P Q R each [] all all' = tt
  all_unmapped P Q R each (x ∷ xs) all all' =
      (each x all.0 all'.0, all_unmapped P Q R each xs all.1 all'.1)

  module _ (Before : X → X → Type 0) (Follows : Y → Y → Type 0) (Holds : X → Type 0) (Held : Y → Type 0)
      (held : (x : X) → Holds x → Held (f x))
      (one : (x y : X) → Holds x → Holds y → f x ≡ f y → x ≡ y)
      (onto : (y : Y) → Held y → (x : X) × Holds x × (y ≡ f x))
      (same : (x y : X) → Holds x → Holds y → Before x y ↔ Follows (f x) (f y)) where
    -- one item comes before all of these, or all of these before one
    before_mapped : (x : X) → Holds x → (xs : List X) → AllByRecursion Holds xs → AllByRecursion (Before x) xs
        → AllByRecursion (Follows (f x)) (map f xs)
    before_mapped x is [] hold all = tt
    before_mapped x is (y ∷ ys) hold all = ((same x y is hold.0).0 all.0, before_mapped x is ys hold.1 all.1)

    behind_mapped : (x : X) → Holds x → (xs : List X) → AllByRecursion Holds xs
        → AllByRecursion (λ y. Before y x) xs → AllByRecursion (λ y. Follows y (f x)) (map f xs)
    behind_mapped x is [] hold all = tt
    behind_mapped x is (y ∷ ys) hold all = ((same y x hold.0 is).0 all.0, behind_mapped x is ys hold.1 all.1)

    before_unmapped : (x : X) → Holds x → (xs : List X) → AllByRecursion Holds xs
        → AllByRecursion (Follows (f x)) (map f xs) → AllByRecursion (Before x) xs
    before_unmapped x is [] hold all = tt
    before_unmapped x is (y ∷ ys) hold all = ((same x y is hold.0).1 all.0, before_unmapped x is ys hold.1 all.1)

    behind_unmapped : (x : X) → Holds x → (xs : List X) → AllByRecursion Holds xs
        → AllByRecursion (λ y. Follows y (f x)) (map f xs) → AllByRecursion (λ y. Before y x) xs
    behind_unmapped x is [] hold all = tt
    behind_unmapped x is (y ∷ ys) hold all = ((same y x hold.0 is).1 all.0, behind_unmapped x is ys hold.1 all.1)

    order_mapped : (xs : List X) → AllByRecursion Holds xs → AreInOrder Before xs → AreInOrder Follows (map f xs)
    order_mapped [] hold ordered = tt
    order_mapped (x ∷ xs) hold ordered =
        (before_mapped x hold.0 xs hold.1 ordered.0, order_mapped xs hold.1 ordered.1)

    order_unmapped : (xs : List X) → AllByRecursion Holds xs → AreInOrder Follows (map f xs) → AreInOrder Before xs
    order_unmapped [] hold ordered = tt
    order_unmapped (x ∷ xs) hold ordered =
        (before_unmapped x hold.0 xs hold.1 ordered.0, order_unmapped xs hold.1 ordered.1)

    -- an item whose image stands at a place stands there itself
    at_unmapped : (xs : List X) → AllByRecursion Holds xs → (place : ℕ) (x : X) → Holds x
        → IsAt (map f xs) place (f x) → IsAt xs place x
    at_unmapped [] hold place x is at = absurd (nothing_at [] (f x) at)
    at_unmapped (y ∷ ys) hold zero x is at = ap Some (one y x hold.0 is (some_one (f y) (f x) at))
    at_unmapped (y ∷ ys) hold (suc place) x is at = at_unmapped ys hold.1 place x is at

    pub first_mapped : (k : ℕ) (xs : List X) → AreFirstOf Before Holds k xs → AreFirstOf Follows Held k (map f xs)
    first_mapped k xs first = record {
      few = subst (λ n. n ≤ k) (sym (length-map xs f)) first.few;
      hold = all_mapped Holds Held held xs first.hold;
      in_order = order_mapped xs first.hold first.in_order;
      others = others;
    }
      where
        found : (x : X) → Holds x
            → ((place : ℕ) × IsAt xs place x) ⊎ ((length xs ≡ k) × AllByRecursion (λ y. Before y x) xs)
            → ((place : ℕ) × IsAt (map f xs) place (f x))
            ⊎ ((length (map f xs) ≡ k) × AllByRecursion (λ y. Follows y (f x)) (map f xs))
        found x is (inl (place, at)) = inl (place, at_mapped xs place x at)
        found x is (inr (full, all)) = inr (length-map xs f ∙ full, behind_mapped x is xs first.hold all)

        others : (y : Y) → Held y
            → ((place : ℕ) × IsAt (map f xs) place y)
            ⊎ ((length (map f xs) ≡ k) × AllByRecursion (λ z. Follows z y) (map f xs))
        others y is =
            let from = onto y is in
            subst (λ z. ((place : ℕ) × IsAt (map f xs) place z)
            ⊎ ((length (map f xs) ≡ k) × AllByRecursion (λ w. Follows w z) (map f xs)))
            (sym from.2) (found from.0 from.1 (first.others from.0 from.1))

    unmapped : (k : ℕ) (xs : List X) → AllByRecursion Holds xs → AreFirstOf Follows Held k (map f xs)
        → AreFirstOf Before Holds k xs
    unmapped k xs hold first = record {
      few = subst (λ n. n ≤ k) (length-map xs f) first.few;
      hold = hold;
      in_order = order_unmapped xs hold first.in_order;
      others = λ x is. found x is (first.others (f x) (held x is));
    }
      where
        found : (x : X) → Holds x
            → ((place : ℕ) × IsAt (map f xs) place (f x))
            ⊎ ((length (map f xs) ≡ k) × AllByRecursion (λ y. Follows y (f x)) (map f xs))
            → ((place : ℕ) × IsAt xs place x) ⊎ ((length xs ≡ k) × AllByRecursion (λ y. Before y x) xs)
        found x is (inl (place, at)) = inl (place, at_unmapped xs hold place x is at)
        found x is (inr (full, all)) = inr (sym (length-map xs f) ∙ full, behind_unmapped x is xs hold all)

    -- what is listed comes from such a list
    record IsFrom (ys : List Y) : Type 0 where
      items : List X
      hold : AllByRecursion Holds items
      images : map f items ≡ ys

    from : (ys : List Y) → AllByRecursion Held ys → IsFrom ys
    from [] all = record { items = []; hold = tt; images = refl }
    from (y ∷ ys) all =
        let first = onto y all.0 in
        let rest = from ys all.1 in
        record {
          items = first.0 ∷ rest.items;
          hold = (first.1, rest.hold);
          images = λ i. sym first.2 i ∷ rest.images i;
        }

    pub first_unmapped : (k : ℕ) (ys : List Y) → AreFirstOf Follows Held k ys
        → (xs : List X) × AreFirstOf Before Holds k xs × (map f xs ≡ ys)
    first_unmapped k ys first =
        let it = from ys first.hold in (
          it.items,
          unmapped k it.items it.hold (subst (AreFirstOf Follows Held k) (sym it.images) first),
          it.images,
        )
