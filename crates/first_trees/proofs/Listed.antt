-- A cell's list of first trees: there is one at most, a shorter one is its beginning, and its first tree is preferred.
use Rattle.std.proofs.Common.{◌≡◌, ℕ, zero, suc, ◌<◌, ◌≤◌, ◌⊎◌, inl, inr, ◌↔◌, Some, List, [], ◌∷◌, length, take, refl, sym, ap, ap₂, subst, arith}
use Rattle.std.specs.List.{AllByRecursion}
use Rattle.adp_model.specs.declared.cell.Cell.{Cell}
use Rattle.adp_model.specs.PosedProblem.{PosedProblem}
use Rattle.adp_model.specs.Tree.{Tree}
use Rattle.adp_model.specs.Derivation.{Derives}
use Rattle.adp_model.specs.Preference.{IsBefore, IsPreferred}
use Rattle.adp_model.specs.Answers.{HasNoTree}
use Rattle.first_trees.specs.FirstTrees.{AreInOrder, AreFirstOf, AreFirst}
use Rattle.first_trees.proofs.Lists.{IsIn, nothing_at, some_one, all_at, all_both, all_taken, in_order_taken, few_taken, all_are_taken, taken_or_behind}

-- ---- the first of the items of which it holds

module _ {X : Type 0} (R : X → X → Type 0) (irreflexive : (x : X) → R x x → ⊥)
    (transitive : (x y z : X) → R x y → R y z → R x z) where
  -- the head of a list of firsts is any such item, or before it
  head_first : (y : X) (ys : List X) (k : ℕ) (x : X) → AreInOrder R (y ∷ ys)
      → IsIn (y ∷ ys) x ⊎ ((length (y ∷ ys) ≡ k) × AllByRecursion (λ listed. R listed x) (y ∷ ys))
      → (y ≡ x) ⊎ R y x
  head_first y ys k x ordered (inl (zero, at)) = inl (some_one y x at)
  head_first y ys k x ordered (inl (suc place, at)) = inr (all_at (R y) ys place x ordered.0 at)
  head_first y ys k x ordered (inr behind) = inr behind.1.0

  heads_same : (x y : X) → (y ≡ x) ⊎ R y x → (x ≡ y) ⊎ R x y → x ≡ y
  heads_same x y (inl e) b = sym e
  heads_same x y (inr a) (inl e) = e
  heads_same x y (inr a) (inr b) = absurd (irreflexive x (transitive x y x b a))

  -- behind the head
  tail_firsts : (Holds : X → Type 0) (k : ℕ) (x : X) (xs : List X) → AreFirstOf R Holds (suc k) (x ∷ xs)
      → AreFirstOf R (λ y. Holds y × R x y) k xs
  tail_firsts Holds k x xs first =
      let few = first.few in
      record {
        few = omega arith;
        hold = all_both Holds (R x) xs first.hold.1 first.in_order.0;
        in_order = first.in_order.1;
        others = λ y holds. go y holds.1 (first.others y holds.0);
      }
    where
      go : (y : X) → R x y
          → IsIn (x ∷ xs) y ⊎ ((length (x ∷ xs) ≡ suc k) × AllByRecursion (λ listed. R listed y) (x ∷ xs))
          → IsIn xs y ⊎ ((length xs ≡ k) × AllByRecursion (λ listed. R listed y) xs)
      go y before (inl (zero, at)) = absurd (irreflexive x (subst (R x) (sym (some_one x y at)) before))
      go y before (inl (suc place, at)) = inl (place, at)
      go y before (inr behind) = let full : suc (length xs) ≡ suc k = behind.0 in inr (omega arith, behind.1.1)

  none_first : (Holds : X → Type 0) (k : ℕ) (y : X) (ys : List X) → AreFirstOf R Holds k [] → AreFirstOf R Holds k (y ∷ ys)
      → ⊥
  none_first Holds k y ys none first = go (none.others y first.hold.0)
    where
      go : IsIn [] y ⊎ ((length {A = X} [] ≡ k) × AllByRecursion (λ listed. R listed y) []) → ⊥
      go (inl stands) = nothing_at [] y stands.1
      go (inr behind) = let e : zero ≡ k = behind.0 in let few = first.few in omega arith

  pub first_unique : (Holds : X → Type 0) (k : ℕ) (xs ys : List X) → AreFirstOf R Holds k xs → AreFirstOf R Holds k ys
      → xs ≡ ys
  first_unique Holds k [] [] first other = refl
  first_unique Holds k [] (y ∷ ys) first other = absurd (none_first Holds k y ys first other)
  first_unique Holds k (x ∷ xs) [] first other = absurd (none_first Holds k x xs other first)
  first_unique Holds zero (x ∷ xs) (y ∷ ys) first other = let few = first.few in absurd (omega arith)
  first_unique Holds (suc k) (x ∷ xs) (y ∷ ys) first other =
      let same : x ≡ y =
      heads_same x y (head_first y ys (suc k) x other.in_order (other.others x first.hold.0))
      (head_first x xs (suc k) y first.in_order (first.others y other.hold.0)) in
      ap₂ (λ z zs. z ∷ zs) same
      (first_unique (λ z. Holds z × R x z) k xs ys (tail_firsts Holds k x xs first)
      (subst (λ w. AreFirstOf R (λ z. Holds z × R w z) k ys) (sym same) (tail_firsts Holds k y ys other)))

-- ---- of a cell

module _ (p : PosedProblem) (irreflexive : (t : Tree) → IsBefore p t t → ⊥)
    (transitive : (t u v : Tree) → IsBefore p t u → IsBefore p u v → IsBefore p t v) where
  pub list_unique : (cell : Cell) (k : ℕ) (trees others : List Tree) → AreFirst p cell k trees
      → AreFirst p cell k others → trees ≡ others
  list_unique cell k trees others first other =
      first_unique (IsBefore p) irreflexive transitive (Derives p cell) k trees others first other

  pub first_preferred : (cell : Cell) (k : ℕ) (tree : Tree) (others : List Tree) → AreFirst p cell k (tree ∷ others)
      → IsPreferred p cell tree
  first_preferred cell k tree others first =
      record { derived = first.hold.0; first = λ other derived before. go other before (first.others other derived) }
    where
      behind : (other : Tree) → IsBefore p other tree → IsBefore p tree other → ⊥
      behind other before after = irreflexive tree (transitive tree other tree after before)

      go : (other : Tree) → IsBefore p other tree
          → IsIn (tree ∷ others) other
          ⊎ ((length (tree ∷ others) ≡ k) × AllByRecursion (λ listed. IsBefore p listed other) (tree ∷ others)) → ⊥
      go other before (inl (zero, at)) =
          irreflexive tree (subst (λ x. IsBefore p x tree) (sym (some_one tree other at)) before)
      go other before (inl (suc place, at)) =
          behind other before (all_at (IsBefore p tree) others place other first.in_order.0 at)
      go other before (inr full) = behind other before full.1.0

  -- a tree that is before a listed one is listed
  pub before_listed : (cell : Cell) (k : ℕ) (trees : List Tree) (t u : Tree) → AreFirst p cell k trees → IsIn trees t
      → Derives p cell u → (u ≡ t) ⊎ IsBefore p u t → IsIn trees u
  before_listed cell k trees t u first stands derived (inl same) = subst (IsIn trees) (sym same) stands
  before_listed cell k trees t u first stands derived (inr before) = go (first.others u derived)
    where
      go : IsIn trees u ⊎ ((length trees ≡ k) × AllByRecursion (λ listed. IsBefore p listed u) trees) → IsIn trees u
      go (inl found) = found
      go (inr full) =
          absurd (irreflexive u (transitive u t u before
          (all_at (λ listed. IsBefore p listed u) trees stands.0 t full.1 stands.1)))

  pub preferred_alone : (cell : Cell) (tree : Tree)
      → ((t u : Tree) → Derives p cell t → Derives p cell u → (t ≡ u) ⊎ (IsBefore p t u ⊎ IsBefore p u t))
      → IsPreferred p cell tree → AreFirst p cell 1 (tree ∷ [])
  preferred_alone cell tree total preferred = record {
    few = omega arith;
    hold = (preferred.derived, tt);
    in_order = (tt, tt);
    others = λ other derived. go other derived (total tree other preferred.derived derived);
  }
    where
      go : (other : Tree) → Derives p cell other → (tree ≡ other) ⊎ (IsBefore p tree other ⊎ IsBefore p other tree)
          → IsIn (tree ∷ []) other
          ⊎ ((length (tree ∷ []) ≡ 1) × AllByRecursion (λ listed. IsBefore p listed other) (tree ∷ []))
      go other derived (inl same) = inl (zero, ap Some same)
      go other derived (inr (inl before)) = inr (refl, (before, tt))
      go other derived (inr (inr before)) = absurd (preferred.first other derived before)

pub list_shortened : (p : PosedProblem) (cell : Cell) (k fewer : ℕ) (trees : List Tree) → fewer ≤ k
    → AreFirst p cell k trees → AreFirst p cell fewer (take fewer trees)
list_shortened p cell k fewer trees less first = record {
  few = few_taken fewer trees;
  hold = all_taken (Derives p cell) fewer trees first.hold;
  in_order = in_order_taken (IsBefore p) fewer trees first.in_order;
  others = λ tree derived. go tree (first.others tree derived);
}
  where
    go : (tree : Tree) → IsIn trees tree ⊎ ((length trees ≡ k) × AllByRecursion (λ listed. IsBefore p listed tree) trees)
        → IsIn (take fewer trees) tree
        ⊎ ((length (take fewer trees) ≡ fewer) × AllByRecursion (λ listed. IsBefore p listed tree) (take fewer trees))
    go tree (inl stands) = taken_or_behind (IsBefore p) fewer stands.0 trees tree first.in_order stands.1
    go tree (inr full) =
        inr (
          all_are_taken fewer trees (let e = full.0 in omega arith),
          all_taken (λ listed. IsBefore p listed tree) fewer trees full.1,
        )

pub none_listed : (p : PosedProblem) (cell : Cell) (k : ℕ) → 0 < k → HasNoTree p cell ↔ AreFirst p cell k []
none_listed p cell k some = (there, back)
  where
    there : HasNoTree p cell → AreFirst p cell k []
    there none =
        record { few = omega arith; hold = tt; in_order = tt; others = λ tree derived. absurd (none tree derived) }

    refuse : (tree : Tree)
        → IsIn [] tree ⊎ ((length {A = Tree} [] ≡ k) × AllByRecursion (λ listed. IsBefore p listed tree) []) → ⊥
    refuse tree (inl stands) = nothing_at [] tree stands.1
    refuse tree (inr full) = let e : zero ≡ k = full.0 in omega arith

    back : AreFirst p cell k [] → HasNoTree p cell
    back first = λ tree derived. refuse tree (first.others tree derived)
