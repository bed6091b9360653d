-- The first trees of a cell in the order of preference, as many as are asked for or as there are.
use Rattle.std.specs.Prelude.{◌≡◌, ℕ, ◌≤◌, ◌⊎◌, Some, List, [], ◌∷◌, length, slice_get}
use Rattle.std.specs.List.{AllByRecursion}
use Rattle.adp_model.specs.declared.cell.Cell.{Cell}
use Rattle.adp_model.specs.PosedProblem.{PosedProblem}
use Rattle.adp_model.specs.Tree.{Tree}
use Rattle.adp_model.specs.Derivation.{Derives}
use Rattle.adp_model.specs.Preference.{IsBefore}

-- each item comes before all that follow it
abbrev pub AreInOrder : {X : Type 0} → (X → X → Type 0) → List X → Type 0
AreInOrder Precedes [] = Unit {0}
AreInOrder Precedes (item ∷ items) = AllByRecursion (Precedes item) items × AreInOrder Precedes items

-- the item stands at this place of the list, counted from 0
abbrev pub IsAt : {X : Type 0} → List X → ℕ → X → Type 0
IsAt items place item = slice_get items place ≡ Some item

-- at most `k` items of which it holds, in order; each other such item comes after `k` of them
pub record AreFirstOf {X : Type 0} (Precedes : X → X → Type 0) (Holds : X → Type 0) (k : ℕ) (items : List X)
    : Type 0 where
  pub few : length items ≤ k
  pub hold : AllByRecursion Holds items
  pub in_order : AreInOrder Precedes items
  pub others : (item : X) → Holds item
      → ((place : ℕ) × IsAt items place item)
      ⊎ ((length items ≡ k) × AllByRecursion (λ listed. Precedes listed item) items)

-- the first `k` trees that are derived for the cell, in the order of preference: all of them where there are no more
abbrev pub AreFirst : PosedProblem → Cell → ℕ → List Tree → Type 0
AreFirst p cell = AreFirstOf (IsBefore p) (Derives p cell)

-- the tree stands at this place among the first `k` of the cell
abbrev pub HasPlace : PosedProblem → ℕ → Cell → Tree → ℕ → Type 0
HasPlace p k cell tree place = (trees : List Tree) × AreFirst p cell k trees × IsAt trees place tree
