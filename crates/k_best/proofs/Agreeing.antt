-- What stands at the front of a list in order, where it leads all others.
use Rattle.std.proofs.Common.{◌≡◌, ℕ, zero, suc, ◌-◌, ◌≤◌, ◌⊎◌, inl, inr, Some, List, [], ◌∷◌, length, refl, sym, ap, subst, ◌∙◌, arith, ⊎_elim}
use Rattle.std.specs.List.{AllByRecursion}
use Rattle.first_trees.specs.FirstTrees.{AreInOrder, IsAt}
use Rattle.k_best.proofs.InOrder.{all_at, all_both, nothing_at, some_one}

module _ {X : Type 0} (Precedes : X → X → Type 0) (irreflexive : (a : X) → Precedes a a → ⊥)
    (transitive : (a b c : X) → Precedes a b → Precedes b c → Precedes a c) where
  -- an item up to this place comes before each item of which it holds, but for those that stand before it and itself
  abbrev pub Leads : (X → Type 0) → List X → ℕ → Type 0
  Leads Holds found n =
      (x : X) → Holds x → (place : ℕ) (y : X) → place ≤ n → IsAt found place y
      → ((r : ℕ) × (r ≤ place) × IsAt found r x) ⊎ Precedes y x

  abbrev pub Closed : (X → Type 0) → ℕ → List X → Type 0
  Closed Holds k list =
      (x : X) → Holds x
      → ((r : ℕ) × IsAt list r x) ⊎ ((length list ≡ k) × AllByRecursion (λ y. Precedes y x) list)

  -- the first items are one
  first_same : (Holds : X → Type 0) (x y : X) (xs ys : List X) (n k : ℕ) → Holds x → Holds y
      → AreInOrder Precedes (y ∷ ys) → Leads Holds (x ∷ xs) n → Closed Holds k (y ∷ ys) → x ≡ y
  first_same Holds x y xs ys n k holds holds' ordered leads closed =
      ⊎_elim
      (λ (found : (r : ℕ) × (r ≤ 0) × IsAt (x ∷ xs) r y). stands found.0 found.1 found.2)
      (λ before. ⊎_elim
      (λ (found : (r : ℕ) × IsAt (y ∷ ys) r x). listed before found.0 found.1)
      (λ out. absurd (irreflexive x (transitive x y x before out.1.0)))
      (closed x holds))
      (leads y holds' 0 x (omega arith) refl)
    where
      stands : (r : ℕ) → r ≤ 0 → IsAt (x ∷ xs) r y → x ≡ y
      stands zero l at = some_one x y at
      stands (suc r) l at = absurd (omega arith)

      listed : Precedes x y → (r : ℕ) → IsAt (y ∷ ys) r x → x ≡ y
      listed before zero at = sym (some_one y x at)
      listed before (suc r) at = absurd (irreflexive x (transitive x y x before (all_at (Precedes y) ys r x ordered.0 at)))

  pub agree : (Holds : X → Type 0) (found list : List X) (n k : ℕ) → length found ≤ k
      → AreInOrder Precedes found → AllByRecursion Holds found → AreInOrder Precedes list → AllByRecursion Holds list
      → Leads Holds found n → Closed Holds k list → (place : ℕ) (x : X) → place ≤ n → IsAt found place x → IsAt list place x
  agree Holds [] list n k few ordered hold ordered' hold' leads closed place x l at = absurd (nothing_at x at)
  agree Holds (x ∷ xs) [] n k few ordered hold ordered' hold' leads closed place z l at =
      ⊎_elim (λ stands. absurd (nothing_at x stands.1)) (λ out. absurd (omega (arith, out.0))) (closed x hold.0)
  agree Holds (x ∷ xs) (y ∷ ys) n k few ordered hold ordered' hold' leads closed zero z l at =
      ap Some (sym (first_same Holds x y xs ys n k hold.0 hold'.0 ordered' leads closed)) ∙ at
  agree Holds (x ∷ xs) (y ∷ ys) n k few ordered hold ordered' hold' leads closed (suc place) z l at =
      let same = first_same Holds x y xs ys n k hold.0 hold'.0 ordered' leads closed in
      agree (λ a. Holds a × Precedes x a) xs ys (n - 1) (k - 1) (omega arith) ordered.1
      (all_both Holds (Precedes x) xs hold.1 ordered.0) ordered'.1
      (all_both Holds (Precedes x) ys hold'.1 (subst (λ b. AllByRecursion (Precedes b) ys) (sym same) ordered'.0))
      (λ a holds r b low at'. ⊎_elim
      (λ (found : (q : ℕ) × (q ≤ suc r) × IsAt (x ∷ xs) q a). inl (later found.0 a r holds.1 found.1 found.2))
      (λ before. inr before)
      (leads a holds.0 (suc r) b (omega arith) at'))
      (λ a holds. ⊎_elim
      (λ (found : (q : ℕ) × IsAt (y ∷ ys) q a). further same found.0 a holds.1 found.1)
      (λ out. inr (omega (arith, out.0), out.1.1))
      (closed a holds.0))
      place z (omega arith) at
    where
      later : (q : ℕ) (a : X) (r : ℕ) → Precedes x a → q ≤ suc r → IsAt (x ∷ xs) q a → (s : ℕ) × (s ≤ r) × IsAt xs s a
      later zero a r before low at = absurd (irreflexive a (subst (λ b. Precedes b a) (some_one x a at) before))
      later (suc q) a r before low at = (q, omega arith, at)

      further : x ≡ y → (q : ℕ) (a : X) → Precedes x a → IsAt (y ∷ ys) q a
          → ((s : ℕ) × IsAt ys s a) ⊎ ((length ys ≡ k - 1) × AllByRecursion (λ b. Precedes b a) ys)
      further same zero a before at = absurd (irreflexive a (subst (λ b. Precedes b a) (same ∙ some_one y a at) before))
      further same (suc q) a before at = inl (q, at)
