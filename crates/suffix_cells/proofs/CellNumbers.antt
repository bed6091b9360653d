-- The number of the cells of which something holds, where one more cell is put among them.
use Rattle.std.proofs.Common.{◌≡◌, ℕ, zero, suc, ◌+◌, ◌<◌, ◌≤◌, ◌↔◌, ◌⊎◌, inl, inr, ⊎_elim, List, [], ◌∷◌, length, get_or, refl, sym, subst, arith}
use Rattle.std.specs.List.{Contains}
use Rattle.adp_model.specs.declared.cell.Cell.{Cell}
use Rattle.adp_model.specs.Cells.{CellPrecedes, AreAll, IsCountOf}
use Rattle.adp_model.proofs.CellLists.{fewer_cells, in_order_rises, precedes_irreflexive, precedes_total, precedes_transitive, same_count}
use Rattle.cell_tables.proofs.CellCounts.{joined_count, one_cell}

-- ---- the first cell, and those behind it

module _ (P : Cell → Type 0) (x : Cell) (xs : List Cell) (all : AreAll P (x ∷ xs)) where
  abbrev IsBehind : Cell → Type 0
  IsBehind cell = P cell × CellPrecedes x cell

  first_holds : P x
  first_holds = all.each x (0, omega arith, refl)

  rises : (cell : Cell) (k : ℕ) → k < length xs → CellPrecedes x (get_or xs k cell)
  rises cell k below = in_order_rises (x ∷ xs) all.in_order cell 0 (suc k) (omega arith) (omega (arith, below))

  first_or_behind : (cell : Cell) → P cell → (cell ≡ x) ⊎ CellPrecedes x cell
  first_or_behind cell holds = by (all.all cell holds)
    where
      by : Contains (x ∷ xs) cell → (cell ≡ x) ⊎ CellPrecedes x cell
      by (zero, below, e) = inl (sym e)
      by (suc k, below, e) = inr (subst (CellPrecedes x) e (rises cell k (omega (arith, below))))

  all_behind : AreAll IsBehind xs
  all_behind = record {
    in_order = λ k d below.
        let next : suc k + 1 ≡ suc (k + 1) = omega arith in
        subst (λ i. CellPrecedes (get_or xs k d) (get_or (x ∷ xs) i d)) next (all.in_order (suc k) d (omega (arith, below)));
    each = λ cell (k, below, e).
        (all.each cell (suc k, omega (arith, below), e), subst (CellPrecedes x) e (rises cell k below));
    all = λ cell (holds, behind). by cell behind (all.all cell holds);
  }
    where
      by : (cell : Cell) → CellPrecedes x cell → Contains (x ∷ xs) cell → Contains xs cell
      by cell behind (zero, below, e) = absurd (precedes_irreflexive x (subst (CellPrecedes x) (sym e) behind))
      by cell behind (suc k, below, e) = (k, omega (arith, below), e)

-- ---- one more cell

pub one_more_cell : (P : Cell → Type 0) (cell : Cell) → (P cell → ⊥) → (xs : List Cell) → AreAll P xs
    → IsCountOf (λ other. P other ⊎ (other ≡ cell)) (length xs + 1)
one_more_cell P cell none [] all =
    same_count (λ other. other ≡ cell) (λ other. P other ⊎ (other ≡ cell)) (λ other. (
      inr,
      ⊎_elim (λ holds. let at = all.all other holds in absurd (omega (arith, at.1))) (λ e. e),
    )) 1 (one_cell cell)
one_more_cell P cell none (x ∷ xs) all = elim (precedes_total cell x) [
  | inl before ↦
      subst (IsCountOf (λ other. P other ⊎ (other ≡ cell))) (omega arith)
      (joined_count (λ other. other ≡ cell) P (λ other. P other ⊎ (other ≡ cell))
      (λ a b here holds. subst (λ c. CellPrecedes c b) (sym here) (⊎_elim
      (λ first. subst (CellPrecedes cell) (sym first) before)
      (λ behind. precedes_transitive cell x b before behind) (first_or_behind P x xs all b holds)))
      (λ other. (⊎_elim inr inl, ⊎_elim inr inl)) 1 (suc (length xs)) (one_cell cell) (x ∷ xs, all, refl))
  | inr (inl same) ↦ absurd (none (subst P (sym same) (first_holds P x xs all)))
  | inr (inr after) ↦
      let Behind : Cell → Type 0 = λ other. (P other × CellPrecedes x other) ⊎ (other ≡ cell) in
      subst (IsCountOf (λ other. P other ⊎ (other ≡ cell))) (omega arith)
      (joined_count (λ other. other ≡ x) Behind (λ other. P other ⊎ (other ≡ cell))
      (λ a b here there. subst (λ c. CellPrecedes c b) (sym here)
      (⊎_elim (λ is. is.1) (λ e. subst (CellPrecedes x) (sym e) after) there))
      (λ other. (
        ⊎_elim (λ holds. ⊎_elim inl (λ behind. inr (inl (holds, behind))) (first_or_behind P x xs all other holds)) (λ e. inr (inr e)),
        ⊎_elim (λ e. inl (subst P (sym e) (first_holds P x xs all))) (⊎_elim (λ is. inl is.0) inr),
      )) 1 (length xs + 1) (one_cell x)
      (one_more_cell (λ other. P other × CellPrecedes x other) cell (λ is. none is.0) xs (all_behind P x xs all)))
]

pub next_cell : (P Q : Cell → Type 0) (cell : Cell) → (P cell → ⊥) → ((other : Cell) → Q other ↔ (P other ⊎ (other ≡ cell))) → (count : ℕ)
    → IsCountOf P count → IsCountOf Q (count + 1)
next_cell P Q cell none told count (cells, all, is) =
    same_count (λ other. P other ⊎ (other ≡ cell)) Q (λ other. ((told other).1, (told other).0)) (count + 1)
    (subst (λ n. IsCountOf (λ other. P other ⊎ (other ≡ cell)) (n + 1)) (sym is) (one_more_cell P cell none cells all))

-- all are counted
pub no_more_than : (P Q : Cell → Type 0) → ((cell : Cell) → P cell → Q cell) → (a b : ℕ) → IsCountOf P a → IsCountOf Q b → a ≤ b
no_more_than P Q within a b (xs, all, is) (ys, all', is') = omega (arith, is, is', fewer_cells P Q xs ys all all' within)
