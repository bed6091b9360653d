-- Places of cells: how they go on from one cell to the next, and what they tell.
use Rattle.std.proofs.Common.{◌≡◌, ◌↔◌, ℕ, zero, suc, ◌+◌, ◌-◌, ◌<◌, ◌≤◌, ◌⊎◌, inl, inr, length, get_or, refl, sym, subst, arith}
use Rattle.std.proofs.lemmas.Bool.{cases_lt}
use Rattle.std.proofs.lemmas.List.{get_or_default}
use Rattle.adp_model.specs.declared.grammar.Grammar.{Grammar}
use Rattle.adp_model.specs.declared.cell.Cell.{Cell}
use Rattle.adp_model.specs.Cells.{CellPrecedes, IsCounted, IsCellBound, IsPlaceOf, AreCountedEnds}
use Rattle.adp_model.proofs.CellLists.{precedes_transitive, precedes_total, same_cell, count_unique, same_count, no_cells, push_cell, cells_before}

abbrev at : ℕ → ℕ → ℕ → Cell
at rule from to = record { rule = rule; from = from; to = to }

module _ (grammar : Grammar) (len : ℕ) where
  -- counted, and before this cell
  abbrev Before : Cell → Cell → Type 0
  Before cell other = IsCounted grammar len other × CellPrecedes other cell

  pub place_unique : (cell : Cell) (a b : ℕ) → IsPlaceOf grammar len cell a → IsPlaceOf grammar len cell b → a ≡ b
  place_unique cell a b place place' = count_unique (Before cell) (Before cell) (λ other. (λ h. h, λ h. h)) a b place place'

  pub cell_bound_unique : (a b : ℕ) → IsCellBound grammar len a → IsCellBound grammar len b → a ≡ b
  cell_bound_unique a b bound bound' = count_unique (IsCounted grammar len) (IsCounted grammar len) (λ other. (λ h. h, λ h. h)) a b bound bound'

  -- of two cells the one that comes first has the lesser place
  pub places_rise : (a b : Cell) (p q : ℕ) → IsCounted grammar len a → CellPrecedes a b → IsPlaceOf grammar len a p → IsPlaceOf grammar len b q → p < q
  places_rise a b p q counted before place (ys, all, count) =
      let found = all.all a (counted, before) in
      let earlier = cells_before (Before b) ys found.0 a all found.1 found.2 in
      let same : (other : Cell) → (Before a other ↔ (Before b other × CellPrecedes other a)) = λ other.
      (λ h. ((h.0, precedes_transitive other a b h.1 before), h.1), λ h. (h.0.0, h.1)) in
      let e = count_unique (Before a) (λ other. Before b other × CellPrecedes other a) same p found.0 place earlier in
      omega (arith, found.1)

  pub places_apart : (a b : Cell) (p : ℕ) → IsCounted grammar len a → IsCounted grammar len b → IsPlaceOf grammar len a p → IsPlaceOf grammar len b p → a ≡ b
  places_apart a b p counted counted' place place' =
      elim (precedes_total a b) [
        | inl before ↦ absurd (let less = places_rise a b p p counted before place place' in omega arith)
        | inr (inl same) ↦ same
        | inr (inr behind) ↦ absurd (let less = places_rise b a p p counted' behind place' place in omega arith)
      ]

  pub place_below : (cell : Cell) (p bound : ℕ) → IsCounted grammar len cell → IsPlaceOf grammar len cell p → IsCellBound grammar len bound → p < bound
  place_below cell p bound counted place (ys, all, count) =
      let found = all.all cell counted in
      let earlier = cells_before (IsCounted grammar len) ys found.0 cell all found.1 found.2 in
      let e = place_unique cell p found.0 place earlier in
      omega (arith, found.1)

  pub place_of_counted : (cell : Cell) (bound : ℕ) → IsCounted grammar len cell → IsCellBound grammar len bound → (p : ℕ) × IsPlaceOf grammar len cell p
  place_of_counted cell bound counted (ys, all, count) =
      let found = all.all cell counted in
      (found.0, cells_before (IsCounted grammar len) ys found.0 cell all found.1 found.2)

  pub cell_at_place : (p bound : ℕ) → IsCellBound grammar len bound → p < bound → (cell : Cell) × IsCounted grammar len cell × IsPlaceOf grammar len cell p
  cell_at_place p bound (ys, all, count) below =
      let cell = get_or ys p (at 0 0 0) in
      let p_below : p < length ys = omega arith in
      let read : get_or ys p cell ≡ cell = get_or_default ys p cell (at 0 0 0) p_below in
      (cell, all.each cell (p, p_below, read), cells_before (IsCounted grammar len) ys p cell all p_below read)

  -- ---- from one cell to the next

  pub first_place : IsPlaceOf grammar len (at 0 0 0) 0
  first_place = no_cells (Before (at 0 0 0)) (λ cell h. nothing cell h.1)
    where
      nothing : (cell : Cell) → CellPrecedes cell (at 0 0 0) → ⊥
      nothing cell (inl less) = omega arith
      nothing cell (inr (same, inl less)) = omega arith
      nothing cell (inr (same, inr (same', less))) = omega arith

  counted_here : (rule from : ℕ) (other : Cell) → other.rule ≡ rule → other.from ≡ from → IsCounted grammar len other → IsCounted grammar len (at rule from other.to)
  counted_here rule from other r f counted = subst (IsCounted grammar len) (same_cell other (at rule from other.to) r f refl) counted

  module _ (rule from first past : ℕ) (ends : AreCountedEnds grammar len rule from first past) where
    -- no counted cell of the rule begins here and ends before the first end
    at_first : (k : ℕ) → IsPlaceOf grammar len (at rule from 0) k → IsPlaceOf grammar len (at rule from first) k
    at_first k place = same_count (Before (at rule from 0)) (Before (at rule from first)) (λ other. (λ h. (h.0, up other h.1), λ h. (h.0, down other h.0 h.1))) k place
      where
        up : (other : Cell) → CellPrecedes other (at rule from 0) → CellPrecedes other (at rule from first)
        up other (inl less) = inl less
        up other (inr (same, inl less)) = inr (same, inl less)
        up other (inr (same, inr (same', less))) = absurd (omega arith)

        down : (other : Cell) → IsCounted grammar len other → CellPrecedes other (at rule from first) → CellPrecedes other (at rule from 0)
        down other counted (inl less) = inl less
        down other counted (inr (same, inl less)) = inr (same, inl less)
        down other counted (inr (same, inr (same', less))) =
            let inside = (ends other.to).0 (counted_here rule from other same same' counted) in
            absurd (omega (arith, inside.0))

    at_next : (to k : ℕ) → first ≤ to → to < past → IsPlaceOf grammar len (at rule from to) k → IsPlaceOf grammar len (at rule from (to + 1)) (k + 1)
    at_next to k low high place =
        push_cell (Before (at rule from to)) (Before (at rule from (to + 1))) (at rule from to)
        (λ other h. h.1)
        (λ other h. (h.0, up other h.1))
        ((ends to).1 (low, high), inr (refl, inr (refl, omega arith)))
        (λ other h. down other h.0 h.1)
        k place
      where
        up : (other : Cell) → CellPrecedes other (at rule from to) → CellPrecedes other (at rule from (to + 1))
        up other (inl less) = inl less
        up other (inr (same, inl less)) = inr (same, inl less)
        up other (inr (same, inr (same', less))) = inr (same, inr (same', omega arith))

        down : (other : Cell) → IsCounted grammar len other → CellPrecedes other (at rule from (to + 1)) → Before (at rule from to) other ⊎ (at rule from to ≡ other)
        down other counted (inl less) = inl (counted, inl less)
        down other counted (inr (same, inl less)) = inl (counted, inr (same, inl less))
        down other counted (inr (same, inr (same', less))) = elim (cases_lt other.to to) [
          | inl before ↦ inl (counted, inr (same, inr (same', before)))
          | inr behind ↦ inr (same_cell (at rule from to) other (sym same) (sym same') (omega arith))
        ]

    counted_on : (m k : ℕ) → first + m ≤ past → IsPlaceOf grammar len (at rule from 0) k → IsPlaceOf grammar len (at rule from (first + m)) (k + m)
    counted_on zero k within place =
        let P : ℕ → ℕ → Type 0 = λ to j. IsPlaceOf grammar len (at rule from to) j in
        let e : first ≡ first + 0 = omega arith in
        let e' : k ≡ k + 0 = omega arith in
        subst (λ to. P to (k + 0)) e (subst (λ j. P first j) e' (at_first k place))
    counted_on (suc m) k within place =
        let P : ℕ → ℕ → Type 0 = λ to j. IsPlaceOf grammar len (at rule from to) j in
        let before = counted_on m k (omega arith) place in
        let e : (first + m) + 1 ≡ first + suc m = omega arith in
        let e' : (k + m) + 1 ≡ k + suc m = omega arith in
        subst (λ to. P to (k + suc m)) e (subst (λ j. P ((first + m) + 1) j) e' (at_next (first + m) (k + m) (omega arith) (omega arith) before))

    -- the places at one start: they rise by one from end to end
    pub place_in_start : (k to : ℕ) → IsPlaceOf grammar len (at rule from 0) k → first ≤ to → to ≤ past → IsPlaceOf grammar len (at rule from to) (k + (to - first))
    place_in_start k to place low high =
        let P : ℕ → Type 0 = λ t. IsPlaceOf grammar len (at rule from t) (k + (to - first)) in
        let e : first + (to - first) ≡ to = omega arith in
        subst P e (counted_on (to - first) k (omega arith) place)

    -- the place of the next start
    pub place_of_next_start : (k : ℕ) → first ≤ past → IsPlaceOf grammar len (at rule from 0) k → IsPlaceOf grammar len (at rule (from + 1) 0) (k + (past - first))
    place_of_next_start k ordered place =
        same_count (Before (at rule from past)) (Before (at rule (from + 1) 0)) (λ other. (λ h. (h.0, up other h.1), λ h. (h.0, down other h.0 h.1)))
        (k + (past - first)) (place_in_start k past place ordered (omega arith))
      where
        up : (other : Cell) → CellPrecedes other (at rule from past) → CellPrecedes other (at rule (from + 1) 0)
        up other (inl less) = inl less
        up other (inr (same, inl less)) = inr (same, inl (omega arith))
        up other (inr (same, inr (same', less))) = inr (same, inl (omega arith))

        down : (other : Cell) → IsCounted grammar len other → CellPrecedes other (at rule (from + 1) 0) → CellPrecedes other (at rule from past)
        down other counted (inl less) = inl less
        down other counted (inr (same, inr (same', less))) = absurd (omega arith)
        down other counted (inr (same, inl less)) = elim (cases_lt other.from from) [
          | inl before ↦ inr (same, inl before)
          | inr here ↦
              let same' : other.from ≡ from = omega arith in
              let inside = (ends other.to).0 (counted_here rule from other same same' counted) in
              inr (same, inr (same', inside.1))
        ]

  -- the place of the next rule
  pub place_of_next_rule : (rule k : ℕ) → IsPlaceOf grammar len (at rule (len + 1) 0) k → IsPlaceOf grammar len (at (rule + 1) 0 0) k
  place_of_next_rule rule k place =
      same_count (Before (at rule (len + 1) 0)) (Before (at (rule + 1) 0 0)) (λ other. (λ h. (h.0, up other h.1), λ h. (h.0, down other h.0 h.1))) k place
    where
      up : (other : Cell) → CellPrecedes other (at rule (len + 1) 0) → CellPrecedes other (at (rule + 1) 0 0)
      up other (inl less) = inl (omega arith)
      up other (inr (same, rest)) = inl (omega arith)

      down : (other : Cell) → IsCounted grammar len other → CellPrecedes other (at (rule + 1) 0 0) → CellPrecedes other (at rule (len + 1) 0)
      down other counted (inr (same, inl less)) = absurd (omega arith)
      down other counted (inr (same, inr (same', less))) = absurd (omega arith)
      down other counted (inl less) = elim (cases_lt other.rule rule) [
        | inl before ↦ inl before
        | inr here ↦ inr (omega arith, inl (omega (arith, counted.in_order, counted.in_word)))
      ]

  -- behind the last rule
  pub cell_bound_behind : (k : ℕ) → IsPlaceOf grammar len (at (length grammar.rules) 0 0) k → IsCellBound grammar len k
  cell_bound_behind k place =
      same_count (Before (at (length grammar.rules) 0 0)) (IsCounted grammar len) (λ other. (λ h. h.0, λ h. (h, inl h.rule))) k place
