-- Lists of cells in order: how long they are, and how they go on.
use Rattle.std.proofs.Common.{◌≡◌, ◌↔◌, ℕ, zero, suc, ◌+◌, ◌-◌, ◌<◌, ◌≤◌, ◌⊎◌, inl, inr, List, [], ◌∷◌, ◌++◌, length, get_or, take, refl, sym, subst, ◌∙◌, arith, zero-le}
use Rattle.std.specs.List.{Contains, AllAdjacentBelow}
use Rattle.std.proofs.lemmas.Bool.{cases_lt}
use Rattle.std.proofs.lemmas.List.{same_lists, get_or_default, get_or-take, length-take-le, length_push, get_or_append_left, get_or_push}
use Rattle.std.proofs.lemmas.List.Elements.{Contains-get_or, Contains-append_left, Contains-push, Contains-push_cases}
use Rattle.adp_model.specs.declared.cell.Cell.{Cell}
use Rattle.adp_model.specs.Cells.{CellPrecedes, AreAll, IsCountOf}

-- ---- the order of cells

pub precedes_irreflexive : (a : Cell) → CellPrecedes a a → ⊥
precedes_irreflexive a (inl less) = omega arith
precedes_irreflexive a (inr (same, inl less)) = omega arith
precedes_irreflexive a (inr (same, inr (same', less))) = omega arith

pub precedes_transitive : (a b c : Cell) → CellPrecedes a b → CellPrecedes b c → CellPrecedes a c
precedes_transitive a b c (inl less) (inl less') = inl (omega arith)
precedes_transitive a b c (inl less) (inr (same, rest)) = inl (omega arith)
precedes_transitive a b c (inr (same, rest)) (inl less') = inl (omega arith)
precedes_transitive a b c (inr (same, inl less)) (inr (same', inl less')) = inr (omega arith, inl (omega arith))
precedes_transitive a b c (inr (same, inl less)) (inr (same', inr (same'', less'))) = inr (omega arith, inl (omega arith))
precedes_transitive a b c (inr (same, inr (equal, less))) (inr (same', inl less')) = inr (omega arith, inl (omega arith))
precedes_transitive a b c (inr (same, inr (equal, less))) (inr (same', inr (equal', less'))) = inr (omega arith, inr (omega arith, omega arith))

pub same_cell : (a b : Cell) → a.rule ≡ b.rule → a.from ≡ b.from → a.to ≡ b.to → a ≡ b
same_cell a b r f t = λ i. record { rule = r i; from = f i; to = t i }

pub three_ways : (m n : ℕ) → (m < n) ⊎ ((m ≡ n) ⊎ (n < m))
three_ways m n = grind arith

pub precedes_total : (a b : Cell) → CellPrecedes a b ⊎ ((a ≡ b) ⊎ CellPrecedes b a)
precedes_total a b =
    elim (three_ways a.rule b.rule) [
      | inl less ↦ inl (inl less)
      | inr (inr more) ↦ inr (inr (inl more))
      | inr (inl same) ↦ elim (three_ways a.from b.from) [
        | inl less ↦ inl (inr (same, inl less))
        | inr (inr more) ↦ inr (inr (inr (sym same, inl more)))
        | inr (inl same') ↦ elim (three_ways a.to b.to) [
          | inl less ↦ inl (inr (same, inr (same', less)))
          | inr (inr more) ↦ inr (inr (inr (sym same, inr (sym same', more))))
          | inr (inl same'') ↦ inr (inl (same_cell a b same same' same''))
        ]
      ]
    ]

-- ---- cells in order rise

abbrev pub IsInOrder : List Cell → Type 0
IsInOrder cells = AllAdjacentBelow CellPrecedes cells (length cells)

pub in_order_far : (cells : List Cell) → IsInOrder cells → (d : Cell) (i m : ℕ) → i + suc m < length cells → CellPrecedes (get_or cells i d) (get_or cells (i + suc m) d)
in_order_far cells ordered d i zero below =
    let P : ℕ → Type 0 = λ j. CellPrecedes (get_or cells i d) (get_or cells j d) in
    subst P (omega arith) (ordered i d (omega arith))
in_order_far cells ordered d i (suc m) below =
    let far = in_order_far cells ordered d i m (omega arith) in
    let P : ℕ → Type 0 = λ j. CellPrecedes (get_or cells (i + suc m) d) (get_or cells j d) in
    let next : CellPrecedes (get_or cells (i + suc m) d) (get_or cells (i + suc (suc m)) d) = subst P (omega arith) (ordered (i + suc m) d (omega arith)) in
    precedes_transitive _ _ _ far next

pub in_order_rises : (cells : List Cell) → IsInOrder cells → (d : Cell) (i j : ℕ) → i < j → j < length cells → CellPrecedes (get_or cells i d) (get_or cells j d)
in_order_rises cells ordered d i j less below =
    let P : ℕ → Type 0 = λ k. CellPrecedes (get_or cells i d) (get_or cells k d) in
    let m : ℕ = j - suc i in
    let same : i + suc m ≡ j = omega arith in
    subst P same (in_order_far cells ordered d i m (omega arith))

-- what comes first stands first
pub index_below : (cells : List Cell) → IsInOrder cells → (d : Cell) (i j : ℕ) → i < length cells → j < length cells → CellPrecedes (get_or cells i d) (get_or cells j d) → i < j
index_below cells ordered d i j i_below j_below before =
    elim (three_ways i j) [
      | inl less ↦ less
      | inr (inl same) ↦
          let P : ℕ → Type 0 = λ k. CellPrecedes (get_or cells k d) (get_or cells j d) in
          absurd (precedes_irreflexive (get_or cells j d) (subst P same before))
      | inr (inr more) ↦
          absurd (precedes_irreflexive _ (precedes_transitive _ _ _ before (in_order_rises cells ordered d j i more i_below)))
    ]

-- ---- fewer cells make no longer list

module _ (P Q : Cell → Type 0) (xs ys : List Cell) (all : AreAll P xs) (all' : AreAll Q ys) (within : (cell : Cell) → P cell → Q cell) where
  found : (d : Cell) (i : ℕ) → i < length xs → (j : ℕ) × (j < length ys) × (get_or ys j d ≡ get_or xs i d)
  found d i below =
      let it = get_or xs i d in
      let where_it = all'.all it (within it (all.each it (Contains-get_or xs i d below))) in
      (where_it.0, where_it.1, get_or_default ys where_it.0 d it where_it.1 ∙ where_it.2)

  index_grows : (d : Cell) (i : ℕ) → i < length xs → (j : ℕ) × (i ≤ j) × (j < length ys) × (get_or ys j d ≡ get_or xs i d)
  index_grows d zero below =
      let here = found d zero below in
      (here.0, zero-le, here.1, here.2)
  index_grows d (suc i) below =
      let before = index_grows d i (omega arith) in
      let here = found d (suc i) below in
      let rises : CellPrecedes (get_or xs i d) (get_or xs (suc i) d) = in_order_rises xs all.in_order d i (suc i) (omega arith) below in
      let R : Cell → Type 0 = λ c. CellPrecedes c (get_or ys here.0 d) in
      let S : Cell → Type 0 = λ c. CellPrecedes (get_or xs i d) c in
      let moved : CellPrecedes (get_or ys before.0 d) (get_or ys here.0 d) = subst R (sym before.3) (subst S (sym here.2) rises) in
      let less : before.0 < here.0 = index_below ys all'.in_order d before.0 here.0 before.2 here.1 moved in
      (here.0, omega (arith, before.1), here.1, here.2)

pub fewer_cells : (P Q : Cell → Type 0) (xs ys : List Cell) → AreAll P xs → AreAll Q ys → ((cell : Cell) → P cell → Q cell) → length xs ≤ length ys
fewer_cells P Q [] ys all all' within = zero-le
fewer_cells P Q (x ∷ xs) ys all all' within =
    let last = index_grows P Q (x ∷ xs) ys all all' within x (length xs) (omega arith) in
    omega (arith, last.1, last.2)

-- the number of all cells of which something holds is one number
pub count_unique : (P Q : Cell → Type 0) → ((cell : Cell) → P cell ↔ Q cell) → (a b : ℕ) → IsCountOf P a → IsCountOf Q b → a ≡ b
count_unique P Q same a b (xs, all, count) (ys, all', count') =
    let up = fewer_cells P Q xs ys all all' (λ cell. (same cell).0) in
    let down = fewer_cells Q P ys xs all' all (λ cell. (same cell).1) in
    omega arith

-- there is one list of all cells of which something holds
pub AreAll_unique : (P : Cell → Type 0) (xs ys : List Cell) → AreAll P xs → AreAll P ys → xs ≡ ys
AreAll_unique P xs ys all all' = same_lists xs ys (count_unique P P (λ cell. (λ h. h, λ h. h)) (length xs) (length ys) (xs, all, refl) (ys, all', refl)) each
  where
    -- what stands at two indices stands at one
    one_index : (d : Cell) (k i : ℕ) → k ≤ i → i < length xs → get_or xs i d ≡ get_or xs k d → i ≤ k
    one_index d k i low inside same =
        elim (cases_lt k i) [
          | inl less ↦ absurd (precedes_irreflexive (get_or xs k d) (subst (CellPrecedes (get_or xs k d)) same (in_order_rises xs all.in_order d k i less inside)))
          | inr high ↦ high
        ]

    each : (k : ℕ) (d : Cell) → k < length xs → get_or xs k d ≡ get_or ys k d
    each k d below =
        let up = index_grows P P xs ys all all' (λ cell h. h) d k below in
        let down = index_grows P P ys xs all' all (λ cell h. h) d up.0 up.2 in
        let low : k ≤ up.0 = up.1 in
        let low' : up.0 ≤ down.0 = down.1 in
        let high : down.0 ≤ k = one_index d k down.0 (omega arith) down.2 (down.3 ∙ up.3) in
        let same : up.0 ≡ k = omega arith in
        sym (subst (λ j. get_or ys j d ≡ get_or xs k d) same up.3)

-- ---- how lists go on

pub same_cells : (P Q : Cell → Type 0) → ((cell : Cell) → P cell ↔ Q cell) → (xs : List Cell) → AreAll P xs → AreAll Q xs
same_cells P Q same xs all = record {
  in_order = all.in_order;
  each = λ cell contains. (same cell).0 (all.each cell contains);
  all = λ cell holds. all.all cell ((same cell).1 holds);
}

pub same_count : (P Q : Cell → Type 0) → ((cell : Cell) → P cell ↔ Q cell) → (a : ℕ) → IsCountOf P a → IsCountOf Q a
same_count P Q same a (xs, all, count) = (xs, same_cells P Q same xs all, count)

pub no_cells : (P : Cell → Type 0) → ((cell : Cell) → P cell → ⊥) → IsCountOf P 0
no_cells P none = ([], record { in_order = λ k d below. absurd (omega arith); each = λ cell contains. absurd (omega (arith, contains.1)); all = λ cell holds. absurd (none cell holds) }, refl)

module _ (P Q : Cell → Type 0) (next : Cell) (behind : (cell : Cell) → P cell → CellPrecedes cell next) (kept : (cell : Cell) → P cell → Q cell) (new : Q next) (only : (cell : Cell) → Q cell → P cell ⊎ (next ≡ cell)) where
  pushed_in_order : (xs : List Cell) → AreAll P xs → IsInOrder (xs ++ next ∷ [])
  pushed_in_order xs all k d below =
      let long = length_push xs next in
      let k_below : k < length xs = omega arith in
      let here = get_or_append_left xs (next ∷ []) d k k_below in
      let R : Cell → Type 0 = λ c. CellPrecedes c (get_or (xs ++ next ∷ []) (k + 1) d) in
      elim (cases_lt (k + 1) (length xs)) [
        | inl inside ↦
            let S : Cell → Type 0 = λ c. CellPrecedes (get_or xs k d) c in
            subst R (sym here) (subst S (sym (get_or_append_left xs (next ∷ []) d (k + 1) inside)) (all.in_order k d inside))
        | inr outside ↦
            let last : length xs ≡ k + 1 = omega arith in
            let S : Cell → Type 0 = λ c. CellPrecedes (get_or xs k d) c in
            subst R (sym here) (subst S (sym (get_or_push xs next d (k + 1) last)) (behind _ (all.each _ (Contains-get_or xs k d k_below))))
      ]

  pub push_cell : (a : ℕ) → IsCountOf P a → IsCountOf Q (a + 1)
  push_cell a (xs, all, count) = (
    xs ++ next ∷ [],
    record {
      in_order = pushed_in_order xs all;
      each = λ cell contains. elim (Contains-push_cases xs next cell contains) [
        | inl inside ↦ kept cell (all.each cell inside)
        | inr same ↦ subst Q same new
      ];
      all = λ cell holds. elim (only cell holds) [
        | inl inside ↦ Contains-append_left xs (next ∷ []) cell (all.all cell inside)
        | inr same ↦ let R : Cell → Type 0 = λ c. Contains (xs ++ next ∷ []) c in subst R same (Contains-push xs next)
      ];
    },
    omega (arith, length_push xs next),
  )

-- the cells before one of a list in order
pub cells_before : (P : Cell → Type 0) (xs : List Cell) (k : ℕ) (cell : Cell) → AreAll P xs → k < length xs → get_or xs k cell ≡ cell → IsCountOf (λ other. P other × CellPrecedes other cell) k
cells_before P xs k cell all below here =
    let long : length (take k xs) ≡ k = length-take-le k xs (omega arith) in
    let read : (d : Cell) → get_or xs k d ≡ cell = λ d. get_or_default xs k d cell below ∙ here in (
      take k xs,
      record {
        in_order = λ i d i_below.
            let e = get_or-take k xs i d (omega arith) in
            let e' = get_or-take k xs (i + 1) d (omega arith) in
            let R : Cell → Type 0 = λ c. CellPrecedes c (get_or (take k xs) (i + 1) d) in
            let S : Cell → Type 0 = λ c. CellPrecedes (get_or xs i d) c in
            subst R (sym e) (subst S (sym e') (all.in_order i d (omega arith)));
        each = λ other contains.
            let i_below : contains.0 < k = omega (arith, contains.1) in
            let e : get_or xs contains.0 other ≡ other = sym (get_or-take k xs contains.0 other i_below) ∙ contains.2 in
            let R : Cell → Type 0 = λ c. CellPrecedes c cell in
            let S : Cell → Type 0 = λ c. CellPrecedes (get_or xs contains.0 other) c in
            (all.each other (contains.0, omega arith, e), subst R e (subst S (read other) (in_order_rises xs all.in_order other contains.0 k i_below below)));
        all = λ other holds.
            let at = all.all other holds.0 in
            let R : Cell → Type 0 = λ c. CellPrecedes c (get_or xs k other) in
            let S : Cell → Type 0 = λ c. CellPrecedes other c in
            let before : CellPrecedes (get_or xs at.0 other) (get_or xs k other) = subst R (sym at.2) (subst S (sym (read other)) holds.1) in
            let less : at.0 < k = index_below xs all.in_order other at.0 k at.1 below before in
            (at.0, omega arith, get_or-take k xs at.0 other less ∙ at.2);
      },
      sym long,
    )
