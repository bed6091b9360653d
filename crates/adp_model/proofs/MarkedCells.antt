-- Marks at places: as many are set as there are marked cells.
use Rattle.std.proofs.Common.{◌≡◌, ◌↔◌, ℕ, zero, suc, ◌+◌, ◌<◌, ◌≤◌, inl, inr, Bool, true, false, List, length, get_or, take, count_by, refl, sym, ap, subst, ◌∙◌, arith}
use Rattle.std.proofs.lemmas.Bool.{cases_Bool, cases_lt, false≢true}
use Rattle.std.proofs.lemmas.List.{get_or_default, take_all}
use Rattle.std.proofs.lemmas.List.Sums.{count_by_more_yes, count_by_more_no}
use Rattle.std.proofs.lemmas.List.Elements.{Contains-get_or}
use Rattle.adp_model.specs.declared.grammar.Grammar.{Grammar}
use Rattle.adp_model.specs.declared.cell.Cell.{Cell}
use Rattle.adp_model.specs.Cells.{CellPrecedes, AreAll, IsCountOf, IsCounted, IsCellBound, IsPlaceOf}
use Rattle.adp_model.proofs.CellLists.{in_order_rises, same_count, no_cells, push_cell, cells_before}

module _ (Holds P : Cell → Type 0) (cells : List Cell) (all : AreAll P cells) (marks : List Bool) (each : length marks ≡ length cells) (marked : (i : ℕ) (d : Cell) → i < length cells → get_or marks i false ≡ true ↔ Holds (get_or cells i d)) (d : Cell) where
  -- it holds of the cell, which is one of the first
  Among : ℕ → Cell → Type 0
  Among k cell = Holds cell × (i : ℕ) × (i < k) × (i < length cells) × (get_or cells i d ≡ cell)

  counted_among : (k : ℕ) → k ≤ length cells → IsCountOf (Among k) (count_by (λ mark. mark) (take k marks))
  unfolding Among
  counted_among zero within = no_cells (Among 0) (λ cell h. omega (arith, h.2))
  counted_among (suc k) within =
      let before = counted_among k (omega arith) in
      let below : k < length marks = omega arith in
      let next = get_or cells k d in
      let C : ℕ → Type 0 = IsCountOf (Among (suc k)) in
      let one_more : take (k + 1) marks ≡ take (suc k) marks = let next_is : k + 1 ≡ suc k = omega arith in ap (λ n. take n marks) next_is in
      elim (cases_Bool (get_or marks k false)) [
        | inl set ↦
            let more = sym (count_by_more_yes (λ (mark : Bool). mark) marks k false below set) ∙ ap (count_by (λ (mark : Bool). mark)) one_more in
            subst C more (
            push_cell (Among k) (Among (suc k)) next
            (λ cell h. let R : Cell → Type 0 = λ c. CellPrecedes c next in subst R h.4 (in_order_rises cells all.in_order d h.1 k h.2 (omega arith)))
            (λ cell h. (h.0, h.1, omega (arith, h.2), h.3, h.4))
            ((marked k d (omega arith)).0 set, k, omega arith, omega arith, refl)
            (λ cell h. elim (cases_lt h.1 k) [
              | inl earlier ↦ inl (h.0, h.1, earlier, h.3, h.4)
              | inr here ↦ let same : k ≡ h.1 = omega (arith, h.2) in inr (ap (λ i. get_or cells i d) same ∙ h.4)
            ])
            _ before
            )
        | inr unset ↦
            let more = sym (count_by_more_no (λ (mark : Bool). mark) marks k false below unset) ∙ ap (count_by (λ (mark : Bool). mark)) one_more in
            subst C more (
            same_count (Among k) (Among (suc k))
            (λ cell. (
              λ h. (h.0, h.1, omega (arith, h.2), h.3, h.4),
              λ h. elim (cases_lt h.1 k) [
                | inl earlier ↦ (h.0, h.1, earlier, h.3, h.4)
                | inr here ↦
                    let same : h.1 ≡ k = omega (arith, h.2) in
                    let at_k : get_or cells k d ≡ cell = ap (λ i. get_or cells i d) (sym same) ∙ h.4 in
                    absurd (false≢true (sym unset ∙ (marked k d (omega arith)).1 (subst Holds (sym at_k) h.0)))
              ],
            ))
            _ before
            )
      ]

  pub marks_count : ((cell : Cell) → Holds cell → P cell) → IsCountOf Holds (count_by (λ mark. mark) marks)
  unfolding Among
  marks_count known =
      let whole : take (length cells) marks ≡ marks = take_all (length cells) marks (omega arith) in
      let C : List Bool → Type 0 = λ some. IsCountOf (Among (length cells)) (count_by (λ mark. mark) some) in
      same_count (Among (length cells)) Holds
      (λ cell. (
        λ h. h.0,
        λ h.
            let found = all.all cell (known cell h) in
            (h, found.0, found.1, found.1, get_or_default cells found.0 d cell found.1 ∙ found.2),
      ))
      _ (subst C whole (counted_among (length cells) (omega arith)))

-- as many places are marked as there are cells of which it holds, where the marked places are theirs
pub marked_places : (grammar : Grammar) (len : ℕ) (Holds : Cell → Type 0) (marks : List Bool) → IsCellBound grammar len (length marks) → ((cell : Cell) → Holds cell → IsCounted grammar len cell) → ((cell : Cell) (place : ℕ) → IsCounted grammar len cell → IsPlaceOf grammar len cell place → get_or marks place false ≡ true ↔ Holds cell) → IsCountOf Holds (count_by (λ mark. mark) marks)
marked_places grammar len Holds marks (cells, all, each) known marked =
    let at_place : (i : ℕ) (d : Cell) → i < length cells → get_or marks i false ≡ true ↔ Holds (get_or cells i d) = λ i d below.
    let cell = get_or cells i d in
    let here : get_or cells i cell ≡ cell = get_or_default cells i cell d below in
    marked cell i (all.each cell (Contains-get_or cells i d below)) (cells_before (IsCounted grammar len) cells i cell all below here) in
    marks_count Holds (IsCounted grammar len) cells all marks each at_place (record { rule = 0; from = 0; to = 0 }) known
