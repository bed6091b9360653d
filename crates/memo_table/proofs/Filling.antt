-- As many record words are filled as cells are demanded.
use Rattle.std.proofs.Common.{◌≡◌, ℕ, zero, suc, ◌+◌, ◌-◌, ◌<◌, ◌≤◌, ◌⊎◌, inl, inr, min, List, length, slice_index_or, refl, sym, ap, subst, ◌∙◌, arith}
use mathlib.Core.Logic.{dite}
use native.Mathlib.Decide.{ℕ_discrete, dec_le}
use Rattle.std.specs.List.{AllAdjacentBelow}
use Rattle.std.proofs.lemmas.List.{get_or_default}
use Rattle.std.proofs.lemmas.List.Elements.{Contains-get_or}
use Rattle.adp_model.specs.declared.cell.Cell.{Cell}
use Rattle.adp_model.specs.Cells.{CellPrecedes, AreAll}
use Rattle.adp_model.specs.Demand.{IsDemanded}
use Rattle.memo_words.specs.Codes.{HasCellCode, cell_code}
use Rattle.memo_words.specs.Layout.{Plan, slots_of, key}
use Rattle.memo_words.specs.Kept.{name, filled}
use Rattle.memo_table.specs.ClosedTables.{IsSettled}
use Rattle.memo_table.proofs.Counting.{tally_le, told_apart, reached_apart}

-- ---- a list in order has no cell twice

precedes_on : (a b c : Cell) → CellPrecedes a b → CellPrecedes b c → CellPrecedes a c
precedes_on a b c first second = grind arith

never_itself : (a : Cell) → CellPrecedes a a → ⊥
never_itself a before = grind arith

rises : (cells : List Cell) → AllAdjacentBelow CellPrecedes cells (length cells) → (d : Cell) (i gap : ℕ)
    → i + gap + 1 < length cells → CellPrecedes (slice_index_or cells i d) (slice_index_or cells (i + gap + 1) d)
rises cells in_order d i zero low =
    subst (λ (n : ℕ). CellPrecedes (slice_index_or cells i d) (slice_index_or cells n d))
    (let e : i + 1 ≡ i + zero + 1 = omega arith in e) (in_order i d (omega arith))
rises cells in_order d i (suc gap) low =
    let next : i + gap + 1 + 1 ≡ i + suc gap + 1 = omega arith in
    precedes_on (slice_index_or cells i d) (slice_index_or cells (i + gap + 1) d)
    (slice_index_or cells (i + suc gap + 1) d)
    (rises cells in_order d i gap (omega arith))
    (subst (λ (n : ℕ). CellPrecedes (slice_index_or cells (i + gap + 1) d) (slice_index_or cells n d)) next
    (in_order (i + gap + 1) d (omega arith)))

not_below : (cells : List Cell) → AllAdjacentBelow CellPrecedes cells (length cells) → (d : Cell) (i j : ℕ) → i < j
    → j < length cells → slice_index_or cells i d ≡ slice_index_or cells j d → ⊥
not_below cells in_order d i j less low same =
    let at : i + (j - i - 1) + 1 ≡ j = omega arith in
    let before = subst (λ (n : ℕ). CellPrecedes (slice_index_or cells i d) (slice_index_or cells n d)) at
    (rises cells in_order d i (j - i - 1) (omega arith)) in
    never_itself (slice_index_or cells i d)
    (subst (CellPrecedes (slice_index_or cells i d)) (sym same) before)

one_place : (cells : List Cell) → AllAdjacentBelow CellPrecedes cells (length cells) → (d : Cell) (i j : ℕ)
    → i < length cells → j < length cells → slice_index_or cells i d ≡ slice_index_or cells j d → i ≡ j
one_place cells in_order d i j ilt jlt same =
    let a : i < j → ⊥ = λ less. not_below cells in_order d i j less jlt same in
    let b : j < i → ⊥ = λ less. not_below cells in_order d j i less ilt (sym same) in
    omega (arith, a, b)

module _ (plan : Plan) (words : List ℕ) (cells : List Cell) (all : AreAll (IsDemanded plan.problem) cells)
    (settled : IsSettled plan words) (tell : (a b : Cell) → HasCellCode a → HasCellCode b → cell_code a ≡ cell_code b
    → a ≡ b) where
  -- the number of the cell, from 1 on, at a position with a record, and 0 elsewhere
  Numbered : ℕ → ℕ → Type 0
  Numbered i n =
      i < slots_of plan
      → ((name plan words i ≡ 0) × (n ≡ 0))
      ⊎ ((c : Cell) × (0 < n) × (n ≤ length cells) × (slice_index_or cells (n - 1) c ≡ c) × (key words i ≡ cell_code c))

  numbered : (i : ℕ) → (n : ℕ) × Numbered i n
  unfolding Numbered
  numbered i =
      dite (ℕ_discrete (name plan words i) 0)
      (λ none. (0, λ inside. inl (none, refl)))
      (λ some.
      dite (dec_le (suc i) (slots_of plan))
      (λ inside.
      let full : 0 < name plan words i = let s : (name plan words i ≡ 0) → ⊥ = some in omega (arith, s) in
      let (c, answer, right, held) = settled.answered i (omega arith) full in
      let at = all.all c ((settled.published c).0 (i, answer, held)) in
      let same : slice_index_or cells (at.0 + 1 - 1) c ≡ c =
      ap (λ (k : ℕ). slice_index_or cells k c) (let e : at.0 + 1 - 1 ≡ at.0 = omega arith in e) ∙ at.2 in
      let low = at.1 in
      (at.0 + 1, λ inside'. inr (c, omega arith, omega arith, same, held.key_is.same)))
      (λ outside. (0, λ inside. absurd (outside inside))))

  fewer_filled : filled plan words ≤ length cells
  unfolding Numbered
  fewer_filled =
      let f : ℕ → ℕ = λ i. (numbered i).0 in
      let row = tally_le (λ i. min (name plan words i) 1) (λ i. min (f i) 1) (slots_of plan)
      (λ i inside. counts i ((numbered i).1 inside)) in
      let apart = told_apart f (slots_of plan) (length cells) (λ i inside. low i ((numbered i).1 inside))
      (λ i j ilt jlt some same. one i j ilt jlt some same ((numbered i).1 ilt) ((numbered j).1 jlt)) in
      omega (arith, row, apart)
    where
      counts : (i : ℕ) → ((name plan words i ≡ 0) × ((numbered i).0 ≡ 0))
          ⊎ ((c : Cell) × (0 < (numbered i).0) × ((numbered i).0 ≤ length cells) ×
          (slice_index_or cells ((numbered i).0 - 1) c ≡ c) × (key words i ≡ cell_code c))
          → min (name plan words i) 1 ≤ min (numbered i).0 1
      counts i (inl (none, nought)) = omega (arith, none)
      counts i (inr (c, some, few, at, code)) = omega (arith, some)

      low : (i : ℕ) → ((name plan words i ≡ 0) × ((numbered i).0 ≡ 0))
          ⊎ ((c : Cell) × (0 < (numbered i).0) × ((numbered i).0 ≤ length cells) ×
          (slice_index_or cells ((numbered i).0 - 1) c ≡ c) × (key words i ≡ cell_code c))
          → (numbered i).0 < length cells + 1
      low i (inl (none, nought)) = omega (arith, nought)
      low i (inr (c, some, few, at, code)) = omega (arith, few)

      one : (i j : ℕ) → i < slots_of plan → j < slots_of plan → 0 < (numbered i).0 → (numbered i).0 ≡ (numbered j).0
          → ((name plan words i ≡ 0) × ((numbered i).0 ≡ 0))
          ⊎ ((c : Cell) × (0 < (numbered i).0) × ((numbered i).0 ≤ length cells) ×
          (slice_index_or cells ((numbered i).0 - 1) c ≡ c) × (key words i ≡ cell_code c))
          → ((name plan words j ≡ 0) × ((numbered j).0 ≡ 0))
          ⊎ ((c : Cell) × (0 < (numbered j).0) × ((numbered j).0 ≤ length cells) ×
          (slice_index_or cells ((numbered j).0 - 1) c ≡ c) × (key words j ≡ cell_code c))
          → i ≡ j
      one i j ilt jlt some same (inl (none, nought)) other = absurd (omega (arith, nought, some))
      one i j ilt jlt some same (inr first) (inl (none, nought)) = absurd (omega (arith, nought, some, same))
      one i j ilt jlt some same (inr (a, some_a, few_a, at_a, code_a)) (inr (b, some_b, few_b, at_b, code_b)) =
          let cells_same : a ≡ b =
          sym at_a ∙ get_or_default cells ((numbered i).0 - 1) a b (omega (arith, some_a, few_a))
          ∙ ap (λ (n : ℕ). slice_index_or cells (n - 1) b) same ∙ at_b in
          let keys : key words i ≡ key words j = code_a ∙ ap cell_code cells_same ∙ sym code_b in
          settled.apart i j ilt jlt (let full : 0 < key words i = omega (arith, code_a) in full) keys

  -- the position of each demanded cell
  Placed : ℕ → ℕ → Type 0
  Placed k p =
      k < length cells
      → (c : Cell) × (slice_index_or cells k c ≡ c) × HasCellCode c × (p < slots_of plan) × (0 < name plan words p) ×
      (key words p ≡ cell_code c)

  placed : (k : ℕ) → (p : ℕ) × Placed k p
  unfolding Placed
  placed k =
      dite (dec_le (suc k) (length cells))
      (λ inside.
      let d : Cell = record { rule = 0; from = 0; to = 0 } in
      let c = slice_index_or cells k d in
      let low : k < length cells = omega arith in
      let (p, answer, held) = (settled.published c).1 (all.each c (Contains-get_or cells k d low)) in
      (p, λ inside'. (c, get_or_default cells k c d low, held.key_is.coded, held.inside, held.named, held.key_is.same)))
      (λ outside. (0, λ inside. absurd (outside inside)))

  more_filled : length cells ≤ filled plan words
  unfolding Placed
  more_filled =
      reached_apart (λ k. (placed k).0) (λ i. min (name plan words i) 1) (length cells) (slots_of plan)
      (λ k low. ((placed k).1 low).3)
      (λ k low. let full = ((placed k).1 low).4 in omega (arith, full))
      (λ i j ilt jlt same. one i j ilt jlt same ((placed i).1 ilt) ((placed j).1 jlt))
    where
      one : (i j : ℕ) → i < length cells → j < length cells → (placed i).0 ≡ (placed j).0
          → (c : Cell) × (slice_index_or cells i c ≡ c) × HasCellCode c × ((placed i).0 < slots_of plan) ×
          (0 < name plan words (placed i).0) × (key words (placed i).0 ≡ cell_code c)
          → (c : Cell) × (slice_index_or cells j c ≡ c) × HasCellCode c × ((placed j).0 < slots_of plan) ×
          (0 < name plan words (placed j).0) × (key words (placed j).0 ≡ cell_code c)
          → i ≡ j
      one i j ilt jlt same (a, at_a, coded_a, in_a, full_a, code_a) (b, at_b, coded_b, in_b, full_b, code_b) =
          let codes : cell_code a ≡ cell_code b = sym code_a ∙ ap (key words) same ∙ code_b in
          let cells_same : a ≡ b = tell a b coded_a coded_b codes in
          one_place cells all.in_order a i j ilt jlt
          (at_a ∙ cells_same ∙ sym at_b ∙ get_or_default cells j b a jlt)

  pub filled_is : filled plan words ≡ length cells
  filled_is = let a = fewer_filled in let b = more_filled in omega (arith, a, b)
