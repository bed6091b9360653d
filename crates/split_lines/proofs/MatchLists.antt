-- Lists of positions in order, and how many of them come before each position.
use Rattle.std.proofs.Common.{◌≡◌, ◌↔◌, ℕ, ◌+◌, ◌-◌, ◌<◌, ◌≤◌, List, length, take, drop, get_or, sym, ap, ◌∙◌, inl, inr, arith, length-take, length-drop}
use Rattle.std.specs.List.{AllAdjacentBelow, Contains}
use Rattle.std.proofs.lemmas.Bool.{cases_lt}
use Rattle.std.proofs.lemmas.List.{get_or_default, get_or-take, get_or-drop}
use Rattle.split_lines.specs.Matching.{AreCounts}

-- each item is less than the next
abbrev pub AreRising : List ℕ → Type 0
AreRising positions = AllAdjacentBelow (λ (a b : ℕ). a < b) positions (length positions)

-- ---- a part of the list

module _ (positions before : List ℕ) (counts : AreCounts positions before) (first past i j : ℕ) (in_order : first ≤ past) (within : past < length before)
    (i_is : i ≡ get_or before first 0) (j_is : j ≡ get_or before past 0) where
  -- no more come before the first position than before the second
  pub part_in_order : i ≤ j
  part_in_order =
      elim (cases_lt j i) [
        | inl wrong ↦
            let few = counts.few first (omega arith) in
            let there : j < length positions = omega (arith, few, wrong, i_is) in
            let lesser : get_or positions j 0 < first = (counts.told first j (omega arith) there).1 (omega (arith, wrong, i_is)) in
            let itself : j < get_or before past 0 = (counts.told past j within there).0 (omega (arith, lesser, in_order)) in
            omega (arith, itself, j_is)
        | inr right ↦ right
      ]

  pub part_within : j ≤ length positions
  part_within = omega (arith, counts.few past within, j_is)

  part_length : length (take (j - i) (drop i positions)) ≡ j - i
  part_length = simp (length-take, length-drop) (omega (arith, part_in_order, part_within))

  part_at : (k d : ℕ) → k < j - i → get_or (take (j - i) (drop i positions)) k d ≡ get_or positions (i + k) d
  part_at k d l = get_or-take (j - i) (drop i positions) k d l ∙ get_or-drop i positions k d

  -- the part has the positions from the first on and before the second
  pub part_exact : (position : ℕ) → Contains (take (j - i) (drop i positions)) position ↔ (Contains positions position × (first ≤ position) × (position < past))
  part_exact position = (there, back)
    where
      there : Contains (take (j - i) (drop i positions)) position → Contains positions position × (first ≤ position) × (position < past)
      there (k, l, e) =
          let short : k < j - i = omega (arith, l, part_length) in
          let inside : i + k < length positions = omega (arith, short, part_within) in
          let at : get_or positions (i + k) position ≡ position = sym (part_at k position short) ∙ e in
          let at_zero : get_or positions (i + k) 0 ≡ position = get_or_default positions (i + k) 0 position inside ∙ at in
          let low = counts.told first (i + k) (omega arith) inside in
          let high = (counts.told past (i + k) within inside).1 (omega (arith, short, j_is)) in
          ((i + k, inside, at), not_less low at_zero, omega (arith, high, at_zero))
        where
          not_less : ((get_or positions (i + k) 0 < first) ↔ (i + k < get_or before first 0)) → get_or positions (i + k) 0 ≡ position → first ≤ position
          not_less low at =
              elim (cases_lt position first) [
                | inl wrong ↦ let here = low.0 (omega (arith, wrong, at)) in omega (arith, here, i_is)
                | inr right ↦ right
              ]

      back : Contains positions position × (first ≤ position) × (position < past) → Contains (take (j - i) (drop i positions)) position
      back ((n, l, e), low, high) =
          let at_zero : get_or positions n 0 ≡ position = get_or_default positions n 0 position l ∙ e in
          let behind : i ≤ n = not_before at_zero in
          let before_past : n < j = let it = (counts.told past n within l).0 (omega (arith, at_zero, high)) in omega (arith, it, j_is) in
          let short : n - i < j - i = omega (arith, behind, before_past) in
          let index : i + (n - i) ≡ n = omega arith in
          (n - i, omega (arith, short, part_length), part_at (n - i) position short ∙ ap (λ m. get_or positions m position) index ∙ e)
        where
          not_before : get_or positions n 0 ≡ position → i ≤ n
          not_before at =
              elim (cases_lt n i) [
                | inl wrong ↦ let less = (counts.told first n (omega arith) l).1 (omega (arith, wrong, i_is)) in omega (arith, less, at, low)
                | inr right ↦ right
              ]

  pub part_rising : AreRising positions → AreRising (take (j - i) (drop i positions))
  part_rising rising k d l =
      let short : k + 1 < j - i = omega (arith, l, part_length) in
      let inside : i + k + 1 < length positions = omega (arith, short, part_within) in
      let next : i + (k + 1) ≡ i + k + 1 = omega arith in
      let here = part_at k d (omega arith) in
      let there = part_at (k + 1) d short ∙ ap (λ n. get_or positions n d) next in
      omega (arith, here, there, rising (i + k) d inside)
