-- The cells that the grammar of pairs asks for: one for each span of a word.
use Rattle.std.proofs.Common.{◌≡◌, ℕ, zero, suc, ◌+◌, ◌*◌, ◌-◌, ◌<◌, ◌≤◌, ◌⊎◌, inl, inr, List, [], ◌∷◌, length, get_or, refl, subst, sym, ap, arith, zero-le, mul-le-mul}
use Rattle.std.specs.List.{Contains, AllAdjacentBelow, AllByRecursion}
use Rattle.std.proofs.lemmas.List.Elements.{All-from_recursion, All-contains}
use Rattle.adp_model.specs.declared.cell.Cell.{Cell}
use Rattle.adp_model.specs.Sizes.{IsWithinSizes}
use Rattle.adp_model.specs.Anchors.{IsLeftFree, IsRightFree}
use Rattle.adp_model.specs.Cells.{CellPrecedes, AreAll, IsCounted, IsCellBound}
use Rattle.adp_model.specs.BigReport.{pairs_grammar}
use Rattle.big_problems.proofs.PairsChecked.{within_sizes, left_free, right_free}

abbrev span_cell : ℕ → ℕ → Cell
span_cell from to = record { rule = 0; from = from; to = to }

-- ---- the list of the cells

-- so many cells with this start, from this end on, before others
row : ℕ → ℕ → ℕ → List Cell → List Cell
row from to zero others = others
row from to (suc count) others = span_cell from to ∷ row from (suc to) count others

-- the cells of so many starts from this one on, each with one end less than the one before it
rows : ℕ → ℕ → List Cell
rows from zero = []
rows from (suc left) = row from from (suc left) (rows (suc from) left)

length_row : (from to count : ℕ) (others : List Cell) → length (row from to count others) ≡ count + length others
unfolding row
length_row from to zero others = omega arith
length_row from to (suc count) others = omega (arith, length_row from (suc to) count others)

length_rows : (from left : ℕ) → 2 * length (rows from left) ≡ left * (left + 1)
unfolding rows
length_rows from zero = refl
length_rows from (suc left) =
    let others = length_rows (suc from) left in
    let whole = length_row from from (suc left) (rows (suc from) left) in
    twice (length (row from from (suc left) (rows (suc from) left))) (length (rows (suc from) left)) left whole others
  where
    twice : (all others count : ℕ) → all ≡ suc count + others → 2 * others ≡ count * (count + 1)
        → 2 * all ≡ suc count * (suc count + 1)
    twice all others count whole rest = omega (arith, whole, rest)

-- ---- in order

-- the first of the cells comes behind this one
abbrev StartsBehind : Cell → List Cell → Type 0
StartsBehind cell [] = Unit {0}
StartsBehind cell (first ∷ others) = CellPrecedes cell first

-- each cell comes before the next
abbrev Rises : List Cell → Type 0
Rises [] = Unit {0}
Rises (cell ∷ cells) = StartsBehind cell cells × Rises cells

in_order : (cells : List Cell) → Rises cells → AllAdjacentBelow CellPrecedes cells (length cells)
in_order [] rises k d below = absurd (omega arith)
in_order (cell ∷ []) rises k d below = absurd (omega arith)
in_order (cell ∷ next ∷ cells) rises zero d below = rises.0
in_order (cell ∷ next ∷ cells) rises (suc k) d below =
    let same : suc (k + 1) ≡ suc k + 1 = omega arith in
    subst (λ n. CellPrecedes (get_or (next ∷ cells) k d) (get_or (cell ∷ next ∷ cells) n d)) same
    (in_order (next ∷ cells) rises.1 k d (omega arith))

row_behind : (from to later count : ℕ) (others : List Cell) → to < later → StartsBehind (span_cell from to) others
    → StartsBehind (span_cell from to) (row from later count others)
unfolding row
row_behind from to later zero others less behind = behind
row_behind from to later (suc count) others less behind = inr (refl, inr (refl, less))

row_rises : (from to count : ℕ) (others : List Cell) → Rises others
    → ((end : ℕ) → StartsBehind (span_cell from end) others) → Rises (row from to count others)
unfolding row
row_rises from to zero others rises behind = rises
row_rises from to (suc count) others rises behind =
    let next = row_behind from to (suc to) count others (omega arith) (behind to) in
    (next, row_rises from (suc to) count others rises behind)

rows_behind : (from end later left : ℕ) → from < later → StartsBehind (span_cell from end) (rows later left)
unfolding rows row
rows_behind from end later zero less = tt
rows_behind from end later (suc left) less = inr (refl, inl less)

rows_rise : (from left : ℕ) → Rises (rows from left)
unfolding rows
rows_rise from zero = tt
rows_rise from (suc left) =
    row_rises from from (suc left) (rows (suc from) left) (rows_rise (suc from) left)
    (λ end. rows_behind from end (suc from) left (omega arith))

-- ---- spans alone

-- the cell is that of a span that ends at the bound at most
abbrev IsSpanCell : ℕ → Cell → Type 0
IsSpanCell bound cell = (cell.rule ≡ 0) × (cell.from ≤ cell.to) × (cell.to ≤ bound)

row_spans : (bound from to count : ℕ) (others : List Cell) → from ≤ to → to + count ≤ suc bound
    → AllByRecursion (IsSpanCell bound) others → AllByRecursion (IsSpanCell bound) (row from to count others)
unfolding row
row_spans bound from to zero others low high each = each
row_spans bound from to (suc count) others low high each =
    ((refl, low, omega arith), row_spans bound from (suc to) count others (omega arith) (omega arith) each)

rows_spans : (bound from left : ℕ) → from + left ≤ suc bound → AllByRecursion (IsSpanCell bound) (rows from left)
unfolding rows
rows_spans bound from zero high = tt
rows_spans bound from (suc left) high =
    row_spans bound from from (suc left) (rows (suc from) left) (omega arith) (omega arith)
    (rows_spans bound (suc from) left (omega arith))

-- ---- all spans

contains_next : (first : Cell) (others : List Cell) (cell : Cell) → Contains others cell
    → Contains (first ∷ others) cell
contains_next first others cell contains = (suc contains.0, omega (arith, contains.1), contains.2)

row_keeps : (from to count : ℕ) (others : List Cell) (cell : Cell) → Contains others cell
    → Contains (row from to count others) cell
unfolding row
row_keeps from to zero others cell contains = contains
row_keeps from to (suc count) others cell contains =
    contains_next (span_cell from to) (row from (suc to) count others) cell
    (row_keeps from (suc to) count others cell contains)

row_has : (from to count more : ℕ) (others : List Cell) → more < count
    → Contains (row from to count others) (span_cell from (to + more))
unfolding row
row_has from to zero more others below = absurd (omega arith)
row_has from to (suc count) zero others below =
    let same : to ≡ to + 0 = omega arith in
    (0, omega arith, ap (span_cell from) same)
row_has from to (suc count) (suc more) others below =
    let same : suc to + more ≡ to + suc more = omega arith in
    contains_next (span_cell from to) (row from (suc to) count others) (span_cell from (to + suc more))
    (subst (λ end. Contains (row from (suc to) count others) (span_cell from end)) same
    (row_has from (suc to) count more others (omega arith)))

rows_have : (from left start more : ℕ) → from ≤ start → start + more < from + left
    → Contains (rows from left) (span_cell start (start + more))
unfolding rows
rows_have from zero start more low high = absurd (omega arith)
rows_have from (suc left) start more low high =
    elim (first_or_later from start low) [
      | inl same ↦
          subst (λ n. Contains (rows from (suc left)) (span_cell n (n + more))) same
          (row_has from from (suc left) more (rows (suc from) left) (omega arith))
      | inr later ↦
          row_keeps from from (suc left) (rows (suc from) left) (span_cell start (start + more))
          (rows_have (suc from) left start more later (omega arith))
    ]
  where
    first_or_later : (m n : ℕ) → m ≤ n → (m ≡ n) ⊎ (suc m ≤ n)
    first_or_later m n low = grind arith

-- ---- the cell bound

spans_counted : (len : ℕ) (cell : Cell) → IsSpanCell len cell → IsCounted pairs_grammar len cell
spans_counted len cell span = record {
  rule = omega (arith, span.0);
  in_order = span.1;
  in_word = span.2;
  size =
      subst (λ rule. IsWithinSizes pairs_grammar rule (cell.to - cell.from)) (sym span.0)
      (within_sizes (cell.to - cell.from));
  left = λ anchored. absurd (anchored (subst (IsLeftFree pairs_grammar) (sym span.0) left_free));
  right = λ anchored. absurd (anchored (subst (IsRightFree pairs_grammar) (sym span.0) right_free));
}

same_cell : (a b : Cell) → a.rule ≡ b.rule → a.from ≡ b.from → a.to ≡ b.to → a ≡ b
same_cell a b rule from to = λ i. record { rule = rule i; from = from i; to = to i }

counted_listed : (len : ℕ) (cell : Cell) → IsCounted pairs_grammar len cell → Contains (rows 0 (suc len)) cell
counted_listed len cell counted =
    let ordered = counted.in_order in
    let within = counted.in_word in
    let rule : 0 ≡ cell.rule = omega (arith, counted.rule) in
    let end : cell.from + (cell.to - cell.from) ≡ cell.to = omega (arith, ordered) in
    subst (Contains (rows 0 (suc len))) (same_cell _ cell rule refl end)
    (rows_have 0 (suc len) cell.from (cell.to - cell.from) zero-le (omega (arith, ordered, within)))

all_spans : (len : ℕ) → AreAll (IsCounted pairs_grammar len) (rows 0 (suc len))
all_spans len = record {
  in_order = in_order (rows 0 (suc len)) (rows_rise 0 (suc len));
  each = λ cell contains.
      spans_counted len cell
      (All-contains (IsSpanCell len) (rows 0 (suc len)) cell
      (All-from_recursion (IsSpanCell len) (rows 0 (suc len)) (rows_spans len 0 (suc len) (omega arith))) contains);
  all = counted_listed len;
}

-- how many spans a word of this length has
pub spans : ℕ → ℕ
spans len = length (rows 0 (suc len))

pub cell_bound : (len : ℕ) → IsCellBound pairs_grammar len (spans len)
unfolding spans
cell_bound len = (rows 0 (suc len), all_spans len, refl)

pub few_spans : (len : ℕ) → len ≤ 2046 → spans len ≤ 2097152
unfolding spans
few_spans len small =
    let twice = length_rows 0 (suc len) in
    let starts : suc len ≤ 2047 = omega arith in
    let ends : suc len + 1 ≤ 2048 = omega arith in
    let most : suc len * (suc len + 1) ≤ 4192256 = mul-le-mul starts ends in
    omega (arith, twice, most)
