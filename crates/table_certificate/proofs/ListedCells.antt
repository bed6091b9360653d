-- Demanded cells, listed in order up to a cell.
use Rattle.std.proofs.Common.{◌≡◌, ℕ, zero, suc, ◌+◌, ◌<◌, ◌≤◌, ◌⊎◌, inl, inr, List, [], ◌∷◌, ◌++◌, length, slice_index_or, Contains, refl, sym, subst, arith}
use Rattle.std.specs.List.{AllAdjacentBelow}
use Rattle.std.proofs.lemmas.List.Elements.{Contains-push, Contains-append_left, Contains-push_cases}
use Rattle.adp_model.specs.declared.cell.Cell.{Cell}
use Rattle.adp_model.specs.PosedProblem.{PosedProblem}
use Rattle.adp_model.specs.Cells.{AreCountedEnds, CellPrecedes, IsCounted}
use Rattle.adp_model.specs.Demand.{AreDemanded, IsDemanded}
use Rattle.table_certificate.specs.ListedCells.{AreListedBefore}

-- ---- lists in order

past_suc : (k : ℕ) → suc k + 1 ≡ suc (k + 1)
past_suc k = omega arith

tail_order : (R : Cell → Cell → Type 0) (x : Cell) (xs : List Cell) → AllAdjacentBelow R (x ∷ xs) (length (x ∷ xs))
    → AllAdjacentBelow R xs (length xs)
tail_order R x xs order = λ k d low.
    subst (λ n. R (slice_index_or xs k d) (slice_index_or (x ∷ xs) n d)) (past_suc k) (order (suc k) d (omega arith))

cons_order : (R : Cell → Cell → Type 0) (x y : Cell) (xs : List Cell) → R x y
    → AllAdjacentBelow R (y ∷ xs) (length (y ∷ xs)) → AllAdjacentBelow R (x ∷ y ∷ xs) (length (x ∷ y ∷ xs))
cons_order R x y xs first rest = by
  where
    by : (k : ℕ) (d : Cell) → k + 1 < length (x ∷ y ∷ xs)
        → R (slice_index_or (x ∷ y ∷ xs) k d) (slice_index_or (x ∷ y ∷ xs) (k + 1) d)
    by zero d low = first
    by (suc k) d low =
        subst (λ n. R (slice_index_or (y ∷ xs) k d) (slice_index_or (x ∷ y ∷ xs) n d)) (sym (past_suc k)) (rest k d (omega arith))

contains_first : (x : Cell) (xs : List Cell) → Contains (x ∷ xs) x
contains_first x xs = (0, omega arith, refl)

contains_later : (x y : Cell) (xs : List Cell) → Contains xs y → Contains (x ∷ xs) y
contains_later x y xs found = (suc found.0, omega (arith, found.1), found.2)

push_order : (R : Cell → Cell → Type 0) (xs : List Cell) (a : Cell) → AllAdjacentBelow R xs (length xs)
    → ((x : Cell) → Contains xs x → R x a) → AllAdjacentBelow R (xs ++ a ∷ []) (length (xs ++ a ∷ []))
push_order R [] a order below = λ k d low. absurd (omega (arith, low))
push_order R (x ∷ []) a order below = cons_order R x a [] (below x (contains_first x [])) (λ k d low. absurd (omega (arith, low)))
push_order R (x ∷ y ∷ xs) a order below =
    cons_order R x y (xs ++ a ∷ []) (order 0 x (omega arith))
    (push_order R (y ∷ xs) a (tail_order R x (y ∷ xs) order) (λ z found. below z (contains_later x z (y ∷ xs) found)))

-- ---- cells before another

abbrev cell_of : ℕ → ℕ → ℕ → Cell
cell_of rule from to = record { rule = rule; from = from; to = to }

-- what comes before the next end comes before this one, or is it
before_next : (rule from to : ℕ) (cell : Cell) → CellPrecedes cell (cell_of rule from (to + 1))
    → CellPrecedes cell (cell_of rule from to) ⊎ (cell ≡ cell_of rule from to)
before_next rule from to cell (inl less) = inl (inl less)
before_next rule from to cell (inr (same, inl less)) = inl (inr (same, inl less))
before_next rule from to cell (inr (same, inr (begins, less))) = by (le_or_lt to cell.to)
  where
    le_or_lt : (m k : ℕ) → (m ≤ k) ⊎ (k < m)
    le_or_lt m k = grind arith

    by : (to ≤ cell.to) ⊎ (cell.to < to)
        → CellPrecedes cell (cell_of rule from to) ⊎ (cell ≡ cell_of rule from to)
    by (inl h) =
        let ends : cell.to ≡ to = omega arith in
        inr (λ i. record { rule = same i; from = begins i; to = ends i })
    by (inr h) = inl (inr (same, inr (begins, h)))

before_later : (rule from to : ℕ) (cell : Cell) → CellPrecedes cell (cell_of rule from to)
    → CellPrecedes cell (cell_of rule from (to + 1))
before_later rule from to cell (inl less) = inl less
before_later rule from to cell (inr (same, inl less)) = inr (same, inl less)
before_later rule from to cell (inr (same, inr (begins, less))) = inr (same, inr (begins, omega arith))

-- ---- demanded cells

-- with other demanded cells the same come before
moved : (p : PosedProblem) (a b : Cell) (cells : List Cell) → AreListedBefore p a cells
    → ((cell : Cell) → IsDemanded p cell → CellPrecedes cell b → CellPrecedes cell a)
    → ((cell : Cell) → CellPrecedes cell a → CellPrecedes cell b) → AreListedBefore p b cells
moved p a b cells listed back on = record {
  in_order = listed.in_order;
  each = λ cell found. let it = listed.each cell found in (it.0, on cell it.1);
  all = λ cell it. listed.all cell (it.0, back cell it.0 it.1);
}

pub one_more_listed : (p : PosedProblem) (rule from to : ℕ) (cells : List Cell)
    → AreListedBefore p (cell_of rule from to) cells → IsDemanded p (cell_of rule from to)
    → AreListedBefore p (cell_of rule from (to + 1)) (cells ++ cell_of rule from to ∷ [])
one_more_listed p rule from to cells listed demanded = record {
  in_order = push_order CellPrecedes cells cell listed.in_order (λ x found. (listed.each x found).1);
  each = λ other found. each other (Contains-push_cases cells cell other found);
  all = λ other it. all other it.0 (before_next rule from to other it.1);
}
  where
    cell : Cell
    cell = cell_of rule from to

    each : (other : Cell) → Contains cells other ⊎ (cell_of rule from to ≡ other)
        → IsDemanded p other × CellPrecedes other (cell_of rule from (to + 1))
    each other (inl found) = let it = listed.each other found in (it.0, before_later rule from to other it.1)
    each other (inr same) = subst (λ x. IsDemanded p x × CellPrecedes x (cell_of rule from (to + 1))) same (demanded, inr (refl, inr (refl, omega arith)))

    all : (other : Cell) → IsDemanded p other → CellPrecedes other (cell_of rule from to) ⊎ (other ≡ cell_of rule from to)
        → Contains (cells ++ cell_of rule from to ∷ []) other
    all other needed (inl less) = Contains-append_left cells (cell_of rule from to ∷ []) other (listed.all other (needed, less))
    all other needed (inr same) = subst (λ x. Contains (cells ++ cell_of rule from to ∷ []) x) (sym same) (Contains-push cells (cell_of rule from to))

pub none_more_listed : (p : PosedProblem) (rule from to : ℕ) (cells : List Cell)
    → AreListedBefore p (cell_of rule from to) cells → (IsDemanded p (cell_of rule from to) → ⊥)
    → AreListedBefore p (cell_of rule from (to + 1)) cells
none_more_listed p rule from to cells listed none =
    moved p (cell_of rule from to) (cell_of rule from (to + 1)) cells listed
    (λ cell demanded before. back cell demanded (before_next rule from to cell before)) (before_later rule from to)
  where
    back : (cell : Cell) → IsDemanded p cell → CellPrecedes cell (cell_of rule from to) ⊎ (cell ≡ cell_of rule from to)
        → CellPrecedes cell (cell_of rule from to)
    back cell demanded (inl less) = less
    back cell demanded (inr same) = absurd (none (subst (λ x. IsDemanded p x) same demanded))

-- demanded cells are counted
abbrev pub AreCounted : PosedProblem → Type 0
AreCounted p = (cell : Cell) → IsDemanded p cell → IsCounted p.grammar (length p.word) cell

counted_here : (p : PosedProblem) → AreCounted p → (rule from first past : ℕ)
    → AreCountedEnds p.grammar (length p.word) rule from first past → (cell : Cell) → IsDemanded p cell
    → cell.rule ≡ rule → cell.from ≡ from → (first ≤ cell.to) × (cell.to < past)
counted_here p counted rule from first past ends cell demanded same begins =
    let path : cell ≡ cell_of rule from cell.to = λ i. record { rule = same i; from = begins i; to = cell.to } in
    (ends cell.to).0 (subst (IsCounted p.grammar (length p.word)) path (counted cell demanded))

-- from the beginning of a start to its first end
pub first_listed : (p : PosedProblem) → AreCounted p → (rule from first past : ℕ)
    → AreCountedEnds p.grammar (length p.word) rule from first past → (cells : List Cell)
    → AreListedBefore p (cell_of rule from 0) cells → AreListedBefore p (cell_of rule from first) cells
first_listed p counted rule from first past ends cells listed =
    moved p (cell_of rule from 0) (cell_of rule from first) cells listed back on
  where
    back : (cell : Cell) → IsDemanded p cell → CellPrecedes cell (cell_of rule from first)
        → CellPrecedes cell (cell_of rule from 0)
    back cell demanded (inl less) = inl less
    back cell demanded (inr (same, inl less)) = inr (same, inl less)
    back cell demanded (inr (same, inr (begins, less))) =
        let here = counted_here p counted rule from first past ends cell demanded same begins in
        absurd (omega (arith, here.0, less))

    on : (cell : Cell) → CellPrecedes cell (cell_of rule from 0) → CellPrecedes cell (cell_of rule from first)
    on cell (inl less) = inl less
    on cell (inr (same, inl less)) = inr (same, inl less)
    on cell (inr (same, inr (begins, less))) = absurd (omega (arith, less))

-- from the last end of a start to the next start
pub last_listed : (p : PosedProblem) → AreCounted p → (rule from first past to : ℕ) → past ≤ to
    → AreCountedEnds p.grammar (length p.word) rule from first past → (cells : List Cell)
    → AreListedBefore p (cell_of rule from to) cells → AreListedBefore p (cell_of rule (from + 1) 0) cells
last_listed p counted rule from first past to behind ends cells listed =
    moved p (cell_of rule from to) (cell_of rule (from + 1) 0) cells listed back on
  where
    le_or_lt : (m k : ℕ) → (m ≤ k) ⊎ (k < m)
    le_or_lt m k = grind arith

    back : (cell : Cell) → IsDemanded p cell → CellPrecedes cell (cell_of rule (from + 1) 0)
        → CellPrecedes cell (cell_of rule from to)
    back cell demanded (inl less) = inl less
    back cell demanded (inr (same, inl less)) = by (le_or_lt from cell.from)
      where
        by : (from ≤ cell.from) ⊎ (cell.from < from) → CellPrecedes cell (cell_of rule from to)
        by (inl h) =
            let begins : cell.from ≡ from = omega (arith, less) in
            let here = counted_here p counted rule from first past ends cell demanded same begins in
            inr (same, inr (begins, omega (arith, here.1, behind)))
        by (inr h) = inr (same, inl h)
    back cell demanded (inr (same, inr (begins, less))) = absurd (omega (arith, less))

    on : (cell : Cell) → CellPrecedes cell (cell_of rule from to) → CellPrecedes cell (cell_of rule (from + 1) 0)
    on cell (inl less) = inl less
    on cell (inr (same, inl less)) = inr (same, inl (omega (arith, less)))
    on cell (inr (same, inr (begins, less))) = inr (same, inl (omega (arith, begins)))

-- from the last start of a rule to the next rule
pub rule_listed : (p : PosedProblem) → AreCounted p → (rule from : ℕ) → length p.word < from → (cells : List Cell)
    → AreListedBefore p (cell_of rule from 0) cells → AreListedBefore p (cell_of (rule + 1) 0 0) cells
rule_listed p counted rule from behind cells listed =
    moved p (cell_of rule from 0) (cell_of (rule + 1) 0 0) cells listed back on
  where
    le_or_lt : (m k : ℕ) → (m ≤ k) ⊎ (k < m)
    le_or_lt m k = grind arith

    back : (cell : Cell) → IsDemanded p cell → CellPrecedes cell (cell_of (rule + 1) 0 0)
        → CellPrecedes cell (cell_of rule from 0)
    back cell demanded (inl less) = by (le_or_lt rule cell.rule)
      where
        by : (rule ≤ cell.rule) ⊎ (cell.rule < rule) → CellPrecedes cell (cell_of rule from 0)
        by (inl h) =
            let same : cell.rule ≡ rule = omega (arith, less) in
            let here = counted cell demanded in
            inr (same, inl (omega (arith, here.in_order, here.in_word, behind)))
        by (inr h) = inl h
    back cell demanded (inr (same, inl less)) = absurd (omega (arith, less))
    back cell demanded (inr (same, inr (begins, less))) = absurd (omega (arith, less))

    on : (cell : Cell) → CellPrecedes cell (cell_of rule from 0) → CellPrecedes cell (cell_of (rule + 1) 0 0)
    on cell (inl less) = inl (omega (arith, less))
    on cell (inr (same, inl less)) = inl (omega (arith, same))
    on cell (inr (same, inr (begins, less))) = absurd (omega (arith, less))

pub none_listed : (p : PosedProblem) → AreListedBefore p (cell_of 0 0 0) []
none_listed p = record {
  in_order = λ k d low. absurd (omega (arith, low));
  each = λ cell found. absurd (omega (arith, found.1));
  all = λ cell it. absurd (none cell it.1);
}
  where
    none : (cell : Cell) → CellPrecedes cell (cell_of 0 0 0) → ⊥
    none cell (inl less) = omega (arith, less)
    none cell (inr (same, inl less)) = omega (arith, less)
    none cell (inr (same, inr (begins, less))) = omega (arith, less)

pub all_listed : (p : PosedProblem) → AreCounted p → (rule : ℕ) → length p.grammar.rules ≤ rule → (cells : List Cell)
    → AreListedBefore p (cell_of rule 0 0) cells → AreDemanded p cells
all_listed p counted rule behind cells listed = record {
  in_order = listed.in_order;
  each = λ cell found. (listed.each cell found).0;
  all = λ cell demanded. listed.all cell (demanded, inl (let here = counted cell demanded in omega (arith, here.rule, behind)));
}

-- ---- cells by their places

pub at_any : (xs : List Cell) (i : ℕ) (d e : Cell) → i < length xs → slice_index_or xs i d ≡ slice_index_or xs i e
at_any [] i d e low = absurd (omega (arith, low))
at_any (x ∷ xs) zero d e low = refl
at_any (x ∷ xs) (suc i) d e low = at_any xs i d e (omega (arith, low))

pub contains_at : (xs : List Cell) (i : ℕ) (d : Cell) → i < length xs → Contains xs (slice_index_or xs i d)
contains_at xs i d low = (i, low, at_any xs i (slice_index_or xs i d) d low)
