-- All cells of which something holds, where these lie within bounds: it can't be that there is no list of them in order.
use Rattle.std.proofs.Common.{◌≡◌, ℕ, zero, suc, ◌+◌, ◌<◌, ◌⊎◌, inl, inr, List, [], ◌∷◌, ◌++◌, length, get_or, refl, sym, subst, arith}
use Rattle.std.specs.List.{Contains, AllAdjacentBelow}
use Rattle.std.proofs.lemmas.Bool.{cases_eq}
use Rattle.adp_model.specs.declared.cell.Cell.{Cell}
use Rattle.adp_model.specs.Cells.{CellPrecedes, AreAll}
use Rattle.faultless_grammars.specs.Irrefutable.{IsIrrefutable}
use Rattle.faultless_grammars.proofs.Deciding.{and_then, decided, it_holds}

-- ---- what stands in a list

abbrev Among : Cell → List Cell → Type 0
Among cell [] = ⊥
Among cell (first ∷ cells) = (cell ≡ first) ⊎ Among cell cells

later : (cell first : Cell) (cells : List Cell) → Contains cells cell → Contains (first ∷ cells) cell
later cell first cells (place, inside, is) = (suc place, omega (arith, inside), is)

contained : (cell : Cell) (cells : List Cell) → Among cell cells → Contains cells cell
contained cell [] none = absurd none
contained cell (first ∷ cells) (inl is) = (0, omega arith, sym is)
contained cell (first ∷ cells) (inr rest) = later cell first cells (contained cell cells rest)

among : (cell : Cell) (cells : List Cell) → Contains cells cell → Among cell cells
among cell [] (place, inside, is) = absurd (omega (arith, inside))
among cell (first ∷ cells) (zero, inside, is) = inl (sym is)
among cell (first ∷ cells) (suc place, inside, is) = inr (among cell cells (place, omega (arith, inside), is))

among_left : (cell : Cell) (cells others : List Cell) → Among cell cells → Among cell (cells ++ others)
among_left cell [] others none = absurd none
among_left cell (first ∷ cells) others (inl is) = inl is
among_left cell (first ∷ cells) others (inr rest) = inr (among_left cell cells others rest)

among_right : (cell : Cell) (cells others : List Cell) → Among cell others → Among cell (cells ++ others)
among_right cell [] others there = there
among_right cell (first ∷ cells) others there = inr (among_right cell cells others there)

among_either : (cell : Cell) (cells others : List Cell) → Among cell (cells ++ others)
    → Among cell cells ⊎ Among cell others
among_either cell [] others there = inr there
among_either cell (first ∷ cells) others (inl is) = inl (inl is)
among_either cell (first ∷ cells) others (inr rest) = elim (among_either cell cells others rest) [
  | inl there ↦ inl (inr there)
  | inr there ↦ inr there
]

-- ---- lists in order

-- each cell comes before all that stand behind it
abbrev IsRising : List Cell → Type 0
IsRising [] = Unit {0}
IsRising (first ∷ cells) = ((cell : Cell) → Among cell cells → CellPrecedes first cell) × IsRising cells

adjacent : (cells : List Cell) → IsRising cells → AllAdjacentBelow CellPrecedes cells (length cells)
adjacent [] rising k default inside = absurd (omega (arith, inside))
adjacent (first ∷ []) rising k default inside = absurd (omega (arith, inside))
adjacent (first ∷ second ∷ cells) rising zero default inside = rising.0 second (inl refl)
adjacent (first ∷ second ∷ cells) rising (suc k) default inside =
    let next : suc k + 1 ≡ suc (k + 1) = omega arith in
    subst (λ j. CellPrecedes (get_or (second ∷ cells) k default) (get_or (first ∷ second ∷ cells) j default)) (sym next)
    (adjacent (second ∷ cells) rising.1 k default (omega (arith, inside)))

rising_append : (cells others : List Cell) → IsRising cells → IsRising others
    → ((a b : Cell) → Among a cells → Among b others → CellPrecedes a b) → IsRising (cells ++ others)
rising_append [] others rising rising' before = rising'
rising_append (first ∷ cells) others rising rising' before = (
  λ cell there. elim (among_either cell cells others there) [
    | inl here ↦ rising.0 cell here
    | inr behind ↦ before first cell (inl refl) behind
  ],
  rising_append cells others rising.1 rising' (λ a b here behind. before a b (inr here) behind),
)

-- ---- lists of the numbers below a count

abbrev rows : (ℕ → List Cell) → ℕ → List Cell
rows row zero = []
rows row (suc count) = rows row count ++ row count

among_rows : (row : ℕ → List Cell) (cell : Cell) (n count : ℕ) → n < count → Among cell (row n)
    → Among cell (rows row count)
among_rows row cell n zero inside there = absurd (omega (arith, inside))
among_rows row cell n (suc count) inside there = elim (cases_eq n count) [
  | inl same ↦ among_right cell (rows row count) (row count) (subst (λ k. Among cell (row k)) same there)
  | inr differs ↦
      among_left cell (rows row count) (row count) (among_rows row cell n count (grind (arith, inside, differs)) there)
]

of_rows : (row : ℕ → List Cell) (cell : Cell) (count : ℕ) → Among cell (rows row count)
    → (n : ℕ) × (n < count) × Among cell (row n)
of_rows row cell zero none = absurd none
of_rows row cell (suc count) there = elim (among_either cell (rows row count) (row count) there) [
  | inl earlier ↦
      let found = of_rows row cell count earlier in
      (found.0, omega (arith, found.1), found.2)
  | inr here ↦ (count, omega arith, here)
]

rising_rows : (row : ℕ → List Cell) (count : ℕ) → ((n : ℕ) → IsRising (row n))
    → ((m n : ℕ) (a b : Cell) → m < n → Among a (row m) → Among b (row n) → CellPrecedes a b) → IsRising (rows row count)
rising_rows row zero each before = tt
rising_rows row (suc count) each before =
    rising_append (rows row count) (row count) (rising_rows row count each before) (each count)
    (λ a b there here.
    let found = of_rows row a count there in
    before found.0 count a b found.1 found.2 here)

-- ---- all cells within bounds

module _ (rules ends : ℕ) where
  abbrev one_cell : ℕ → ℕ → ℕ → List Cell
  one_cell rule from to = record { rule = rule; from = from; to = to } ∷ []

  abbrev of_start : ℕ → ℕ → List Cell
  of_start rule from = rows (one_cell rule from) ends

  abbrev of_rule : ℕ → List Cell
  of_rule rule = rows (of_start rule) ends

  abbrev within : List Cell
  within = rows of_rule rules

  abbrev rule_of : Cell → ℕ
  rule_of cell = cell.rule

  one_is : (rule from to : ℕ) (cell : Cell) → Among cell (one_cell rule from to)
      → cell ≡ record { rule = rule; from = from; to = to }
  one_is rule from to cell (inl is) = is
  one_is rule from to cell (inr none) = absurd none

  start_is : (rule from : ℕ) (cell : Cell) → Among cell (of_start rule from)
      → (to : ℕ) × (cell ≡ record { rule = rule; from = from; to = to })
  start_is rule from cell there =
      let found = of_rows (one_cell rule from) cell ends there in
      (found.0, one_is rule from found.0 cell found.2)

  rule_is : (rule : ℕ) (cell : Cell) → Among cell (of_rule rule)
      → (from : ℕ) × (to : ℕ) × (cell ≡ record { rule = rule; from = from; to = to })
  rule_is rule cell there =
      let found = of_rows (of_start rule) cell ends there in
      let is = start_is rule found.0 cell found.2 in
      (found.0, is.0, is.1)

  abbrev cell_of : ℕ → ℕ → ℕ → Cell
  cell_of rule from to = record { rule = rule; from = from; to = to }

  -- cells are before one another as their numbers are
  precede : (a b c d : Cell) → a ≡ c → b ≡ d → CellPrecedes c d → CellPrecedes a b
  precede a b c d same same' before =
      subst (λ (it : Cell × Cell). CellPrecedes it.0 it.1) (λ i. (sym same i, sym same' i)) before

  rising_start : (rule from : ℕ) → IsRising (of_start rule from)
  rising_start rule from = rising_rows (one_cell rule from) ends (λ n. (λ cell none. absurd none, tt)) (λ m n a b less there here.
      precede a b (cell_of rule from m) (cell_of rule from n) (one_is rule from m a there) (one_is rule from n b here)
      (inr (refl, inr (refl, less))))

  rising_rule : (rule : ℕ) → IsRising (of_rule rule)
  rising_rule rule = rising_rows (of_start rule) ends (rising_start rule) (λ m n a b less there here.
      let first = start_is rule m a there in
      let second = start_is rule n b here in
      precede a b (cell_of rule m first.0) (cell_of rule n second.0) first.1 second.1 (inr (refl, inl less)))

  rising_within : IsRising within
  rising_within = rising_rows of_rule rules rising_rule (λ m n a b less there here.
      let first = rule_is m a there in
      let second = rule_is n b here in
      precede a b (cell_of m first.0 first.1) (cell_of n second.0 second.1) first.2 second.2 (inl less))

  all_within : (cell : Cell) → cell.rule < rules → cell.from < ends → cell.to < ends → Among cell within
  all_within cell rule from to =
      among_rows of_rule cell cell.rule rules rule
      (among_rows (of_start cell.rule) cell cell.from ends from
      (among_rows (one_cell cell.rule cell.from) cell cell.to ends to (inl refl)))

-- ---- those of which it holds

module _ (Holds : Cell → Type 0) where
  -- those of a list of which it holds
  record AreThose (cells those : List Cell) : Type 0 where
    rising : IsRising those
    each : (cell : Cell) → Among cell those → Holds cell × Among cell cells
    all : (cell : Cell) → Holds cell → Among cell cells → Among cell those

  with_first : (first : Cell) (cells those : List Cell) → ((cell : Cell) → Among cell cells → CellPrecedes first cell)
      → Holds first → AreThose cells those → AreThose (first ∷ cells) (first ∷ those)
  with_first first cells those before here are = record {
    rising = (λ cell there. before cell (are.each cell there).1, are.rising);
    each = λ cell there. elim there [
      | inl is ↦ (subst Holds (sym is) here, inl is)
      | inr rest ↦ ((are.each cell rest).0, inr (are.each cell rest).1)
    ];
    all = λ cell holds there. elim there [
      | inl is ↦ inl is
      | inr rest ↦ inr (are.all cell holds rest)
    ];
  }

  without_first : (first : Cell) (cells those : List Cell) → (Holds first → ⊥) → AreThose cells those
      → AreThose (first ∷ cells) those
  without_first first cells those none are = record {
    rising = are.rising;
    each = λ cell there. ((are.each cell there).0, inr (are.each cell there).1);
    all = λ cell holds there. elim there [
      | inl is ↦ absurd (none (subst Holds is holds))
      | inr rest ↦ are.all cell holds rest
    ];
  }

  those_of : (cells : List Cell) → IsRising cells → IsIrrefutable ((those : List Cell) × AreThose cells those)
  those_of [] rising = it_holds _ ([], record { rising = tt; each = λ cell none. absurd none; all = λ cell holds none. none })
  those_of (first ∷ cells) rising =
      and_then _ _ (those_of cells rising.1) (λ rest.
      and_then _ _ (decided (Holds first)) (λ case. elim case [
        | inl here ↦ it_holds _ (first ∷ rest.0, with_first first cells rest.0 rising.0 here rest.1)
        | inr none ↦ it_holds _ (rest.0, without_first first cells rest.0 none rest.1)
      ]))

  pub all_cells : (rules ends : ℕ)
      → ((cell : Cell) → Holds cell → (cell.rule < rules) × (cell.from < ends) × (cell.to < ends))
      → IsIrrefutable ((cells : List Cell) × AreAll Holds cells)
  all_cells rules ends bounded =
      and_then _ _ (those_of (within rules ends) (rising_within rules ends)) (λ found.
      it_holds _ (
        found.0,
        record {
          in_order = adjacent found.0 found.1.rising;
          each = λ cell there. (found.1.each cell (among cell found.0 there)).0;
          all = λ cell holds.
              let inside = bounded cell holds in
              contained cell found.0
              (found.1.all cell holds (all_within rules ends cell inside.0 inside.1 inside.2));
        },
      ))
