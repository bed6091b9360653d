-- Up to which position the cells of a line are noted, in the order of a visit.
use Rattle.std.proofs.Common.{◌≡◌, ℕ, zero, suc, ◌+◌, ◌-◌, ◌*◌, ◌<◌, ◌≤◌, ◌⊎◌, inl, inr, false, List, [], ◌∷◌, length, slice_index, sym, ap, subst, ◌∙◌, arith}
use Rattle.std.specs.Prelude.{◌==◌}
use Rattle.std.specs.List.{AllAdjacentBelow, Contains}
use Rattle.std.proofs.lemmas.Bool.{cases_lt}
use Rattle.std.proofs.lemmas.List.{get_or_default}
use Rattle.adp_model.specs.declared.cell.Cell.{Cell}
use Rattle.adp_model.specs.declared.grammar.Arg.{Arg}
use Rattle.adp_model.specs.declared.grammar.Arg.TheVariants.{Rule}
use Rattle.adp_model.specs.Walk.{rank_of}
use Rattle.cell_tables.specs.Bits.{IsBitOf}
use Rattle.split_lines.specs.Flags.{AreBitsAmong}
use Rattle.split_lines.specs.Laid.{IsCellOf}
use Rattle.argument_search.specs.Skipping.{AreNotedBetween, EndsByAPosition, IsNotedUpTo, IsNotedAt}
use Rattle.argument_search.specs.declared.skipping.OpenPair.{OpenPair}

abbrev pub AreRising : List ℕ → Type 0
AreRising positions = AllAdjacentBelow (λ (a b : ℕ). a < b) positions (length positions)

-- of two indices the later one has the greater position
rises_by : (positions : List ℕ) → AreRising positions → (i m : ℕ) → i + suc m < length positions
    → slice_index positions i < slice_index positions (i + suc m)
rises_by positions rising i zero l =
    let one : i + 1 ≡ i + suc zero = omega arith in
    subst (λ j. slice_index positions i < slice_index positions j) one (rising i 0 (omega arith))
rises_by positions rising i (suc m) l =
    let before = rises_by positions rising i m (omega arith) in
    let next = rising (i + suc m) 0 (omega arith) in
    let one : i + suc m + 1 ≡ i + suc (suc m) = omega arith in
    let e = ap (slice_index positions) one in
    omega (arith, before, next, e)

pub rises : (positions : List ℕ) → AreRising positions → (i j : ℕ) → i < j → j < length positions
    → slice_index positions i < slice_index positions j
rises positions rising i j less l =
    let m : i + suc (j - suc i) ≡ j = omega arith in
    subst (λ k. slice_index positions i < slice_index positions k) m (rises_by positions rising i (j - suc i) (omega arith))

pub at_contained : (positions : List ℕ) (i : ℕ) → i < length positions → Contains positions (slice_index positions i)
at_contained positions i l = (i, l, get_or_default positions i (slice_index positions i) 0 l)

pub first_or_behind : (positions : List ℕ) → AreRising positions → (position : ℕ) → Contains positions position
    → slice_index positions 0 ≤ position
first_or_behind positions rising position (j, inside, e) =
    let here : slice_index positions j ≡ position = get_or_default positions j 0 position inside ∙ e in
    elim (cases_lt 0 j) [
      | inl m ↦ omega (arith, here, rises positions rising 0 j m inside)
      | inr same ↦ let k : 0 ≡ j = omega arith in omega (arith, here, ap (slice_index positions) k)
    ]

pub last_or_before : (positions : List ℕ) → AreRising positions → (position : ℕ) → Contains positions position
    → position ≤ slice_index positions (length positions - 1)
last_or_before positions rising position (j, inside, e) =
    let here : slice_index positions j ≡ position = get_or_default positions j 0 position inside ∙ e in
    elim (cases_lt j (length positions - 1)) [
      | inl m ↦ omega (arith, here, rises positions rising j (length positions - 1) m (omega arith))
      | inr same ↦
          let k : j ≡ length positions - 1 = omega arith in omega (arith, here, ap (slice_index positions) k)
    ]

-- ---- bits

pub some_there : (positions : List ℕ) (position : ℕ) → Contains positions position → 0 < length positions
some_there positions position (j, inside, e) = omega arith

pub some_left : (positions : List ℕ) → false ≡ (length positions == 0) → 0 < length positions
some_left [] e = absurd cc
some_left (position ∷ positions) e = omega arith

pub room_up_to : (positions : List ℕ) (shift : ℕ) (bits : List ℕ) → AreBitsAmong positions shift bits → (past : ℕ)
    → EndsByAPosition positions past → past + shift ≤ 64 * length bits
room_up_to positions shift bits among past (last, contains, up_to) = omega (arith, among.room last contains)

pub bit_there : (positions : List ℕ) (shift : ℕ) (bits : List ℕ) → AreBitsAmong positions shift bits → (position : ℕ)
    → Contains positions position → (first past : ℕ) → first ≤ position + shift → position + shift < past
    → IsBitOf bits first past (position + shift)
bit_there positions shift bits among position contains first past low high = record {
  from_first = low;
  before = high;
  bit = ((among.exact (some_there positions position contains) position).0 contains).bit;
}

-- the cell of a rule on a span
pub cell_there : (Noted : Cell → Type 0) (argument : Arg) (rule from to : ℕ) → argument ≡ Rule rule
    → Noted (record { rule = rule; from = from; to = to }) → (child : Cell) → IsCellOf argument from to child
    → Noted child
cell_there Noted argument rule from to is noted child here =
    let same : Rule rule ≡ Rule child.rule = sym is ∙ here.rule in
    let named : rule ≡ child.rule = cc in
    let e : record { rule = rule; from = from; to = to } ≡ child =
    λ i. record { rule = named i; from = here.begins i; to = here.ends i } in
    subst Noted e noted

-- ---- the order of a visit

module _ (cell : Cell) (turn : ℕ) (pair : OpenPair) (turned : turn ≤ cell.to - cell.from)
    (ordered : cell.from ≤ cell.to)
    (within : (position : ℕ) → Contains pair.positions.now position → (cell.from ≤ position) × (position ≤ cell.to))
    (behind : (cell : Cell) (turn x : ℕ) → turn ≤ cell.to - cell.from → x ≤ cell.to → cell.from + turn ≤ x
    → rank_of cell turn x ≡ x - (cell.from + turn))
    (before : (cell : Cell) (turn x : ℕ) → turn ≤ cell.to - cell.from → cell.from ≤ x → x < cell.from + turn
    → rank_of cell turn x ≡ x - cell.from + (cell.to + 1 - (cell.from + turn)))
    (Noted : Cell → Type 0) (from to : ℕ) (begins : cell.from ≤ from) (there : Contains pair.positions.now to) where
  abbrev rank : ℕ → ℕ
  rank x = rank_of cell turn x

  abbrev pivot : ℕ
  pivot = cell.from + turn

  up : (x : ℕ) → x ≤ cell.to → pivot ≤ x → rank x ≡ x - pivot
  up x high le = behind cell turn x turned high le

  down : (x : ℕ) → cell.from ≤ x → x < pivot → rank x ≡ x - cell.from + (cell.to + 1 - pivot)
  down x low less = before cell turn x turned low less

  -- both positions on one side of the pivot
  pub noted_up : from ≤ to → pivot ≤ from → AreNotedBetween Noted pair from to → IsNotedUpTo Noted cell turn pair from to
  noted_up less side noted = record {
    stands = there;
    behind = omega (arith, less, a, b);
    noted = λ position in_place low high. go position in_place low high (cases_lt position pivot);
  }
    where
      a : rank from ≡ from - pivot
      a = up from (omega (arith, less, (within to there).1)) side

      b : rank to ≡ to - pivot
      b = up to (within to there).1 (omega (arith, less, side))

      go : (position : ℕ) → Contains pair.positions.now position → rank from ≤ rank position → rank position < rank to
          → (position < pivot) ⊎ (pivot ≤ position) → IsNotedAt Noted pair position
      go position in_place low high (inl left) =
          absurd (omega (arith, high, b, less, side, (within to there).1, down position (within position in_place).0 left))
      go position in_place low high (inr right) =
          let c = up position (within position in_place).1 right in
          noted position in_place (omega (arith, low, a, c, side, right)) (omega (arith, high, b, c, less, side, right))

  pub noted_down : from ≤ to → to < pivot → AreNotedBetween Noted pair from to → IsNotedUpTo Noted cell turn pair from to
  noted_down less side noted = record {
    stands = there;
    behind = omega (arith, less, a, b, begins);
    noted = λ position in_place low high. go position in_place low high (cases_lt position pivot);
  }
    where
      a : rank from ≡ from - cell.from + (cell.to + 1 - pivot)
      a = down from begins (omega (arith, less, side))

      b : rank to ≡ to - cell.from + (cell.to + 1 - pivot)
      b = down to (within to there).0 side

      go : (position : ℕ) → Contains pair.positions.now position → rank from ≤ rank position → rank position < rank to
          → (position < pivot) ⊎ (pivot ≤ position) → IsNotedAt Noted pair position
      go position in_place low high (inl left) =
          let c = down position (within position in_place).0 left in
          noted position in_place (omega (arith, low, a, c, begins, (within position in_place).0))
          (omega (arith, high, b, c, (within to there).0, (within position in_place).0))
      go position in_place low high (inr right) =
          absurd (omega (arith, low, a, turned, ordered, (within position in_place).1, up position (within position in_place).1 right))

  -- from one side of the pivot round to the other
  pub noted_round : (first : ℕ) → ((position : ℕ) → Contains pair.positions.now position → first ≤ position) → from ≤ cell.to
      → pivot ≤ from → to < pivot
      → ((position : ℕ) → Contains pair.positions.now position → from ≤ position → IsNotedAt Noted pair position)
      → AreNotedBetween Noted pair first to → IsNotedUpTo Noted cell turn pair from to
  noted_round first least ends side other all noted = record {
    stands = there;
    behind = omega (arith, a, b, side, ends, turned, ordered);
    noted = λ position in_place low high. go position in_place low high (cases_lt position pivot);
  }
    where
      a : rank from ≡ from - pivot
      a = up from ends side

      b : rank to ≡ to - cell.from + (cell.to + 1 - pivot)
      b = down to (within to there).0 other

      go : (position : ℕ) → Contains pair.positions.now position → rank from ≤ rank position → rank position < rank to
          → (position < pivot) ⊎ (pivot ≤ position) → IsNotedAt Noted pair position
      go position in_place low high (inl left) =
          let c = down position (within position in_place).0 left in
          noted position in_place (least position in_place)
          (omega (arith, high, b, c, (within to there).0, (within position in_place).0))
      go position in_place low high (inr right) =
          let c = up position (within position in_place).1 right in
          all position in_place (omega (arith, low, a, c, side, right))

-- ---- the first position from a position on

pub never_falls : (positions : List ℕ) → AreRising positions → (i j : ℕ) → i ≤ j → j < length positions
    → slice_index positions i ≤ slice_index positions j
never_falls positions rising i j le l =
    elim (cases_lt i j) [
      | inl less ↦ let up = rises positions rising i j less l in omega (arith, up)
      | inr not ↦ let same : i ≡ j = omega arith in omega (arith, ap (slice_index positions) same)
    ]

pub from_index : (positions : List ℕ) → AreRising positions → (begin index : ℕ)
    → ((k : ℕ) → k < index → slice_index positions k < begin) → (other : ℕ) → Contains positions other → begin ≤ other
    → (index < length positions) × (slice_index positions index ≤ other)
from_index positions rising begin index below other (j, inside, e) low =
    let here : slice_index positions j ≡ other = get_or_default positions j 0 other inside ∙ e in
    elim (cases_lt j index) [
      | inl less ↦ absurd (omega (arith, below j less, here, low))
      | inr not ↦ (omega (arith, not, inside), omega (arith, here, never_falls positions rising index j not inside))
    ]
