-- Lists of cells in order, and the cells that a grammar can ask for in a word of a given length: the cell bound.
use Rattle.std.specs.Prelude.{◌≡◌, ℕ, ◌-◌, ◌<◌, ◌≤◌, ◌⊎◌, ◌↔◌, List, length}
use Rattle.std.specs.List.{Contains, AllAdjacentBelow}
use Rattle.adp_model.specs.declared.grammar.Grammar.{Grammar}
use Rattle.adp_model.specs.declared.cell.Cell.{Cell}
use Rattle.adp_model.specs.Sizes.{IsWithinSizes}
use Rattle.adp_model.specs.Anchors.{IsLeftAnchored, IsRightAnchored}

-- by rule, then by start, then by end
abbrev pub CellPrecedes : Cell → Cell → Type 0
CellPrecedes a b = (a.rule < b.rule) ⊎ ((a.rule ≡ b.rule) × ((a.from < b.from) ⊎ ((a.from ≡ b.from) × (a.to < b.to))))

-- all cells of which it holds, each once, in order
pub record AreAll (Holds : Cell → Type 0) (cells : List Cell) : Type 0 where
  pub in_order : AllAdjacentBelow CellPrecedes cells (length cells)
  pub each : (cell : Cell) → Contains cells cell → Holds cell
  pub all : (cell : Cell) → Holds cell → Contains cells cell

-- the number of cells of which it holds
abbrev pub IsCountOf : (Cell → Type 0) → ℕ → Type 0
IsCountOf Holds count = (cells : List Cell) × AreAll Holds cells × (count ≡ length cells)

-- a cell that the cell bound counts: its length lies between its rule's sizes, and it begins and ends where the
-- rule is anchored
pub record IsCounted (grammar : Grammar) (len : ℕ) (cell : Cell) : Type 0 where
  pub rule : cell.rule < length grammar.rules
  pub in_order : cell.from ≤ cell.to
  pub in_word : cell.to ≤ len
  pub size : IsWithinSizes grammar cell.rule (cell.to - cell.from)
  pub left : IsLeftAnchored grammar cell.rule → cell.from ≡ 0
  pub right : IsRightAnchored grammar cell.rule → cell.to ≡ len

-- the counted cells of a rule that begin here are those that end in this range: from `first` on, and before `past`
abbrev pub AreCountedEnds : Grammar → ℕ → ℕ → ℕ → ℕ → ℕ → Type 0
AreCountedEnds grammar len rule from first past =
    (to : ℕ) → IsCounted grammar len (record { rule = rule; from = from; to = to }) ↔ ((first ≤ to) × (to < past))

-- the cell bound of words of this length
abbrev pub IsCellBound : Grammar → ℕ → ℕ → Type 0
IsCellBound grammar len count = IsCountOf (IsCounted grammar len) count

-- a cell's place: how many counted cells come before it
abbrev pub IsPlaceOf : Grammar → ℕ → Cell → ℕ → Type 0
IsPlaceOf grammar len cell place = IsCountOf (λ other. IsCounted grammar len other × CellPrecedes other cell) place
