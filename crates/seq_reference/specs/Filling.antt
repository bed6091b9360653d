-- The sweep that fills the scores of the demanded cells, by blocks of starts downwards: in a block by ends upwards, at
-- an end by starts downwards, and on a span by ranks upwards.
use Rattle.std.specs.Prelude.{◌≡◌, ℕ, ◌<◌, ◌≤◌, ◌⊎◌, ℤ, List, slice_index}
use Rattle.adp_model.specs.declared.cell.Cell.{Cell}
use Rattle.adp_model.specs.PosedProblem.{PosedProblem}
use Rattle.adp_model.specs.Demand.{IsDemanded}
use Rattle.cell_tables.specs.Tables.{Table}
use Rattle.cell_answers.specs.Entries.{HasEntry}

-- the cells that begin at this start or later
abbrev pub IsFromStart : ℕ → Cell → Type 0
IsFromStart from cell = from ≤ cell.from

-- those that begin behind a block of starts, at `past` or later, and of those that begin in it, from `first` on, the
-- ones that end before this end
abbrev pub IsFilledBefore : ℕ → ℕ → ℕ → Cell → Type 0
IsFilledBefore first past to cell = IsFromStart past cell ⊎ (IsFromStart first cell × (cell.to < to))

-- those, and of the cells that end at this end the ones that begin at this start or later
abbrev pub IsFilledFrom : ℕ → ℕ → ℕ → ℕ → Cell → Type 0
IsFilledFrom first past to from cell = IsFilledBefore first past to cell ⊎ (IsFromStart from cell × (cell.to ≡ to))

-- the cells that lie within this span
abbrev pub IsWithin : ℕ → ℕ → Cell → Type 0
IsWithin from to cell = (from ≤ cell.from) × (cell.to ≤ to)

-- those of them that have another span, which is shorter
abbrev pub IsShorterWithin : ℕ → ℕ → Cell → Type 0
IsShorterWithin from to cell = IsWithin from to cell × ((from < cell.from) ⊎ (cell.to < to))

-- these, and of the cells of this span the ones whose rules stand before this number
abbrev pub IsFilledBeforeRule : List ℕ → ℕ → ℕ → ℕ → Cell → Type 0
IsFilledBeforeRule rules from to number cell =
    IsShorterWithin from to cell
    ⊎ ((cell.from ≡ from) × (cell.to ≡ to) × ((other : ℕ) × (other < number) × (slice_index rules other ≡ cell.rule)))

-- of the cells of which it holds the demanded ones have their entries
pub record AreFilled (p : PosedProblem) (table : Table ℤ) (Holds : Cell → Type 0) : Type 0 where
  pub problem : table.problem ≡ p
  pub entries : (cell : Cell) → IsDemanded p cell → Holds cell → HasEntry table cell

-- the entries of the first table are entries of the second one too
abbrev pub AreKept : Table ℤ → Table ℤ → Type 0
AreKept old new = (cell : Cell) → HasEntry old cell → HasEntry new cell
