-- The lists of cells, one behind the other.
use Rattle.std.specs.Prelude.{◌≡◌, ℕ, ◌-◌, ◌≤◌, Some, List, length, take, drop, slice_get}
use Rattle.adp_model.specs.declared.cell.Cell.{Cell}
use Rattle.adp_model.specs.PosedProblem.{PosedProblem}
use Rattle.adp_model.specs.Cells.{IsCellBound, IsCounted, IsPlaceOf}
use Rattle.adp_model.specs.Demand.{IsDemanded}
use Rattle.first_trees.specs.Entries.{Entry, AreEntries}
use Rattle.k_best.specs.declared.list_table.ListTable.{ListTable}
use Rattle.k_best.specs.declared.list_table.Part.{Part}

-- the entries of a part
abbrev pub entries_of : ListTable → Part → List Entry
entries_of table part = take (part.end - part.start) (drop part.start table.entries.items)

-- the table is of the problem, each counted cell has a part, and all parts lie among the entries
pub record IsLaidOut (p : PosedProblem) (table : ListTable) : Type 0 where
  pub problem : table.places ≡ p
  pub each : IsCellBound p.grammar (length p.word) (length table.parts.items)
  pub within : (place : ℕ) (part : Part) → slice_get table.parts.items place ≡ Some part
      → (part.start ≤ part.end) × (part.end ≤ length table.entries.items)

-- the part of the cell has the entries of its first `k` trees
pub record HasList (k : ℕ) (table : ListTable) (cell : Cell) : Type 0 where
  pub counted : IsCounted table.places.grammar (length table.places.word) cell
  pub place : ℕ
  pub part : Part
  pub is_place : IsPlaceOf table.places.grammar (length table.places.word) cell place
  pub there : slice_get table.parts.items place ≡ Some part
  pub entries : AreEntries table.places k cell (entries_of table part)

-- of the cells of which it holds the demanded ones have their lists
pub record AreListed (p : PosedProblem) (k : ℕ) (table : ListTable) (Holds : Cell → Type 0) : Type 0 where
  pub laid : IsLaidOut p table
  pub lists : (cell : Cell) → IsDemanded p cell → Holds cell → HasList k table cell
