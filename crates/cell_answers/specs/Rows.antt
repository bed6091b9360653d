-- Entries of cells side by side.
use Rattle.std.specs.Prelude.{◌≡◌, ℕ, ◌-◌, ◌≤◌, ℤ, Some, List, slice_get}
use Rattle.adp_model.specs.declared.cell.Cell.{Cell}
use Rattle.adp_model.specs.PosedProblem.{PosedProblem}
use Rattle.cell_answers.specs.Entries.{IsEntry}

-- among entries for the positions from `first` on, that for this position is the cell's
pub record HasEntryAt (p : PosedProblem) (entries : List ℤ) (first position : ℕ) (cell : Cell) : Type 0 where
  pub from_first : first ≤ position
  pub entry : ℤ
  pub there : slice_get entries (position - first) ≡ Some entry
  pub is_entry : IsEntry p cell entry
