-- What the fields of visits stand for.
use Rattle.std.specs.Prelude.{◌≡◌, ◌↔◌, ℕ, ◌+◌, length, slice_index}
use Rattle.std.specs.Int.{bit_at}
use Rattle.adp_model.specs.declared.cell.Cell.{Cell}
use Rattle.adp_model.specs.Cells.{IsCountOf}
use Rattle.cell_tables.specs.Marks.{IsMarked, IsMarkedInRow}
use Rattle.suffix_cells.specs.declared.visits.Visits.TheInside.{Inside}
use Rattle.suffix_cells.specs.Visits.{AreNumbers, IsVisited, Visited}

abbrev pub visited : Inside → Visited
visited visits = record { marks = visits.marks; order = visits.order.items }

-- all marks stand in rows, bits tell what is visited, and the number of these cells is told
pub record AreVisits (fields : Inside) : Type 0 where
  pub problem : fields.problem.now ≡ fields.marks.problem
  pub numbers : AreNumbers (length fields.marks.problem.grammar.rules) fields.order.items fields.numbers.items
  pub each_start : length fields.bits.items ≡ length fields.marks.problem.word + 1
  pub in_rows : (cell : Cell) → IsMarked fields.marks cell → IsMarkedInRow fields.marks cell
  pub exact : (from number : ℕ) → bit_at (slice_index fields.bits.items from) number ≡ 1
      ↔ IsVisited (visited fields) from number
  pub counted : IsCountOf (IsMarkedInRow fields.marks) fields.cells
