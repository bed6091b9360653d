-- The lists of a problem's demanded cells, and what their fields stand for.
use Rattle.std.specs.Prelude.{◌↔◌}
use Rattle.adp_model.specs.declared.cell.Cell.{Cell}
use Rattle.adp_model.specs.Demand.{IsDemanded}
use Rattle.cell_tables.specs.Marks.{IsMarkedInRow}
use Rattle.k_best.specs.ListTables.{AreListed}
use Rattle.k_best.specs.ListsOf.{ListsOf}
use Rattle.k_best.specs.declared.lists.Lists.TheInside.{Inside}

abbrev pub lists_of : Inside → ListsOf
lists_of fields = record { problem = fields.problem.now; k = fields.k }

-- the demanded cells and no others are marked in their rows, and have their lists
pub record AreLists (fields : Inside) : Type 0 where
  pub marked : (cell : Cell) → IsMarkedInRow fields.marks cell ↔ IsDemanded fields.problem.now cell
  pub listed : AreListed fields.problem.now fields.k fields.table (IsDemanded fields.problem.now)
