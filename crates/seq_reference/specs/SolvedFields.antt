-- What the fields of a solution stand for.
use Rattle.std.specs.Prelude.{◌≡◌, ◌↔◌}
use Rattle.adp_model.specs.declared.cell.Cell.{Cell}
use Rattle.adp_model.specs.Demand.{IsDemanded, IsDemandedCount}
use Rattle.cell_answers.specs.Entries.{HasEntry}
use Rattle.cell_tables.specs.Marks.{IsMarkedInRow}
use Rattle.seq_reference.specs.declared.solved.Solved.TheInside.{Inside}

-- the demanded cells and no others are marked in their rows, their scores are entered, and the number of these cells
-- is told
pub record AreSolved (fields : Inside) : Type 0 where
  pub same_problem : fields.scores.problem ≡ fields.prepared
  pub marked : (cell : Cell) → IsMarkedInRow fields.marks cell ↔ IsDemanded fields.prepared cell
  pub scored : (cell : Cell) → IsDemanded fields.prepared cell → HasEntry fields.scores cell
  pub counted : IsDemandedCount fields.prepared fields.cells
