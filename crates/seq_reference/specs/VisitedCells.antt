-- Visits of the demanded cells of a straight grammar.
use Rattle.std.specs.Prelude.{◌≡◌, ◌↔◌}
use Rattle.adp_model.specs.declared.cell.Cell.{Cell}
use Rattle.adp_model.specs.PosedProblem.{PosedProblem}
use Rattle.adp_model.specs.Demand.{IsDemanded}
use Rattle.cell_tables.specs.Marks.{IsMarkedInRow}
use Rattle.suffix_cells.specs.Ranks.{AreRanked}
use Rattle.suffix_cells.specs.Straight.{AreStraight}
use Rattle.suffix_cells.specs.Visits.{Visited}

-- the grammar is straight, its rules are visited by their ranks, and the demanded cells are marked
pub record AreAllVisited (p : PosedProblem) (visits : Visited) : Type 0 where
  pub straight : AreStraight p
  pub problem : visits.marks.problem ≡ p
  pub ranked : AreRanked p visits.order
  pub marked : (cell : Cell) → IsMarkedInRow visits.marks cell ↔ IsDemanded p cell
