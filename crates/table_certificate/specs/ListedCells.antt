-- Demanded cells, listed in order up to a cell.
use Rattle.std.specs.Prelude.{List}
use Rattle.adp_model.specs.declared.cell.Cell.{Cell}
use Rattle.adp_model.specs.PosedProblem.{PosedProblem}
use Rattle.adp_model.specs.Cells.{AreAll, CellPrecedes}
use Rattle.adp_model.specs.Demand.{IsDemanded}

-- these are the demanded cells that come before this one, each once, in order
abbrev pub AreListedBefore : PosedProblem → Cell → List Cell → Type 0
AreListedBefore p end cells = AreAll (λ cell. IsDemanded p cell × CellPrecedes cell end) cells
