use Rattle.std.proofs.Common.{length}
use Rattle.adp_model.specs.Demand.{IsDemanded}
use Rattle.adp_model.proofs.Demanded.{demanded_counted}
use Rattle.adp_model.proofs.MarkedCells.{marked_places}
use Rattle.adp_model.proofs.laws.demand.marks_count_demanded_cells.Goals as goal

pub returns : goal.returns
returns c = λ p marks formed bound marked. marked_places p.grammar (length p.word) (IsDemanded p) marks bound (demanded_counted p formed) marked
