use Rattle.std.proofs.Common.{length, arith}
use Rattle.adp_model.specs.Cells.{IsCounted}
use Rattle.adp_model.specs.Demand.{IsDemanded}
use Rattle.adp_model.proofs.CellLists.{fewer_cells}
use Rattle.adp_model.proofs.Demanded.{demanded_counted}
use Rattle.adp_model.proofs.laws.demand.demanded_cells_are_within_the_cell_bound.Goals as goal

pub returns : goal.returns
returns c =
    λ p count bound formed demanded counted.
    let few = fewer_cells (IsDemanded p) (IsCounted p.grammar (length p.word)) demanded.0 counted.0 demanded.1 counted.1 (demanded_counted p formed) in
    omega (arith, few, demanded.2, counted.2)
