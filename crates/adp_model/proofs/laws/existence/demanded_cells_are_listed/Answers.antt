use Rattle.std.proofs.Common.{length, arith}
use Rattle.adp_model.specs.Cells.{IsCounted}
use Rattle.adp_model.specs.Demand.{IsDemanded}
use Rattle.adp_model.proofs.CellLists.{fewer_cells}
use Rattle.adp_model.proofs.Demanded.{demanded_counted}
use Rattle.adp_model.proofs.DemandDecided.{number_exists}
use Rattle.adp_model.proofs.laws.existence.demanded_cells_are_listed.Goals as goal

pub returns-clause-cells : goal.returns-clause-cells
returns-clause-cells c =
    λ p h.
    let counted = h.limits.cells in
    let found = number_exists p h.least h.greatest h.ranks h.checked h.limits.letters counted.1.0 counted.1.1 in
    (found.1.0, found.1.1)

pub returns-clause-count : goal.returns-clause-count
returns-clause-count c =
    λ p h.
    let counted = h.limits.cells in
    let found = number_exists p h.least h.greatest h.ranks h.checked h.limits.letters counted.1.0 counted.1.1 in
    let few = fewer_cells (IsDemanded p) (IsCounted p.grammar (length p.word)) found.1.0 counted.1.0 found.1.1
    counted.1.1
    (demanded_counted p h.checked.well_formed) in
    (found.0, found.1, omega (arith, few, found.1.2, counted.1.2, counted.2))
