use Rattle.table_certificate.specs.ListedCells.{AreListedBefore}
use Rattle.table_certificate.proofs.demanded.demanded_cells.Given as goal

abbrev pub invariant-loop-rule : goal.invariant-loop-rule
invariant-loop-rule g l = AreListedBefore l.layout (record { rule = l.rule; from = 0; to = 0 }) l.cells.items
