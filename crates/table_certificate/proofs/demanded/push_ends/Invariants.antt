use Rattle.table_certificate.specs.ListedCells.{AreListedBefore}
use Rattle.table_certificate.proofs.demanded.push_ends.Given as goal

abbrev pub invariant-loop-to : goal.invariant-loop-to
invariant-loop-to g l = AreListedBefore l.layout (record { rule = l.rule; from = l.from; to = l.to }) l.cells.items
