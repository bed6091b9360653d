use Rattle.table_certificate.proofs.WrittenLines.{AreBegun}
use Rattle.table_certificate.proofs.writing.cells_certificate.Given as goal

abbrev pub invariant-loop-cell : goal.invariant-loop-cell
invariant-loop-cell g l = AreBegun l.problem l.number l.cells l.cell-index l.out.items
