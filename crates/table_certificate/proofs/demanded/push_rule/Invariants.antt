use Rattle.table_certificate.specs.ListedCells.{AreListedBefore}
use Rattle.table_certificate.proofs.demanded.push_rule.Given as goal

abbrev pub invariant-loop-from : goal.invariant-loop-from
invariant-loop-from g l = AreListedBefore l.layout (record { rule = l.rule; from = l.from; to = 0 }) l.cells.items
