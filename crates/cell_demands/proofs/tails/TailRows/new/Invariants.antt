use Rattle.cell_demands.specs.TailNotes.{AreEmpty}
use Rattle.cell_demands.proofs.tails.TailRows.new.Given as goal

abbrev pub invariant-loop-rule : goal.invariant-loop-rule
invariant-loop-rule l = AreEmpty l.rows.items
