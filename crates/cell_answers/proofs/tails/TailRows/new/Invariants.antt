use Rattle.cell_answers.specs.TailRows.{AreEmpty}
use Rattle.cell_answers.proofs.tails.TailRows.new.Given as goal

abbrev pub invariant-loop-rule : goal.invariant-loop-rule
invariant-loop-rule l = AreEmpty l.rows.items
