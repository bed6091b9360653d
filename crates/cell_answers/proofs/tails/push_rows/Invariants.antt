use Rattle.cell_answers.specs.TailRows.{AreEmpty}
use Rattle.cell_answers.proofs.tails.push_rows.Given as goal

abbrev pub invariant-loop-alt : goal.invariant-loop-alt
invariant-loop-alt l = AreEmpty l.rows.items

abbrev pub invariant-loop-count : goal.invariant-loop-count
invariant-loop-count l = AreEmpty l.rows.items
