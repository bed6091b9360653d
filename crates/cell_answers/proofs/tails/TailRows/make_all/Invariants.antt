use Rattle.adp_model.specs.PosedProblem.{PosedProblem}
use Rattle.cell_answers.specs.TailRows.{AreTrueRows}
use Rattle.cell_answers.proofs.tails.TailRows.make_all.Given as goal

abbrev pub invariant-loop-rule : goal.invariant-loop-rule
invariant-loop-rule l = (p : PosedProblem) → AreTrueRows p l.fn.self.rows.items → AreTrueRows p l.self.rows.items
