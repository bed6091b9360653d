use Rattle.adp_model.specs.PosedProblem.{PosedProblem}
use Rattle.cell_answers.specs.TailRows.{AreTrueRows}
use Rattle.cell_answers.proofs.tails.TailRows.make_of.Given as goal

abbrev pub invariant-loop-ahead : goal.invariant-loop-ahead
invariant-loop-ahead l = (p : PosedProblem) → AreTrueRows p l.fn.self.rows.items → AreTrueRows p l.self.rows.items
