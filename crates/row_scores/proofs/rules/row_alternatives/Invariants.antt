use Rattle.row_scores.specs.RowRules.{AreRowAlternatives}
use Rattle.row_scores.proofs.rules.row_alternatives.Given as goal

abbrev pub invariant-loop-number : goal.invariant-loop-number
invariant-loop-number l = AreRowAlternatives l.lines l.rule l.number l.alternatives.items
