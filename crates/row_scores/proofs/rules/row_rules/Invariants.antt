use Rattle.row_scores.proofs.RuleLists.{AreFirstRules}
use Rattle.row_scores.proofs.rules.row_rules.Given as goal

abbrev pub invariant-loop-rule : goal.invariant-loop-rule
invariant-loop-rule l = AreFirstRules l.lines l.rule-items l.rule-index l.rules.items
