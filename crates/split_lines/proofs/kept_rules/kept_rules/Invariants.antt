use Rattle.split_lines.specs.EachWord.{AtEachWord}
use Rattle.split_lines.specs.KeptRules.{AreMiddles, AreKeptRules}
use Rattle.split_lines.proofs.kept_rules.kept_rules.Given as goal

-- the rules so far
abbrev pub invariant-loop-rule : goal.invariant-loop-rule
invariant-loop-rule l = record {
  middles_are : AreMiddles l.problem.grammar l.middles.items;
  rules_are : AtEachWord l.problem.grammar l.problem.algebra (λ p. AreKeptRules p l.middles.items l.rule l.rules.items);
}
