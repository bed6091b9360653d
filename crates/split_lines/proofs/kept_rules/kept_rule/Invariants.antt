use Rattle.std.proofs.Common.{◌≡◌, length}
use Rattle.split_lines.specs.Beginnings.{AreTold}
use Rattle.split_lines.specs.EachWord.{AtEachWord}
use Rattle.split_lines.specs.KeptRules.{AreMiddles, HasAllOf, AreKept}
use Rattle.split_lines.proofs.kept_rules.kept_rule.Given as goal

-- the alternatives so far
abbrev pub invariant-loop-number : goal.invariant-loop-number
invariant-loop-number l = record {
  middles_are : AreMiddles l.problem.grammar l.middles.items;
  longer : HasAllOf l.initial.middles.items l.middles.items;
  kept_are : AtEachWord l.problem.grammar l.problem.algebra (λ p. AreKept p l.middles.items l.rule l.number l.alternatives.items);
  told : AreTold l.number l.alternatives.items l.beginnings;
  each : length l.alternatives.items ≡ l.number;
}
