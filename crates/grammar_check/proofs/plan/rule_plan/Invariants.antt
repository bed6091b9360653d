use Rattle.std.proofs.Common.{◌+◌, map, take}
use Rattle.grammar_check.specs.Fills.{IsRuleWide}
use Rattle.grammar_check.specs.GrammarPlans.{entry_in, lengths_of}
use Rattle.grammar_check.specs.KeptPlans.{Keeps}
use Rattle.grammar_check.proofs.plan.rule_plan.Given as goal

abbrev pub invariant-loop-alternative : goal.invariant-loop-alternative
invariant-loop-alternative l = record {
  plan : Keeps (map (entry_in l.grammar l.measure (lengths_of l.sizes l.most)) (take l.alternative-index l.alternatives)) l.plan;
  columns : IsRuleWide (l.most + 1) l.plan;
}
