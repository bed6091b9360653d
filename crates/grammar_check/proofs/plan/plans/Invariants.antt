use Rattle.std.proofs.Common.{◌≡◌, ℕ, ◌+◌, ◌<◌, length, slice_index_or}
use Rattle.std.specs.List.{All}
use Rattle.grammar_check.specs.declared.rule_plan.RulePlan.{RulePlan}
use Rattle.grammar_check.specs.Fills.{IsRuleWide, plan_at}
use Rattle.grammar_check.specs.GrammarPlans.{grammar_plan, lengths_of}
use Rattle.grammar_check.specs.KeptPlans.{Keeps}
use Rattle.grammar_check.proofs.plan.plans.Given as goal

abbrev pub invariant-loop-rule : goal.invariant-loop-rule
invariant-loop-rule l = record {
  each : length l.planned.items ≡ l.rule-index;
  keeps : (rule : ℕ) (d : RulePlan) → rule < length l.planned.items
      → Keeps (plan_at (grammar_plan l.grammar l.measure (lengths_of l.sizes l.most)) rule) (slice_index_or l.planned.items rule d);
  columns : All (IsRuleWide (l.most + 1)) l.planned.items;
}
