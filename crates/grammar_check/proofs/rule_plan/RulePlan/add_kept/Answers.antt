use Rattle.std.proofs.Common.{List, ◌++◌, inl, sym, ap, subst, ◌∙◌}
use Rattle.grammar_check.specs.declared.part.Part.{Part}
use Rattle.grammar_check.specs.RuleValues.{Kept, plan_of}
use Rattle.grammar_check.specs.KeptPlans.{AddsKept}
use Rattle.grammar_check.specs.SingleRules.{single_kept, all_singles}
use Rattle.grammar_check.specs.Fills.{kept_plan}
use Rattle.grammar_check.proofs.KeptPlanSteps.{on_ok, adds_first, adds_second}
use Rattle.grammar_check.proofs.rule_plan.RulePlan.add_kept.Goals as goal

pub returns-in-Some-clause-kept : goal.returns-in-Some-clause-kept
returns-in-Some-clause-kept c =
    let before = c.args.self.now in
    let after = c.add_single.new.self in
    let kept = single_kept c.in-Some.shape c.in-Some.single in
    on_ok c.add_single.result
    (λ adds.
    subst (λ (one : Kept). AddsKept (kept_plan before) (kept_plan after) one) (c.in-Some.ensures ∙ ap (λ (ps : List Part). (inl c.args.constant, c.args.fixed, ps)) c.deref.ensures.value)
    (subst (λ v. AddsKept (kept_plan before) (all_singles after.singles.items ++ plan_of v.items) kept) (sym c.add_single.ensures.alternatives)
    (adds_first (all_singles before.singles.items) (all_singles after.singles.items) (plan_of before.alternatives.items) kept adds)))
    c.add_single.ensures.kept

pub returns-in-None-clause-kept : goal.returns-in-None-clause-kept
returns-in-None-clause-kept c =
    let before = c.args.self.now in
    let after = c.add_parts.new.self in
    let kept : Kept = (inl c.args.constant, c.args.fixed, c.args.parts.items) in
    on_ok c.add_parts.result
    (λ adds.
    subst (λ v. AddsKept (kept_plan before) (all_singles v.items ++ plan_of after.alternatives.items) kept) (sym c.add_parts.ensures.singles)
    (adds_second (all_singles before.singles.items) (plan_of before.alternatives.items) (plan_of after.alternatives.items) kept adds))
    c.add_parts.ensures.kept
