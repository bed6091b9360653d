use Rattle.std.proofs.Common.{◌+◌, inl, sym, ap, subst, ◌∙◌}
use Rattle.std.specs.List.{All}
use Rattle.std.proofs.lemmas.List.Elements.{All-push, All-set}
use Rattle.grammar_check.specs.RuleValues.{IsWide, kept_of, plan_of}
use Rattle.grammar_check.specs.KeptPlans.{AddsKept}
use Rattle.grammar_check.proofs.KeptPlanSteps.{raise_adds, last_adds}
use Rattle.grammar_check.proofs.rule_plan.RulePlan.add_parts.Goals as goal

pub returns-in-Some-clause-kept : goal.returns-in-Some-clause-kept
returns-in-Some-clause-kept c =
    let old = c.index_mut.result.now in
    let old_is = c.index_mut.ensures.value in
    let found = c.in-Some.ensures.same old in
    let kept = ap kept_of old_is ∙ found.1 ∙ (λ i. (inl found.0, c.args.fixed, c.deref.ensures.value i)) in
    raise_adds kept_of c.args.self.now.alternatives.items c.in-Some.place old c.raise.new.self found.0 c.args.constant c.args.fixed c.args.parts.items
    c.in-Some.ensures.inside old_is kept (c.raise.ensures.kept found.0 c.args.fixed c.args.parts.items kept)

pub returns-in-Some-clause-columns : goal.returns-in-Some-clause-columns
returns-in-Some-clause-columns c = λ wide.
    All-set (IsWide (c.args.most + 1)) c.args.self.now.alternatives.items c.in-Some.place c.raise.new.self
    (c.raise.ensures.columns (c.args.most + 1) (subst (IsWide (c.args.most + 1)) (sym c.index_mut.ensures.value) (wide c.in-Some.place c.index_mut.result.now c.in-Some.ensures.inside))) wide

pub returns-clause-kept : goal.returns-clause-kept
returns-clause-kept c =
    subst (λ items. AddsKept (plan_of c.args.self.now.alternatives.items) (plan_of items) (inl c.args.constant, c.args.fixed, c.args.parts.items)) (sym c.in_ok-push.ensures.items)
    (last_adds kept_of c.args.self.now.alternatives.items c.in_ok-alternative.alternative (inl c.args.constant, c.args.fixed, c.args.parts.items) c.in_ok-alternative.ensures.kept)

pub returns-clause-columns : goal.returns-clause-columns
returns-clause-columns c = λ wide.
    subst (All (IsWide (c.args.most + 1))) (sym c.in_ok-push.ensures.items)
    (All-push (IsWide (c.args.most + 1)) c.args.self.now.alternatives.items c.in_ok-alternative.alternative wide c.in_ok-alternative.ensures.columns)
