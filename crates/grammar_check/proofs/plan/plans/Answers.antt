use Rattle.std.proofs.Common.{◌≡◌, ℕ, ◌+◌, [], length, map, slice_index_or, ap, sym, subst, ◌∙◌, arith}
use Rattle.std.proofs.lemmas.List.{get_or-map, length_push}
use Rattle.std.proofs.lemmas.List.Elements.{All-push}
use Rattle.adp_model.specs.declared.grammar.Rule as rules
use Rattle.grammar_check.specs.declared.rule_plan.RulePlan.{RulePlan}
use Rattle.grammar_check.specs.Fills.{IsRuleWide, plan_at}
use Rattle.grammar_check.specs.GrammarPlans.{entry_in, grammar_plan, lengths_of}
use Rattle.grammar_check.specs.KeptPlans.{Keeps}
use Rattle.grammar_check.proofs.KeptPlanSteps.{each_push}
use Rattle.grammar_check.proofs.OwnWays.{fits_in, few_in}
use Rattle.grammar_check.proofs.PlanLists.{few_at, leaves_at}
use Rattle.grammar_check.proofs.plan.plans.Goals as goal

pub rule_plan-requires-clause-few : goal.rule_plan-requires-clause-few
rule_plan-requires-clause-few c =
    let same = c.as_slice-rule-items.ensures in
    few_at c.args.grammar.now (c.arguments_are_few_and_known.ensures.few c.args.grammar.now c.requires.well_formed) c.loop-rule.rule-index c.rule-item.result c.as_slice-in-loop-rule.result.now
    (omega (arith, ap length same, c.loop-rule-test.true)) (subst (λ rs. c.rule-item.result ≡ slice_index_or rs c.loop-rule.rule-index c.rule-item.result) same c.rule-item.is) c.as_slice-in-loop-rule.ensures

pub rule_plan-requires-clause-terms : goal.rule_plan-requires-clause-terms
rule_plan-requires-clause-terms c =
    let same = c.as_slice-rule-items.ensures in
    let fits = fits_in c.args.grammar.now (c.terms_fit_their_alternatives.ensures.fit c.args.grammar.now c.requires.well_formed) c.args.measure in
    leaves_at c.args.grammar.now c.args.measure (λ rule alternative inside. few_in c.args.grammar.now c.args.measure _ _ (fits rule alternative inside)) c.loop-rule.rule-index c.rule-item.result c.as_slice-in-loop-rule.result.now
    (omega (arith, ap length same, c.loop-rule-test.true)) (subst (λ rs. c.rule-item.result ≡ slice_index_or rs c.loop-rule.rule-index c.rule-item.result) same c.rule-item.is) c.as_slice-in-loop-rule.ensures

pub loop-rule-preserved : goal.loop-rule-preserved
loop-rule-preserved c =
    let old = c.loop-rule.planned.items in
    let new = c.in_ok-rule_plan.field-0 in
    let item = c.rule-item.result in
    let inside = c.loop-rule-test.true in
    let same = c.as_slice-rule-items.ensures in
    let lengths = lengths_of c.args.sizes.now c.args.most in
    let entry = entry_in c.args.grammar.now c.args.measure lengths in
    let here : plan_at (grammar_plan c.args.grammar.now c.args.measure lengths) c.loop-rule.rule-index ≡ map entry c.as_slice-in-loop-rule.result.now =
    get_or-map (λ (rule : rules.Rule). map entry rule.alts) c.args.grammar.now.rules c.loop-rule.rule-index item [] (omega (arith, ap length same, inside))
    ∙ ap (λ (rule : rules.Rule). map entry rule.alts) (sym (subst (λ rs. item ≡ slice_index_or rs c.loop-rule.rule-index item) same c.rule-item.is))
    ∙ ap (map entry) (sym c.as_slice-in-loop-rule.ensures) in
    rw c.in_ok-push.ensures.items (record {
      each = omega (arith, length_push old new, c.loop-rule.invariant.each);
      keeps = each_push (λ (rule : ℕ) (plan : RulePlan). Keeps (plan_at (grammar_plan c.args.grammar.now c.args.measure lengths) rule) plan) old new c.loop-rule.invariant.keeps
          (subst (λ p. Keeps p new) (sym (ap (λ n. plan_at (grammar_plan c.args.grammar.now c.args.measure lengths) n) c.loop-rule.invariant.each ∙ here)) c.in_ok-rule_plan.ensures.plan);
      columns = All-push (IsRuleWide (c.args.most + 1)) old new c.loop-rule.invariant.columns c.in_ok-rule_plan.ensures.columns;
    })

pub returns-clause-plan : goal.returns-clause-plan
returns-clause-plan c = record {
  each = omega (arith, c.loop-rule.invariant.each, c.loop-rule.auto, c.loop-rule-test.false, ap length c.as_slice-rule-items.ensures);
  keeps = c.loop-rule.invariant.keeps;
}

pub returns-clause-columns : goal.returns-clause-columns
returns-clause-columns c = c.loop-rule.invariant.columns
