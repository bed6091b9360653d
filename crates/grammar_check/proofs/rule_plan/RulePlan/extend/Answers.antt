use Rattle.std.proofs.Common.{◌≡◌, ℕ, ◌++◌, max, List, sym, ap, ap₂, subst, ◌∙◌, arith}
use Rattle.std.specs.List.{All}
use Rattle.adp_model.specs.LimitFaults.{told}
use Rattle.grammar_check.specs.declared.rule_plan.RulePlan.{RulePlan}
use Rattle.grammar_check.specs.declared.singles.Singles.{Singles}
use Rattle.grammar_check.specs.RuleValues.{Kept, IsKeptReadable, IsReadFor, kept_of, plan_of, kept_rule_value}
use Rattle.grammar_check.specs.SingleRules.{all_singles}
use Rattle.grammar_check.specs.Fills.{kept_plan}
use Rattle.grammar_check.proofs.KeptPlanSteps.{kept_rule_value-append}
use Rattle.grammar_check.proofs.SinglePlans.{All-of_map, All-first, All-second}
use Rattle.grammar_check.proofs.rule_plan.RulePlan.extend.Goals as goal

first_of : (P : Kept → Type 0) (plan : RulePlan) (singles : List Singles) → singles ≡ plan.singles.items → All P (kept_plan plan) → All P (all_singles singles)
first_of P plan singles same all = subst (λ s. All P (all_singles s)) (sym same) (All-first P (all_singles plan.singles.items) (plan_of plan.alternatives.items) all)

second_of : (P : Kept → Type 0) (plan : RulePlan) → All P (kept_plan plan) → All P (plan_of plan.alternatives.items)
second_of P plan all = All-second P (all_singles plan.singles.items) (plan_of plan.alternatives.items) all

both : (a b singles others whole : ℕ) → a ≡ told singles → b ≡ told others → whole ≡ max singles others → max b a ≡ told whole
both a b singles others whole e f g = omega arith

plan_is : (new old : RulePlan) → new.singles ≡ old.singles → plan_of new.alternatives.items ≡ plan_of old.alternatives.items → kept_plan new ≡ kept_plan old
plan_is new old singles others = ap₂ (λ s a. all_singles s.items ++ a) singles others

pub greatest_single-singles-requires-clause-readable : goal.greatest_single-singles-requires-clause-readable
greatest_single-singles-requires-clause-readable c =
    first_of (IsKeptReadable c.args.bounds.now.rows) c.args.self.now c.deref.result.now c.deref.ensures.value c.requires.readable

pub extend_others-requires-clause-readable : goal.extend_others-requires-clause-readable
extend_others-requires-clause-readable c =
    All-of_map (IsKeptReadable c.args.bounds.now.rows) kept_of c.args.self.now.alternatives.items (second_of (IsKeptReadable c.args.bounds.now.rows) c.args.self.now c.requires.readable)

pub returns-clause-plan : goal.returns-clause-plan
returns-clause-plan c = plan_is c.extend_others.new.self c.args.self.now c.extend_others.ensures.singles c.extend_others.ensures.plan

pub returns-clause-readable : goal.returns-clause-readable
returns-clause-readable c =
    subst (All (IsKeptReadable c.args.bounds.now.rows)) (sym (plan_is c.extend_others.new.self c.args.self.now c.extend_others.ensures.singles c.extend_others.ensures.plan)) c.requires.readable

pub returns-clause-value : goal.returns-clause-value
returns-clause-value c = λ bound reads spreads.
    let plan = c.args.self.now in
    let singles = all_singles plan.singles.items in
    let others = plan_of plan.alternatives.items in
    let first = c.greatest_single-singles.ensures bound (first_of (IsReadFor bound c.args.bounds.now c.args.len) plan c.deref.result.now c.deref.ensures.value reads) in
    let first_is : c.greatest_single-singles.result ≡ told (kept_rule_value bound singles c.args.len) = first ∙ ap (λ s. told (kept_rule_value bound (all_singles s) c.args.len)) c.deref.ensures.value in
    let second = c.extend_others.ensures.value bound (second_of (IsReadFor bound c.args.bounds.now c.args.len) plan reads) spreads in
    c.max.ensures ∙ both c.greatest_single-singles.result c.extend_others.result (kept_rule_value bound singles c.args.len) (kept_rule_value bound others c.args.len) (kept_rule_value bound (kept_plan plan) c.args.len) first_is second (kept_rule_value-append bound singles others c.args.len)

pub returns-clause-spread : goal.returns-clause-spread
returns-clause-spread c = λ bound reads spreads.
    c.extend_others.ensures.spread bound (second_of (IsReadFor bound c.args.bounds.now c.args.len) c.args.self.now reads) spreads
