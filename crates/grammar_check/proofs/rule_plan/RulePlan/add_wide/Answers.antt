use Rattle.std.proofs.Common.{◌+◌, ◌++◌, max, inr, List, sym, ap, subst, ◌∙◌, arith}
use Rattle.std.specs.List.{All}
use Rattle.std.proofs.lemmas.List.Elements.{All-push}
use Rattle.grammar_check.specs.declared.alternative.Alternative.TheVariants.{Wide}
use Rattle.grammar_check.specs.RuleValues.{Kept, IsWide, kept_of, plan_of}
use Rattle.grammar_check.specs.Fills.{kept_plan}
use Rattle.grammar_check.specs.SingleRules.{all_singles}
use Rattle.grammar_check.specs.TokenNumbers.{greatest_of, token_number}
use Rattle.grammar_check.specs.KeptPlans.{AddsKept}
use Rattle.grammar_check.proofs.KeptPlanSteps.{last_adds, adds_second, keeps_wide}
use Rattle.grammar_check.proofs.SinglePlans.{kept_plan-same}
use Rattle.grammar_check.proofs.rule_plan.RulePlan.add_wide.Goals as goal

pub returns-clause-keeps : goal.returns-clause-keeps
returns-clause-keeps c = λ entries keeps.
    let before = c.args.self.now in
    let middle = c.add_tokens.new.self in
    let parts = c.args.parts.items in
    let new = c.in_ok-alternative.alternative in
    let singles = all_singles middle.singles.items in
    let after = singles ++ plan_of c.push.new.self.items in
    keeps_wide entries (kept_plan before) after before.tokens.items middle.tokens.items parts c.args.term.now keeps
    (subst (λ (items : List Kept). AddsKept items after (inr c.args.term.now, 0, parts)) (kept_plan-same middle before c.add_tokens.ensures.singles c.add_tokens.ensures.alternatives)
    (adds_second singles (plan_of middle.alternatives.items) (plan_of c.push.new.self.items) (inr c.args.term.now, 0, parts)
    (subst (λ items. AddsKept (plan_of middle.alternatives.items) (plan_of items) (inr c.args.term.now, 0, parts)) (sym c.in_ok-push.ensures.items)
    (last_adds kept_of middle.alternatives.items (Wide new) (inr c.args.term.now, 0, parts)
    (λ i. (inr (c.in_ok-alternative.ensures.term i), 0, c.in_ok-alternative.ensures.parts i))))))
    (λ len. c.in_ok-add_tokens.ensures.tokens len ∙ ap (λ ps. max (greatest_of (token_number len) before.tokens.items) (greatest_of (token_number len) ps)) c.deref.ensures.value)

pub returns-clause-columns : goal.returns-clause-columns
returns-clause-columns c = λ wide.
    subst (All (IsWide (c.args.most + 1))) (sym c.in_ok-push.ensures.items)
    (All-push (IsWide (c.args.most + 1)) c.add_tokens.new.self.alternatives.items (Wide c.in_ok-alternative.alternative) (subst (λ v. All (IsWide (c.args.most + 1)) v.items) (sym c.add_tokens.ensures.alternatives) wide) (omega (arith, c.in_ok-alternative.ensures.width)))
