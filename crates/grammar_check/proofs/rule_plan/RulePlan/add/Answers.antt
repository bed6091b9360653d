use Rattle.std.proofs.Common.{◌≡◌, ℕ, ◌+◌, ◌-◌, ◌^◌, min, List, length, sym, ap, subst, ◌∙◌, arith, inl}
use Rattle.std.specs.List.{All}
use Rattle.adp_model.specs.LimitFaults.{told}
use Rattle.grammar_check.specs.Fills.{kept_plan}
use Rattle.grammar_check.specs.Plans.{open_parts, fixed_length, fixed_worth}
use Rattle.grammar_check.specs.RuleValues.{Kept, IsWide}
use Rattle.grammar_check.specs.TokenNumbers.{greatest_of, token_number}
use Rattle.grammar_check.specs.KeptPlans.{AddsKept}
use Rattle.grammar_check.proofs.Kept.{length-open}
use Rattle.grammar_check.proofs.KeptPlanSteps.{on_ok, keeps_linear}
use Rattle.grammar_check.proofs.SinglePlans.{kept_plan-same}
use Rattle.grammar_check.proofs.rule_plan.RulePlan.add.Goals as goal

summed : (total constant cut worth : ℕ) → total ≡ told (constant + cut) → cut ≡ told worth → total ≡ told (constant + worth)
summed total constant cut worth e f = omega arith

pub add_kept-requires-clause-few : goal.add_kept-requires-clause-few
add_kept-requires-clause-few c =
    let fewer = length-open c.args.parts.now in
    omega (arith, c.requires.few, ap length c.in_ok-open.ensures, c.in_ok-open.open.ok.0)

pub returns-clause-keeps : goal.returns-clause-keeps
returns-clause-keeps c =
    let before = c.args.self.now in
    let middle = c.add_tokens.new.self in
    let after = c.add_kept.new.self in
    let parts = c.args.parts.now in
    on_ok c.add_kept.result
    (λ adds entries keeps.
    keeps_linear entries (kept_plan before) (kept_plan after) before.tokens.items after.tokens.items parts c.args.constant keeps
    (subst (λ (items : List Kept). AddsKept items (kept_plan after) (inl (told (c.args.constant + fixed_worth parts)), min (fixed_length parts) (2 ^ 64 - 1), open_parts parts))
    (kept_plan-same middle before c.add_tokens.ensures.singles c.add_tokens.ensures.alternatives)
    (subst (λ (kept : Kept). AddsKept (kept_plan middle) (kept_plan after) kept)
    (λ i. (inl (summed c.cut_sum-constant.result c.args.constant c.fixed_worth.result (fixed_worth parts) c.cut_sum-constant.ensures c.fixed_worth.ensures i), c.fixed_length.ensures i, c.in_ok-open.ensures i)) adds))
    (λ len. ap (λ v. greatest_of (token_number len) v.items) c.add_kept.ensures.tokens ∙ c.in_ok-add_tokens.ensures.tokens len))
    c.add_kept.ensures.kept

pub returns-clause-columns : goal.returns-clause-columns
returns-clause-columns c =
    on_ok c.add_kept.result
    (λ more wide. more (subst (λ v. All (IsWide (c.args.most + 1)) v.items) (sym c.add_tokens.ensures.alternatives) wide))
    c.add_kept.ensures.columns
