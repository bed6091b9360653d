use Rattle.std.proofs.Common.{◌≡◌, ℕ, ◌+◌, max, take, slice_index_or, sym, ap, ◌∙◌, arith}
use Rattle.std.proofs.lemmas.List.{take_more}
use Rattle.adp_model.specs.LimitFaults.{told}
use Rattle.grammar_check.specs.TokenNumbers.{greatest_of, token_number}
use Rattle.grammar_check.specs.KeptPlans.{rule_tokens}
use Rattle.grammar_check.proofs.KeptPlanSteps.{greatest_of-push}
use Rattle.grammar_check.proofs.tokens.greatest_token.Goals as goal

cut : (result value best here old whole : ℕ) → result ≡ max value best → value ≡ told here → best ≡ told old → whole ≡ max old here → result ≡ told whole
cut result value best here old whole e f g h = omega arith

pub loop-plan-preserved : goal.loop-plan-preserved
loop-plan-preserved c =
    let plans = c.args.plans.now in
    let len = c.args.len in
    let index = c.loop-plan.plan-index in
    let item = c.plan-item.result in
    let number = rule_tokens len in
    let whole = ap (greatest_of number) (take_more plans index item (omega (arith, c.loop-plan-test.true))) ∙ greatest_of-push number (take index plans) (slice_index_or plans index item)
    ∙ ap (λ p. max (greatest_of number (take index plans)) (rule_tokens len p)) (sym c.plan-item.is) in
    cut c.max-greatest.result c.parts_token.result c.loop-plan.greatest (rule_tokens len item) (greatest_of number (take index plans)) (greatest_of number (take (index + 1) plans))
    c.max-greatest.ensures
    (c.parts_token.ensures ∙ ap (λ ts. told (greatest_of (token_number len) ts)) c.deref.ensures.value) c.loop-plan.invariant whole
