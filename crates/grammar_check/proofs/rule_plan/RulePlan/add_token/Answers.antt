use Rattle.std.proofs.Common.{◌≡◌, ℕ, ◌<◌, length, slice_index_or, ap, subst, ◌∙◌, arith}
use Rattle.grammar_check.specs.TokenNumbers.{greatest_of, token_number}
use Rattle.grammar_check.proofs.KeptPlanSteps.{greatest_of-push, nothing_worth, nothing_more, known_token}
use Rattle.grammar_check.proofs.rule_plan.RulePlan.add_token.Goals as goal
use Rattle.grammar_check.proofs.rule_plan.RulePlan.add_token.Goals.{else-letter_weight-gt0-via-then-letter_weight-gt0+else-not-has, else-letter_weight-gt0-via-else-letter_weight-gt0}

pub returns-in_ok-push-clause-tokens : goal.returns-in_ok-push-clause-tokens
returns-in_ok-push-clause-tokens c = λ len.
    ap (greatest_of (token_number len)) c.in_ok-push.ensures.items ∙ greatest_of-push (token_number len) c.args.self.now.tokens.items c.args.part

pub returns-else-letter_weight-gt0-clause-tokens : goal.returns-else-letter_weight-gt0-clause-tokens
returns-else-letter_weight-gt0-clause-tokens c = λ len. elim c.else-letter_weight-gt0.branch [
  | else-letter_weight-gt0-via-then-letter_weight-gt0+else-not-has w ↦
      known_token c.args.self.now.tokens.items c.args.part len (subst (λ ts. (place : ℕ) × (place < length ts) × (slice_index_or ts place c.args.part ≡ c.args.part)) w.deref.ensures.value (w.has.ensures w.if-not-has.false))
  | else-letter_weight-gt0-via-else-letter_weight-gt0 w ↦
      nothing_more (greatest_of (token_number len) c.args.self.now.tokens.items) (token_number len c.args.part) (let none = nothing_worth c.args.part c.letter_weight.result len c.letter_weight.ensures w.if-letter_weight-gt0.false in omega arith)
]
