use Rattle.std.proofs.Common.{◌≡◌, take}
use Rattle.adp_model.specs.LimitFaults.{told}
use Rattle.grammar_check.specs.TokenNumbers.{greatest_of}
use Rattle.grammar_check.specs.KeptPlans.{rule_tokens}
use Rattle.grammar_check.proofs.tokens.greatest_token.Given as goal

abbrev pub invariant-loop-plan : goal.invariant-loop-plan
invariant-loop-plan l = l.greatest ≡ told (greatest_of (rule_tokens l.len) (take l.plan-index l.plans))
