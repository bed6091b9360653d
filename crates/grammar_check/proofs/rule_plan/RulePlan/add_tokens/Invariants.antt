use Rattle.std.proofs.Common.{◌≡◌, ℕ, max, length}
use Rattle.grammar_check.specs.TokenNumbers.{greatest_of, token_number}
use Rattle.grammar_check.proofs.rule_plan.RulePlan.add_tokens.Given as goal

abbrev pub invariant-loop-first : goal.invariant-loop-first
invariant-loop-first l = record {
  singles : l.self.singles ≡ l.initial.self.singles;
  alternatives : l.self.alternatives ≡ l.initial.self.alternatives;
  tokens : (len : ℕ) → max (greatest_of (token_number len) l.self.tokens.items) (greatest_of (token_number len) l.rest)
      ≡ max (greatest_of (token_number len) l.initial.self.tokens.items) (greatest_of (token_number len) l.parts);
}

abbrev pub decreases-loop-first : goal.decreases-loop-first
decreases-loop-first l = length l.rest
