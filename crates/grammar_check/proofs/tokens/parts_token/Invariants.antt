use Rattle.std.proofs.Common.{◌≡◌, max, length}
use Rattle.adp_model.specs.LimitFaults.{told}
use Rattle.grammar_check.specs.TokenNumbers.{greatest_of, token_number}
use Rattle.grammar_check.proofs.tokens.parts_token.Given as goal

abbrev pub invariant-loop-first : goal.invariant-loop-first
invariant-loop-first l = max l.greatest (told (greatest_of (token_number l.len) l.rest)) ≡ told (greatest_of (token_number l.len) l.parts)

abbrev pub decreases-loop-first : goal.decreases-loop-first
decreases-loop-first l = length l.rest
