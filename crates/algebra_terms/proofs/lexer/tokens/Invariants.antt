use Rattle.std.proofs.Common.{◌≡◌, ◌≤◌, ◌-◌, length, map, drop}
use Rattle.std.specs.List.{All}
use Rattle.job_texts.specs.LineTokens.{line_tokens, tokens_from}
use Rattle.algebra_terms.specs.Tokens.{placed, IsIn}
use Rattle.algebra_terms.proofs.LineTokens.{with_front}
use Rattle.algebra_terms.proofs.lexer.tokens.Given as goal

-- the tokens that are found, and those of what is left
abbrev pub invariant-loop-at : goal.invariant-loop-at
invariant-loop-at l = record {
  within : l.at ≤ length l.line;
  found : with_front (map (placed l.line) l.tokens.items) (tokens_from 0 l.at (drop l.at l.line)) ≡ line_tokens l.line;
  spans : All (IsIn l.line) l.tokens.items;
}

abbrev pub decreases-loop-at : goal.decreases-loop-at
decreases-loop-at l = length l.line - l.at
