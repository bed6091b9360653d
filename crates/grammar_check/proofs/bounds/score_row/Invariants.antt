use Rattle.std.proofs.Common.{◌≡◌, ℕ, ◌+◌, ◌<◌, length, slice_index}
use Rattle.grammar_check.specs.KeptPlans.{rule_tokens}
use Rattle.grammar_check.specs.TokenNumbers.{greatest_of}
use Rattle.grammar_check.proofs.ScoreRows.{cut_number}
use Rattle.grammar_check.proofs.bounds.score_row.Given as goal

abbrev pub invariant-loop-len : goal.invariant-loop-len
invariant-loop-len l = record {
  each : length l.row.items ≡ l.len;
  greatest : l.greatest ≡ cut_number l.filled.table (λ len. greatest_of (rule_tokens len) l.filled.plans.items) l.len;
  entries : (at : ℕ) → at < l.len → slice_index l.row.items at ≡ cut_number l.filled.table (λ len. greatest_of (rule_tokens len) l.filled.plans.items) (at + 1);
}
