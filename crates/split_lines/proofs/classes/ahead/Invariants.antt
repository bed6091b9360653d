use Rattle.std.proofs.Common.{◌≡◌, ℕ, ◌+◌, ◌≤◌, get_or, length}
use Rattle.split_lines.proofs.ClassFacts.{IsLastOf}
use Rattle.split_lines.proofs.classes.ahead.Given as goal

-- the last positions so far
abbrev pub invariant-loop-position : goal.invariant-loop-position
invariant-loop-position l = record {
  each : length l.ahead.items ≡ length l.word + 1;
  told : (from : ℕ) → l.position ≤ from → from ≤ length l.word → IsLastOf l.class.class.now l.word from (get_or l.ahead.items from 0);
}
