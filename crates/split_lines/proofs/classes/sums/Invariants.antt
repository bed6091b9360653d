use Rattle.std.proofs.Common.{◌≡◌, ℕ, ◌+◌, ◌≤◌, pos, get_or, length}
use Rattle.split_lines.proofs.ClassFacts.{IsSumOf}
use Rattle.split_lines.proofs.classes.sums.Given as goal

-- the sums so far
abbrev pub invariant-loop-letter : goal.invariant-loop-letter
invariant-loop-letter l = record {
  each : length l.sums.items ≡ l.letter-index + 1;
  now : IsSumOf l.class.class.now l.word l.letter-index l.sum;
  told : (position : ℕ) → position ≤ l.letter-index → IsSumOf l.class.class.now l.word position (get_or l.sums.items position (pos 0));
}
