use Rattle.std.proofs.Common.{◌≡◌, ℕ, ◌+◌, ◌≤◌, get_or, length}
use Rattle.split_lines.proofs.ClassFacts.{IsFirstOf}
use Rattle.split_lines.proofs.classes.behind.Given as goal

-- the first positions so far
abbrev pub invariant-loop-position : goal.invariant-loop-position
invariant-loop-position l = record {
  each : length l.behind.items ≡ l.position + 1;
  now : IsFirstOf l.class.class.now l.word l.position l.first;
  told : (to : ℕ) → to ≤ l.position → IsFirstOf l.class.class.now l.word to (get_or l.behind.items to 0);
}
