use Rattle.std.proofs.Common.{◌≡◌, ℕ, ℤ, pos, ◌<◌, get_or}
use Rattle.split_lines.proofs.classes.is_weightless.Given as goal

-- those so far weigh nothing
abbrev pub invariant-loop-weight : goal.invariant-loop-weight
invariant-loop-weight l = (k : ℕ) (d : ℕ × ℤ) → k < l.weight-index → (get_or l.class k d).1 ≡ pos 0
