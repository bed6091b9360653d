use Rattle.std.proofs.Common.{ℕ, ◌+◌, ◌<◌}
use Rattle.viable_splits.specs.Placing.{Cover}
use Rattle.split_lines.proofs.matches.match_nowhere.Given as goal

-- at no position so far they match
abbrev pub invariant-loop-position : goal.invariant-loop-position
invariant-loop-position l = (at : ℕ) → at < l.position → Cover l.tables l.tokens at (at + l.width) → ⊥
