use Rattle.std.proofs.Common.{ℕ, ◌<◌}
use Rattle.yield_sizes.specs.Relations.{IsRelated}
use Rattle.yield_sizes.proofs.loops.first_to_itself.Given as goal

abbrev pub invariant-loop-rule : goal.invariant-loop-rule
invariant-loop-rule l = (other : ℕ) → other < l.rule → IsRelated l.rows other other → ⊥
