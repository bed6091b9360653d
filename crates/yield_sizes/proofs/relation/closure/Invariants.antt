use Rattle.std.proofs.Common.{length}
use Rattle.yield_sizes.proofs.Closures.{IsClosing}
use Rattle.yield_sizes.proofs.relation.closure.Given as goal

abbrev pub invariant-loop-between : goal.invariant-loop-between
invariant-loop-between l = IsClosing (length l.initial.rows.items) l.initial.rows.items l.rows.items l.between
