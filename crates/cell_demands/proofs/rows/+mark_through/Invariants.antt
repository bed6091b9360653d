use Rattle.std.proofs.Common.{length}
use Rattle.cell_demands.proofs.rows.+mark_through.Given as goal

abbrev pub decreases-mark_through : goal.decreases-mark_through
decreases-mark_through l = length l.arguments.now
