use Rattle.std.proofs.Common.{length}
use Rattle.suffix_cells.proofs.marking.+mark_rest.Given as goal

abbrev pub decreases-mark_rest : goal.decreases-mark_rest
decreases-mark_rest l = length l.arguments.now
