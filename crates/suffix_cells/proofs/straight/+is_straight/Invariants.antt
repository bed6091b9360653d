use Rattle.std.proofs.Common.{length}
use Rattle.suffix_cells.proofs.straight.+is_straight.Given as goal

abbrev pub decreases-is_straight : goal.decreases-is_straight
decreases-is_straight l = length l.arguments.now
