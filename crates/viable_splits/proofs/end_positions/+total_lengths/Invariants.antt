use Rattle.std.proofs.Common.{length}
use Rattle.viable_splits.proofs.end_positions.+total_lengths.Given as goal

abbrev pub decreases-total_lengths : goal.decreases-total_lengths
decreases-total_lengths l = length l.arguments.now
