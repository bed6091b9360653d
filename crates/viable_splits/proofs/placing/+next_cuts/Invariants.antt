use Rattle.std.proofs.Common.{length}
use Rattle.viable_splits.proofs.placing.+next_cuts.Given as goal

abbrev pub decreases-next_cuts : goal.decreases-next_cuts
decreases-next_cuts g l = length l.arguments.now
