use Rattle.std.proofs.Common.{length}
use Rattle.k_best.proofs.ranked.+split_at.Given as goal

abbrev pub decreases-split_at : goal.decreases-split_at
decreases-split_at l = length l.arguments.now
