use Rattle.std.proofs.Common.{length}
use Rattle.k_best.proofs.entry.+ranks_are_less.Given as goal

abbrev pub decreases-ranks_are_less : goal.decreases-ranks_are_less
decreases-ranks_are_less l = length l.first.now
