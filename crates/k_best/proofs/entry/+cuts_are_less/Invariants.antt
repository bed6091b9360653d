use Rattle.std.proofs.Common.{length}
use Rattle.k_best.proofs.entry.+cuts_are_less.Given as goal

abbrev pub decreases-cuts_are_less : goal.decreases-cuts_are_less
decreases-cuts_are_less l = length l.first.now
