use Rattle.std.proofs.Common.{length}
use Rattle.k_best.proofs.listed_trees.+push_listed.Given as goal

abbrev pub decreases-push_listed : goal.decreases-push_listed
decreases-push_listed l = length l.arguments.now
