use Rattle.std.proofs.Common.{length}
use Rattle.row_scores.proofs.through.+go_through.Given as goal

abbrev pub decreases-go_through : goal.decreases-go_through
decreases-go_through g l = length l.arguments.now
