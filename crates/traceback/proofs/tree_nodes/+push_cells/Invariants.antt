use Rattle.std.proofs.Common.{length}
use Rattle.traceback.proofs.tree_nodes.+push_cells.Given as goal

abbrev pub decreases-push_cells : goal.decreases-push_cells
decreases-push_cells l = length l.arguments.now
