use Rattle.std.proofs.Common.{length}
use Rattle.report.proofs.tree_lines.+push_children.Given as goal

abbrev pub decreases-push_children : goal.decreases-push_children
decreases-push_children l = length l.arguments.now
