use Rattle.std.proofs.Common.{arith}
use Rattle.std.proofs.lemmas.Grind.{common_steps}
use Rattle.report.proofs.Children.{child_pieces-none}
use Rattle.report.proofs.tree_lines.+push_children.Goals as goal

pub returns-in_default-empty : goal.returns-in_default-empty
returns-in_default-empty t c = grind (arith, common_steps, child_pieces-none c.args.arguments.now c.args.from)
