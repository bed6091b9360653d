use Rattle.std.proofs.Common.{arith}
use Rattle.std.proofs.lemmas.Grind.{common_steps}
use Rattle.traceback.proofs.Stacking.{stacked-none}
use Rattle.traceback.proofs.tree_nodes.+push_cells.Goals as goal

pub returns-in_default-empty : goal.returns-in_default-empty
returns-in_default-empty t c = grind (arith, common_steps, stacked-none c.args.arguments.now c.args.from)
