use Rattle.report.proofs.Writing.{begun}
use Rattle.report.proofs.tree_lines.push_nodes.Goals as goal

pub loop-piece-init : goal.loop-piece-init
loop-piece-init c = record {
  are = c.requires;
  each = λ cell tree derived are.
      begun c.args.problem.now c.args.out.now.items c.in_ok-pieces.pieces.items c.args.nodes.now c.in_ok-pieces.ensures.items cell tree derived are;
}
