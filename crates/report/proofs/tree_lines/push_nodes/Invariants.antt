use Rattle.std.proofs.Common.{◌≡◌, ◌+◌, ◌*◌, ◌++◌, length, vec_len}
use Rattle.adp_model.specs.declared.cell.Cell.{Cell}
use Rattle.adp_model.specs.Derivation.{Derives}
use Rattle.adp_model.specs.Tree.{Tree}
use Rattle.adp_model.specs.TreeText.{tree_text}
use Rattle.traceback.specs.Preorder.{nodes_of}
use Rattle.report.specs.Pieces.{AreTreeNodes, Unwritten}
use Rattle.report.proofs.tree_lines.push_nodes.Given as goal

abbrev pub invariant-loop-piece : goal.invariant-loop-piece
invariant-loop-piece l = record {
  are : AreTreeNodes l.problem l.nodes;
  each : (cell : Cell) (tree : Tree) → Derives l.problem cell tree → l.nodes ≡ nodes_of tree
      → Unwritten l.problem l.out.items l.pieces.items l.rest (l.fn.out.items ++ tree_text l.problem tree);
}

abbrev pub decreases-loop-piece : goal.decreases-loop-piece
decreases-loop-piece l = 8 * length l.rest + vec_len l.pieces
