use Rattle.std.proofs.Common.{◌≡◌, ◌+◌, ◌-◌, ◌≤◌, ◌++◌, List, length, vec_len}
use Rattle.adp_model.specs.PosedProblem.{axiom_cell}
use Rattle.adp_model.specs.ProblemFields.{most_nodes}
use Rattle.adp_model.specs.Tree.{Tree}
use Rattle.first_trees.specs.FirstTrees.{HasPlace}
use Rattle.traceback.specs.declared.tree_nodes.NodeAt.{NodeAt}
use Rattle.traceback.specs.Preorder.{nodes_of}
use Rattle.k_best.specs.GrowingLists.{AreGrowing}
use Rattle.k_best.specs.ListedNodes.{IsUnlisted}
use Rattle.k_best.proofs.grown_trees.grown_nodes.Given as goal

abbrev pub invariant-loop-listed : goal.invariant-loop-listed
invariant-loop-listed l =
    (tree : Tree) × (rest : List NodeAt)
    × HasPlace l.basis.lines.now l.basis.k (axiom_cell l.basis.lines.now) tree l.rank
    × IsUnlisted l.basis.lines.now l.basis.k l.waiting.items rest × (nodes_of tree ≡ l.nodes.items ++ rest)
    × (length (nodes_of tree) ≤ most_nodes) × AreGrowing l.basis.lines.now l.basis.k l.grown.lists.items

abbrev pub decreases-loop-listed : goal.decreases-loop-listed
decreases-loop-listed l = most_nodes + 1 - vec_len l.nodes
