use Rattle.std.proofs.Common.{◌≡◌, ◌≤◌, ◌++◌, List, length, take}
use Rattle.adp_model.specs.PosedProblem.{axiom_cell}
use Rattle.adp_model.specs.Demand.{IsDemanded}
use Rattle.adp_model.specs.Tree.{Tree}
use Rattle.first_trees.specs.FirstTrees.{AreFirst}
use Rattle.first_trees.specs.ListReport.{lines_of}
use Rattle.k_best.specs.GrowingLists.{AreGrowing}
use Rattle.k_best.proofs.grown_report.push_grown_list.Given as goal

abbrev pub invariant-loop-rank : goal.invariant-loop-rank
invariant-loop-rank l =
    (trees : List Tree) × IsDemanded l.basis.lines.now (axiom_cell l.basis.lines.now)
    × AreFirst l.basis.lines.now (axiom_cell l.basis.lines.now) l.basis.k trees
    × AreGrowing l.basis.lines.now l.basis.k l.grown.lists.items × (l.rank ≤ length trees)
    × (l.out.items ≡ l.fn.out.items ++ lines_of l.basis.lines.now (take l.rank trees))
