use Rattle.std.proofs.Common.{◌≡◌, ◌++◌, List, take}
use Rattle.std.specs.List.{AllZip}
use Rattle.adp_model.specs.PosedProblem.{axiom_cell}
use Rattle.adp_model.specs.Demand.{IsDemanded}
use Rattle.adp_model.specs.Tree.{Tree}
use Rattle.first_trees.specs.FirstTrees.{AreFirst}
use Rattle.first_trees.specs.Entries.{IsEntry}
use Rattle.first_trees.specs.ListReport.{lines_of}
use Rattle.k_best.proofs.reports.push_list.Given as goal

abbrev pub invariant-loop-rank : goal.invariant-loop-rank
invariant-loop-rank l =
    (trees : List Tree) × IsDemanded l.problem (axiom_cell l.problem)
    × AreFirst l.problem (axiom_cell l.problem) l.lists.k trees × AllZip (IsEntry l.problem l.lists.k) trees l.entries
    × (l.out.items ≡ l.fn.out.items ++ lines_of l.problem (take l.rank trees))
