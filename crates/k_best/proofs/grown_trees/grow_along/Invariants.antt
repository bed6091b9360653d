use Rattle.k_best.specs.GrowingLists.{AreGrowing}
use Rattle.k_best.proofs.grown_trees.grow_along.Given as goal

abbrev pub invariant-loop-number : goal.invariant-loop-number
invariant-loop-number l = AreGrowing l.basis.lines.now l.basis.k l.grown.lists.items
