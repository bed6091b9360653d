use Rattle.std.proofs.Common.{◌+◌, ◌-◌, vec_len}
use Rattle.adp_model.specs.ProblemFields.{most_nodes}
use Rattle.traceback.specs.Listing.{IsListing}
use Rattle.traceback.proofs.tree_nodes.preorder.Given as goal

abbrev pub invariant-loop-cell : goal.invariant-loop-cell
invariant-loop-cell g l = IsListing l.problem l.nodes.items l.waiting.items

abbrev pub decreases-loop-cell : goal.decreases-loop-cell
decreases-loop-cell g l = most_nodes + 1 - vec_len l.nodes
