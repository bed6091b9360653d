use Rattle.nested_trees.proofs.Ordering.{before-erased}
use Rattle.nested_trees.proofs.laws.erasing_keeps_the_order.Goals as goal

pub returns : goal.returns
returns c = before-erased
