use Rattle.adp_model.proofs.PlacedChildren.{children_placed}
use Rattle.adp_model.proofs.laws.derivation.children_are_placed.Goals as goal

pub returns : goal.returns
returns c = children_placed
