use Rattle.nested_trees.proofs.Scoring.{text-erased}
use Rattle.nested_trees.proofs.laws.erasing_keeps_texts.Goals as goal

pub returns : goal.returns
returns c = text-erased
