use Rattle.nested_trees.proofs.Scoring.{score-erased}
use Rattle.nested_trees.proofs.laws.erasing_keeps_scores.Goals as goal

pub returns : goal.returns
returns c = score-erased
