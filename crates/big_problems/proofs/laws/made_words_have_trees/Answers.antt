use Rattle.big_problems.proofs.MadeTrees.{has_tree}
use Rattle.big_problems.proofs.laws.made_words_have_trees.Goals as goal

pub returns : goal.returns
returns c = has_tree
