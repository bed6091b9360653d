use Rattle.lex_product.specs.CompiledGrammar.{compiled_problem}
use Rattle.lex_product.proofs.OtherAlgebras.{derived_moved, text_same, count_moved}
use Rattle.lex_product.proofs.laws.compiled_algebras_change_scores_alone.Goals as goal

pub returns-clause-trees : goal.returns-clause-trees
returns-clause-trees c p second multiplier cell tree = (
  derived_moved p (compiled_problem p second multiplier).grammar.algebras p.algebra cell tree,
  derived_moved (compiled_problem p second multiplier) p.grammar.algebras p.algebra cell tree,
)

pub returns-clause-texts : goal.returns-clause-texts
returns-clause-texts c p second multiplier tree = text_same p (compiled_problem p second multiplier).grammar.algebras p.algebra tree

pub returns-clause-demanded : goal.returns-clause-demanded
returns-clause-demanded c p second multiplier count = (
  count_moved p (compiled_problem p second multiplier).grammar.algebras p.algebra count,
  count_moved (compiled_problem p second multiplier) p.grammar.algebras p.algebra count,
)
