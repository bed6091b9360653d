-- The text of a nested tree: signs with their children in brackets, leaves as quoted letters.
use Rattle.std.specs.Prelude.{ℕ, List, [], ◌∷◌, ◌++◌}
use Rattle.adp_model.specs.Ascii.{closing_bracket, comma, opening_bracket}
use Rattle.adp_model.specs.PosedProblem.{PosedProblem}
use Rattle.adp_model.specs.Parts.{alternative_at, sign_at}
use Rattle.adp_model.specs.Tokens.{letters_between}
use Rattle.adp_model.specs.TreeText.{quoted}
use Rattle.nested_trees.specs.NestedTree.{NestedTree, Leaf, NestedNode, RuleNode, NestedTrees, Nil, Cons}

abbrev mutual
  -- a leaf is its letters in quotes; a node is its sign's name and its children, `name(first,second)`
  pub nested_text : PosedProblem → NestedTree → List ℕ
  nested_text p (Leaf from to) = quoted (letters_between p.word from to)
  nested_text p (NestedNode sign from to children) =
      (sign_at p.grammar sign).name ++ opening_bracket ∷ nested_children_text p children ++ closing_bracket ∷ []
  nested_text p (RuleNode rule alternative from to children) =
      (sign_at p.grammar (alternative_at p.grammar rule alternative).sign).name
      ++ opening_bracket ∷ nested_children_text p children ++ closing_bracket ∷ []

  -- the children's texts with a comma between two
  pub nested_children_text : PosedProblem → NestedTrees → List ℕ
  nested_children_text p Nil = []
  nested_children_text p (Cons first others) = nested_text p first ++ nested_further_text p others

  pub nested_further_text : PosedProblem → NestedTrees → List ℕ
  nested_further_text p Nil = []
  nested_further_text p (Cons first others) = comma ∷ nested_text p first ++ nested_further_text p others
