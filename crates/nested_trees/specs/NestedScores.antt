-- Scores of nested trees under a problem's algebra. A nested node holds its sign alone, so what its children are worth
-- is asked of the pattern that it meets.
use Rattle.std.specs.Prelude.{ℤ, pos, List, [], ◌∷◌}
use Rattle.adp_model.specs.declared.grammar.Arg.TheVariants.{Rule}
use Rattle.adp_model.specs.Parts.{term_for, term_of}
use Rattle.adp_model.specs.Tokens.{letters_between, token_value}
use Rattle.adp_model.specs.Terms.{term_value}
use Rattle.nested_trees.specs.Patterns.{Pattern, Plain, Nested, Patterns, NoPatterns, FirstPattern, NestedProblem}
use Rattle.nested_trees.specs.NestedTree.{NestedTree, Leaf, NestedNode, RuleNode, NestedTrees, Nil, Cons, start_of, end_of}

-- the patterns under the sign of a pattern
abbrev pub inner_patterns : Pattern → Patterns
inner_patterns (Plain argument) = NoPatterns
inner_patterns (Nested sign inner) = inner

abbrev mutual
  -- of a tree that meets the pattern: the algebra's term for the node's sign, at the values of its children
  pub nested_score : NestedProblem → Pattern → NestedTree → ℤ
  nested_score q pattern (Leaf from to) = pos 0
  nested_score q pattern (NestedNode sign from to children) =
      term_value (term_for q.plain.grammar q.plain.algebra sign) (nested_values q (inner_patterns pattern) children)
  nested_score q pattern (RuleNode rule alternative from to children) =
      term_value (term_of q.plain rule alternative) (nested_values q (q.patterns rule alternative) children)

  -- the value of the child of each pattern: what its letters are worth for a token, its score for a sign or a rule
  pub nested_values : NestedProblem → Patterns → NestedTrees → List ℤ
  nested_values q NoPatterns children = []
  nested_values q (FirstPattern pattern rest) Nil = []
  nested_values q (FirstPattern (Nested sign inner) rest) (Cons first others) =
      nested_score q (Nested sign inner) first ∷ nested_values q rest others
  nested_values q (FirstPattern (Plain (Rule rule)) rest) (Cons first others) =
      nested_score q (Plain (Rule rule)) first ∷ nested_values q rest others
  nested_values q (FirstPattern (Plain token) rest) (Cons first others) =
      token_value q.plain.grammar token (letters_between q.plain.word (start_of first) (end_of first))
      ∷ nested_values q rest others
