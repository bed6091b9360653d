-- Erasing hidden rules: from the trees of the plain grammar to nested trees, and back.
use Rattle.std.specs.Prelude.{ℕ, if◌then◌else◌, List, [], ◌∷◌}
use Rattle.adp_model.specs.declared.grammar.Arg.{Arg}
use Rattle.adp_model.specs.declared.grammar.Arg.TheVariants.{Rule}
use Rattle.adp_model.specs.declared.grammar.Grammar.{Grammar}
use Rattle.adp_model.specs.Parts.{alternative_at, arguments_of}
use Rattle.adp_model.specs.Tree as plain
use Rattle.nested_trees.specs.HiddenRules.{is_hidden}
use Rattle.nested_trees.specs.NestedTree.{NestedTree, Leaf, NestedNode, RuleNode, NestedTrees, Nil, Cons}

abbrev mutual
  -- below the root the node of a hidden rule becomes a nested node of its alternative's sign
  pub erased_below : Grammar → ℕ → plain.Tree → NestedTree
  erased_below grammar hidden (plain.Leaf from to) = Leaf from to
  erased_below grammar hidden (plain.Node rule alternative from to children) =
      if is_hidden grammar hidden rule
      then NestedNode (alternative_at grammar rule alternative).sign from to (erased_children grammar hidden children)
      else RuleNode rule alternative from to (erased_children grammar hidden children)

  pub erased_children : Grammar → ℕ → plain.Trees → NestedTrees
  erased_children grammar hidden plain.Nil = Nil
  erased_children grammar hidden (plain.Cons first others) =
      Cons (erased_below grammar hidden first) (erased_children grammar hidden others)

-- hidden rules are erased everywhere but at the root
abbrev pub erased : Grammar → ℕ → plain.Tree → NestedTree
erased grammar hidden (plain.Leaf from to) = Leaf from to
erased grammar hidden (plain.Node rule alternative from to children) =
    RuleNode rule alternative from to (erased_children grammar hidden children)

-- the rule that an argument names; any number for a token
abbrev pub named_rule : Arg → ℕ
named_rule (Rule rule) = rule
named_rule token = 0

abbrev mutual
  -- the plain tree of a rule's cell, from its nested tree: a nested node was one of the rule's only alternative
  pub restored : Grammar → ℕ → NestedTree → plain.Tree
  restored grammar rule (Leaf from to) = plain.Leaf from to
  restored grammar rule (NestedNode sign from to children) =
      plain.Node rule 0 from to (restored_children grammar (arguments_of grammar rule 0) children)
  restored grammar rule (RuleNode own alternative from to children) =
      plain.Node own alternative from to (restored_children grammar (arguments_of grammar own alternative) children)

  pub restored_children : Grammar → List Arg → NestedTrees → plain.Trees
  restored_children grammar arguments Nil = plain.Nil
  restored_children grammar [] (Cons first others) = plain.Nil
  restored_children grammar (argument ∷ arguments) (Cons first others) =
      plain.Cons (restored grammar (named_rule argument) first) (restored_children grammar arguments others)
