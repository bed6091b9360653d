-- Nested trees: a leaf is a span of the word, a nested node applies a sign to its children, a rule node applies an
-- alternative of a rule to them.
use Rattle.std.specs.Prelude.{ℕ, List, [], ◌∷◌}

mutual
  pub data NestedTree : Type 0 where
    Leaf : (from to : ℕ) → NestedTree
    NestedNode : (sign from to : ℕ) (children : NestedTrees) → NestedTree
    RuleNode : (rule alternative from to : ℕ) (children : NestedTrees) → NestedTree

  pub data NestedTrees : Type 0 where
    Nil : NestedTrees
    Cons : (first : NestedTree) (others : NestedTrees) → NestedTrees

-- where the tree's span begins
abbrev pub start_of : NestedTree → ℕ
start_of (Leaf from to) = from
start_of (NestedNode sign from to children) = from
start_of (RuleNode rule alternative from to children) = from

-- where the tree's span ends
abbrev pub end_of : NestedTree → ℕ
end_of (Leaf from to) = to
end_of (NestedNode sign from to children) = to
end_of (RuleNode rule alternative from to children) = to

-- where the children's spans end, from left to right
abbrev pub ends_of : NestedTrees → List ℕ
ends_of Nil = []
ends_of (Cons first others) = end_of first ∷ ends_of others
