-- The order of preference among the nested trees of one cell, and its first tree: as that of plain trees, where a
-- nested node counts as the alternative 0.
use Rattle.std.specs.Prelude.{◌≡◌, ℕ, ◌<◌, ℤ, ◌⊎◌, List, [], ◌∷◌, ◌++◌, take}
use Rattle.adp_model.specs.declared.grammar.Goal.{Goal}
use Rattle.adp_model.specs.declared.grammar.Arg.TheVariants.{Rule}
use Rattle.adp_model.specs.declared.cell.Cell.{Cell}
use Rattle.adp_model.specs.Parts.{algebra_of}
use Rattle.adp_model.specs.Scores.{IsBetter}
use Rattle.adp_model.specs.Preference.{LexicographicallyLess}
use Rattle.nested_trees.specs.Patterns.{Pattern, Plain, Patterns, NoPatterns, FirstPattern, NestedProblem}
use Rattle.nested_trees.specs.NestedTree.{NestedTree, Leaf, NestedNode, RuleNode, NestedTrees, Nil, Cons, ends_of}
use Rattle.nested_trees.specs.NestedDerivation.{DerivesNested}
use Rattle.nested_trees.specs.NestedScores.{inner_patterns, nested_score}

-- the inner boundaries of children that end at `to`; the three places that are left over hold `to`
abbrev pub nested_cuts_of : ℕ → NestedTrees → List ℕ
nested_cuts_of to children = take 3 (ends_of children ++ to ∷ to ∷ to ∷ [])

-- of two nodes with these scores, alternatives and cuts: a better score; then the earlier alternative; then the
-- lexicographically lesser cuts; then what their children say
abbrev pub NodePrecedes : Goal → (score score' : ℤ) (alternative alternative' : ℕ) (cuts cuts' : List ℕ) → Type 0
    → Type 0
NodePrecedes goal score score' alternative alternative' cuts cuts' ChildrenPrecede =
    IsBetter goal score score'
    ⊎ ((score ≡ score')
    × ((alternative < alternative')
    ⊎ ((alternative ≡ alternative')
    × (LexicographicallyLess cuts cuts'
    ⊎ ((cuts ≡ cuts')
    × ChildrenPrecede)))))

abbrev mutual
  -- of two trees that meet the pattern, and so have nodes of one kind
  pub PrecedesNested : NestedProblem → Pattern → NestedTree → NestedTree → Type 0
  PrecedesNested q pattern (Leaf from to) second = ⊥
  PrecedesNested q pattern (NestedNode sign from to children) (Leaf from' to') = ⊥
  PrecedesNested q pattern (NestedNode sign from to children) (NestedNode sign' from' to' children') =
      NodePrecedes (algebra_of q.plain).goal
      (nested_score q pattern (NestedNode sign from to children))
      (nested_score q pattern (NestedNode sign' from' to' children'))
      0 0 (nested_cuts_of to children) (nested_cuts_of to' children')
      (FirstDifferencePrecedesNested q (inner_patterns pattern) children children')
  PrecedesNested q pattern (NestedNode sign from to children) (RuleNode rule alternative from' to' children') = ⊥
  PrecedesNested q pattern (RuleNode rule alternative from to children) (Leaf from' to') = ⊥
  PrecedesNested q pattern (RuleNode rule alternative from to children) (NestedNode sign from' to' children') = ⊥
  PrecedesNested q pattern (RuleNode rule alternative from to children)
      (RuleNode rule' alternative' from' to' children') =
      NodePrecedes (algebra_of q.plain).goal
      (nested_score q pattern (RuleNode rule alternative from to children))
      (nested_score q pattern (RuleNode rule' alternative' from' to' children'))
      alternative alternative' (nested_cuts_of to children) (nested_cuts_of to' children')
      (FirstDifferencePrecedesNested q (q.patterns rule alternative) children children')

  -- at the first child that differs, the child precedes
  pub FirstDifferencePrecedesNested : NestedProblem → Patterns → NestedTrees → NestedTrees → Type 0
  FirstDifferencePrecedesNested q NoPatterns children others = ⊥
  FirstDifferencePrecedesNested q (FirstPattern pattern rest) Nil others = ⊥
  FirstDifferencePrecedesNested q (FirstPattern pattern rest) (Cons x xs) Nil = ⊥
  FirstDifferencePrecedesNested q (FirstPattern pattern rest) (Cons x xs) (Cons y ys) =
      PrecedesNested q pattern x y ⊎ ((x ≡ y) × FirstDifferencePrecedesNested q rest xs ys)

-- the order of preference among the nested trees of a cell, which meet the pattern that names its rule
abbrev pub IsNestedBefore : NestedProblem → Cell → NestedTree → NestedTree → Type 0
IsNestedBefore q cell = PrecedesNested q (Plain (Rule cell.rule))

-- the nested tree is derived for the cell, and no other that is derived for it is before this one
pub record IsNestedPreferred (q : NestedProblem) (cell : Cell) (tree : NestedTree) : Type 0 where
  pub derived : DerivesNested q cell tree
  pub first : (other : NestedTree) → DerivesNested q cell other → IsNestedBefore q cell other tree → ⊥

-- no nested tree is derived for the cell
abbrev pub HasNoNestedTree : NestedProblem → Cell → Type 0
HasNoNestedTree q cell = (tree : NestedTree) → DerivesNested q cell tree → ⊥
