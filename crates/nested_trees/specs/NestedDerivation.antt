-- Nested derivation: which nested trees a nested grammar derives for a cell.
use Rattle.std.specs.Prelude.{◌≡◌, ℕ, ◌-◌, ◌<◌, length}
use Rattle.adp_model.specs.declared.grammar.Arg.{Arg}
use Rattle.adp_model.specs.declared.grammar.Arg.TheVariants.{Rule}
use Rattle.adp_model.specs.declared.cell.Cell.{Cell}
use Rattle.adp_model.specs.PosedProblem.{IsSpan, axiom_cell}
use Rattle.adp_model.specs.Parts.{alternatives_of, alternative_at}
use Rattle.adp_model.specs.Lengths.{AllowsLength}
use Rattle.adp_model.specs.Tokens.{letters_between, Matches}
use Rattle.nested_trees.specs.Patterns.{Plain, Nested, Patterns, NoPatterns, FirstPattern, NestedProblem}
use Rattle.nested_trees.specs.NestedTree.{NestedTree, Leaf, NestedNode, RuleNode, NestedTrees, Nil, Cons, end_of}

-- the tree is a leaf that begins here, over letters that the token matches
abbrev pub IsMatchingLeaf : NestedProblem → Arg → ℕ → NestedTree → Type 0
IsMatchingLeaf q token start (Leaf from to) =
    (from ≡ start) × IsSpan q.plain.word from to × Matches q.plain.grammar token (letters_between q.plain.word from to)
IsMatchingLeaf q token start (NestedNode sign from to children) = ⊥
IsMatchingLeaf q token start (RuleNode rule alternative from to children) = ⊥

abbrev mutual
  -- the tree is a node of the cell's rule over the cell's span, with one of the rule's alternatives, which allows the
  -- cell's length
  pub DerivesNested : NestedProblem → Cell → NestedTree → Type 0
  DerivesNested q cell (Leaf from to) = ⊥
  DerivesNested q cell (NestedNode sign from to children) = ⊥
  DerivesNested q cell (RuleNode rule alternative from to children) =
      (rule ≡ cell.rule) × (from ≡ cell.from) × (to ≡ cell.to) × IsSpan q.plain.word cell.from cell.to
      × (alternative < length (alternatives_of q.plain.grammar cell.rule))
      × MeetPatterns q (q.patterns cell.rule alternative) cell.from cell.to children
      × AllowsLength (alternative_at q.plain.grammar cell.rule alternative) (cell.to - cell.from)

  -- the tree is a nested node of the sign that begins here, and its children meet the patterns
  pub MeetsSign : NestedProblem → ℕ → Patterns → ℕ → NestedTree → Type 0
  MeetsSign q sign inner start (Leaf from to) = ⊥
  MeetsSign q sign inner start (NestedNode given from to children) =
      (given ≡ sign) × (from ≡ start) × IsSpan q.plain.word from to × MeetPatterns q inner from to children
  MeetsSign q sign inner start (RuleNode rule alternative from to children) = ⊥

  -- one child for each pattern, from left to right, each beginning where the one before it ends
  pub MeetPatterns : NestedProblem → Patterns → ℕ → ℕ → NestedTrees → Type 0
  MeetPatterns q NoPatterns from to Nil = from ≡ to
  MeetPatterns q NoPatterns from to (Cons first others) = ⊥
  MeetPatterns q (FirstPattern pattern rest) from to Nil = ⊥
  MeetPatterns q (FirstPattern (Nested sign inner) rest) from to (Cons first others) =
      MeetsSign q sign inner from first × MeetPatterns q rest (end_of first) to others
  MeetPatterns q (FirstPattern (Plain (Rule rule)) rest) from to (Cons first others) =
      DerivesNested q (record { rule = rule; from = from; to = end_of first }) first
      × MeetPatterns q rest (end_of first) to others
  MeetPatterns q (FirstPattern (Plain token) rest) from to (Cons first others) =
      IsMatchingLeaf q token from first × MeetPatterns q rest (end_of first) to others

-- a nested tree that is derived for the axiom and the whole word
abbrev pub IsNestedCandidate : NestedProblem → NestedTree → Type 0
IsNestedCandidate q tree = DerivesNested q (axiom_cell q.plain) tree
