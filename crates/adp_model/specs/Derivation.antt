-- Derivation: which trees a grammar derives for a cell. The source is tree grammars in the sense of
-- Giegerich, Meyer and Steffen, "A discipline of dynamic programming over sequence data", 2004.
use Rattle.std.specs.Prelude.{◌≡◌, ℕ, ◌-◌, ◌<◌, List, [], ◌∷◌, length}
use Rattle.adp_model.specs.declared.grammar.Arg.{Arg}
use Rattle.adp_model.specs.declared.grammar.Arg.TheVariants.{Rule}
use Rattle.adp_model.specs.declared.cell.Cell.{Cell}
use Rattle.adp_model.specs.PosedProblem.{PosedProblem, IsSpan, axiom_cell}
use Rattle.adp_model.specs.Parts.{alternatives_of, alternative_at, arguments_of}
use Rattle.adp_model.specs.Lengths.{AllowsLength}
use Rattle.adp_model.specs.Tokens.{letters_between, Matches}
use Rattle.adp_model.specs.Tree.{Tree, Leaf, Node, Trees, Nil, Cons, end_of}

-- the tree is a leaf that begins here, over letters that the token matches
abbrev pub IsMatchingLeaf : PosedProblem → Arg → ℕ → Tree → Type 0
IsMatchingLeaf p token start (Leaf from to) =
    (from ≡ start) × IsSpan p.word from to × Matches p.grammar token (letters_between p.word from to)
IsMatchingLeaf p token start (Node rule alternative from to children) = ⊥

abbrev mutual
  -- the tree is a node of the cell's rule over the cell's span, with one of the rule's alternatives, which allows the
  -- cell's length
  pub Derives : PosedProblem → Cell → Tree → Type 0
  Derives p cell (Leaf from to) = ⊥
  Derives p cell (Node rule alternative from to children) =
      (rule ≡ cell.rule) × (from ≡ cell.from) × (to ≡ cell.to) × IsSpan p.word cell.from cell.to
      × (alternative < length (alternatives_of p.grammar cell.rule))
      × DeriveArguments p (arguments_of p.grammar cell.rule alternative) cell.from cell.to children
      × AllowsLength (alternative_at p.grammar cell.rule alternative) (cell.to - cell.from)

  -- one child for each argument, from left to right, each beginning where the one before it ends
  pub DeriveArguments : PosedProblem → List Arg → ℕ → ℕ → Trees → Type 0
  DeriveArguments p [] from to Nil = from ≡ to
  DeriveArguments p [] from to (Cons first others) = ⊥
  DeriveArguments p (argument ∷ arguments) from to Nil = ⊥
  DeriveArguments p (Rule rule ∷ arguments) from to (Cons first others) =
      Derives p (record { rule = rule; from = from; to = end_of first }) first
      × DeriveArguments p arguments (end_of first) to others
  DeriveArguments p (token ∷ arguments) from to (Cons first others) =
      IsMatchingLeaf p token from first × DeriveArguments p arguments (end_of first) to others

-- a tree that is derived for the axiom and the whole word
abbrev pub IsCandidate : PosedProblem → Tree → Type 0
IsCandidate p tree = Derives p (axiom_cell p) tree
