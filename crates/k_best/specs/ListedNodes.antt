-- The nodes of listed trees while they are listed: what a stack of places still leads to.
use Rattle.std.specs.Prelude.{◌≡◌, ℕ, ℤ, List, [], ◌∷◌, ◌++◌}
use Rattle.adp_model.specs.declared.grammar.Arg.{Arg}
use Rattle.adp_model.specs.declared.grammar.Arg.TheVariants.{Rule}
use Rattle.adp_model.specs.declared.cell.Cell.{Cell}
use Rattle.adp_model.specs.PosedProblem.{PosedProblem, axiom_cell}
use Rattle.adp_model.specs.Demand.{IsDemanded}
use Rattle.adp_model.specs.Derivation.{Derives}
use Rattle.adp_model.specs.Splits.{IsViable, Placed}
use Rattle.adp_model.specs.Tree.{Tree}
use Rattle.adp_model.specs.Scores.{score_of}
use Rattle.first_trees.specs.FirstTrees.{HasPlace}
use Rattle.first_trees.specs.Entries.{Entry, IsEntry}
use Rattle.traceback.specs.declared.tree_nodes.NodeAt.{NodeAt}
use Rattle.traceback.specs.Preorder.{nodes_of}
use Rattle.k_best.specs.declared.listed_trees.Listed.{Listed}

-- where the argument is a rule its listed tree, behind what the others lead to, else these alone; the others have the
-- other ranks
abbrev pub with_listed : Placed → (List ℕ → List Listed) → List ℕ → List Listed
with_listed placed others ranks = with placed.argument ranks
  where
    with : Arg → List ℕ → List Listed
    with (Rule rule) [] = []
    with (Rule rule) (rank ∷ ranks) =
        others ranks ++ record { cell = record { rule = rule; from = placed.from; to = placed.to }; rank = rank } ∷ []
    with token ranks = others ranks

-- the listed trees of the rules among the arguments, from right to left, with the ranks from left to right
abbrev pub stacked : List Placed → List ℕ → List Listed
stacked [] ranks = []
stacked (placed ∷ others) ranks = with_listed placed (stacked others) ranks

-- the stack, from its bottom, holds places of trees of demanded cells, whose nodes are still to be listed, the top's
-- first
abbrev pub IsUnlisted : PosedProblem → ℕ → List Listed → List NodeAt → Type 0
IsUnlisted p k [] rest = rest ≡ []
IsUnlisted p k (listed ∷ stack) rest =
    (tree : Tree) × (before : List NodeAt) × IsDemanded p listed.cell × HasPlace p k listed.cell tree listed.rank
    × IsUnlisted p k stack before × (rest ≡ before ++ nodes_of tree)

-- the entry is that of the tree, which is derived for the cell by a viable split
pub record IsRootOf (p : PosedProblem) (k : ℕ) (cell : Cell) (tree : Tree) (entry : Entry) : Type 0 where
  pub derived : Derives p cell tree
  pub is : IsEntry p k tree entry
  pub viable : IsViable p cell entry.choice.alt entry.choice.cuts

-- one node more stands in the list, the first of those that were still to be listed, and the stack leads to the others
pub record IsListedMore (p : PosedProblem) (k : ℕ) (old new : List NodeAt) (stack : List Listed) (rest : List NodeAt)
    : Type 0 where
  pub node : NodeAt
  pub others : List NodeAt
  pub nodes_are : new ≡ old ++ node ∷ []
  pub rest_is : rest ≡ node ∷ others
  pub unlisted : IsUnlisted p k stack others

-- the nodes are those of this tree of the whole word, and the score is its score
pub record AreScoredNodes (p : PosedProblem) (tree : Tree) (score : ℤ) (nodes : List NodeAt) : Type 0 where
  pub derived : Derives p (axiom_cell p) tree
  pub scored : score ≡ score_of p tree
  pub nodes_are : nodes ≡ nodes_of tree
