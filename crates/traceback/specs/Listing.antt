-- The list of nodes while it is made: what stands in it, and what a stack of cells still leads to.
use Rattle.std.specs.Prelude.{◌≡◌, ◌≤◌, ◌⊎◌, List, [], ◌∷◌, ◌++◌, length}
use Rattle.adp_model.specs.declared.cell.Cell.{Cell}
use Rattle.adp_model.specs.PosedProblem.{PosedProblem, axiom_cell}
use Rattle.adp_model.specs.Tree.{Tree, node_count}
use Rattle.adp_model.specs.Derivation.{Derives}
use Rattle.adp_model.specs.Sizes.{IsWithinSizes}
use Rattle.adp_model.specs.Preference.{IsPreferred}
use Rattle.adp_model.specs.Answers.{HasNoTree}
use Rattle.adp_model.specs.Demand.{IsDemanded}
use Rattle.adp_model.specs.ProblemFields.{most_nodes}
use Rattle.traceback.specs.declared.tree_nodes.NodeAt.{NodeAt}
use Rattle.traceback.specs.Preorder.{nodes_of}

-- the stack, from its bottom, holds demanded cells with preferred trees, whose nodes are still to be listed, the top's
-- first
abbrev pub Remaining : PosedProblem → List Cell → List NodeAt → Type 0
Remaining p [] rest = rest ≡ []
Remaining p (cell ∷ cells) rest =
    (tree : Tree) × (before : List NodeAt) × IsDemanded p cell × IsPreferred p cell tree × Remaining p cells before
    × (rest ≡ before ++ nodes_of tree)

-- the nodes of the whole word's preferred tree are those that are listed and those that remain
pub record Listed (p : PosedProblem) (nodes : List NodeAt) (open_cells : List Cell) : Type 0 where
  pub tree : Tree
  pub rest : List NodeAt
  pub preferred : IsPreferred p (axiom_cell p) tree
  pub remaining : Remaining p open_cells rest
  pub nodes_are : nodes_of tree ≡ nodes ++ rest
  pub short : length (nodes_of tree) ≤ most_nodes

-- a list that is being made, or an empty one where nothing is derived
abbrev pub IsListing : PosedProblem → List NodeAt → List Cell → Type 0
IsListing p nodes open_cells =
    Listed p nodes open_cells ⊎ (HasNoTree p (axiom_cell p) × (nodes ≡ []) × (open_cells ≡ []))

-- a demanded cell with a preferred tree
pub record IsTop (p : PosedProblem) (cell : Cell) : Type 0 where
  pub tree : Tree
  pub demanded : IsDemanded p cell
  pub preferred : IsPreferred p cell tree

-- what is known of the trees of the whole word
pub record WholeTrees (p : PosedProblem) : Type 0 where
  pub within : (tree : Tree) → Derives p (axiom_cell p) tree
      → IsWithinSizes p.grammar p.grammar.axiom (length p.word)
  pub short : (tree : Tree) → Derives p (axiom_cell p) tree → node_count tree ≤ most_nodes
