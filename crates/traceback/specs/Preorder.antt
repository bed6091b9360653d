-- The nodes of a tree in preorder: a node before those of its children, and these from left to right.
use Rattle.std.specs.Prelude.{◌≡◌, ◌⊎◌, List, [], ◌∷◌, ◌++◌}
use Rattle.adp_model.specs.declared.grammar.Arg.{Arg}
use Rattle.adp_model.specs.declared.grammar.Arg.TheVariants.{Rule}
use Rattle.adp_model.specs.declared.cell.Cell.{Cell}
use Rattle.adp_model.specs.PosedProblem.{PosedProblem, axiom_cell}
use Rattle.adp_model.specs.Tree.{Tree, Leaf, Node, Trees, Nil, Cons}
use Rattle.adp_model.specs.Preference.{cuts_of, IsPreferred}
use Rattle.adp_model.specs.Answers.{HasNoTree}
use Rattle.adp_model.specs.Splits.{Placed}
use Rattle.traceback.specs.declared.tree_nodes.NodeAt.{NodeAt}

abbrev mutual
  pub nodes_of : Tree → List NodeAt
  nodes_of (Leaf from to) = []
  nodes_of (Node rule alternative from to children) =
      record {
        cell = record { rule = rule; from = from; to = to };
        choice = record { alt = alternative; cuts = cuts_of to children };
      } ∷ nodes_of_all children

  -- the nodes of trees, from left to right
  pub nodes_of_all : Trees → List NodeAt
  nodes_of_all Nil = []
  nodes_of_all (Cons first others) = nodes_of first ++ nodes_of_all others

-- the nodes of the preferred tree of the whole word, or none where nothing is derived
abbrev pub IsPreorder : PosedProblem → List NodeAt → Type 0
IsPreorder p nodes =
    ((tree : Tree) × IsPreferred p (axiom_cell p) tree × (nodes ≡ nodes_of tree))
    ⊎ (HasNoTree p (axiom_cell p) × (nodes ≡ []))

-- the cell of an argument that is a rule
abbrev pub cell_of : Placed → List Cell
cell_of placed = of placed.argument
  where
    of : Arg → List Cell
    of (Rule rule) = record { rule = rule; from = placed.from; to = placed.to } ∷ []
    of token = []

-- the cells of the arguments that are rules, from right to left
abbrev pub stacked : List Placed → List Cell
stacked [] = []
stacked (placed ∷ others) = stacked others ++ cell_of placed
