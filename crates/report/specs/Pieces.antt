-- The text of a tree while it is written: the pieces that wait on a stack, and what they and the nodes that were not
-- taken yet stand for.
use Rattle.std.specs.Prelude.{◌≡◌, ℕ, List, [], ◌∷◌, ◌++◌, codes}
use Rattle.adp_model.specs.Ascii.{closing_bracket, comma}
use Rattle.adp_model.specs.declared.grammar.Arg.{Arg}
use Rattle.adp_model.specs.declared.grammar.Arg.TheVariants.{Rule}
use Rattle.adp_model.specs.declared.cell.Cell.{Cell}
use Rattle.adp_model.specs.PosedProblem.{PosedProblem, IsSpan, axiom_cell}
use Rattle.adp_model.specs.Parts.{alternative_at, sign_at}
use Rattle.adp_model.specs.Tokens.{letters_between}
use Rattle.adp_model.specs.Tree.{Tree}
use Rattle.adp_model.specs.Derivation.{Derives}
use Rattle.adp_model.specs.Preference.{IsPreferred}
use Rattle.adp_model.specs.Splits.{Placed, placed}
use Rattle.adp_model.specs.TreeText.{quoted, tree_text}
use Rattle.traceback.specs.declared.tree_nodes.NodeAt.{NodeAt}
use Rattle.traceback.specs.Preorder.{nodes_of}
use Rattle.report.specs.declared.tree_lines.Piece.{Piece}
use Rattle.report.specs.declared.tree_lines.Piece.TheVariants.{Mark, Letters, Subtree}

-- the nodes that a piece takes, and its text: a subtree takes its own nodes
abbrev pub StandsFor : PosedProblem → Piece → List NodeAt → List ℕ → Type 0
StandsFor p (Mark byte) nodes text = (nodes ≡ []) × (text ≡ byte ∷ [])
StandsFor p (Letters from to) nodes text =
    IsSpan p.word from to × (nodes ≡ []) × (text ≡ quoted (letters_between p.word from to))
StandsFor p Subtree nodes text =
    (cell : Cell) × (tree : Tree) × Derives p cell tree × (nodes ≡ nodes_of tree) × (text ≡ tree_text p tree)

-- the nodes that a stack of pieces takes, and its text; the pieces are given from the bottom, and the top comes first
abbrev pub Waiting : PosedProblem → List Piece → List NodeAt → List ℕ → Type 0
Waiting p [] nodes text = (nodes ≡ []) × (text ≡ [])
Waiting p (piece ∷ pieces) nodes text =
    (own above : List NodeAt) × (own_text above_text : List ℕ) × StandsFor p piece own own_text
    × Waiting p pieces above above_text × (nodes ≡ above ++ own) × (text ≡ above_text ++ own_text)

-- what was written, and then what still waits, are the whole text
pub record Unwritten (p : PosedProblem) (written : List ℕ) (pieces : List Piece) (nodes : List NodeAt)
    (whole : List ℕ) : Type 0 where
  pub rest : List ℕ
  pub waiting : Waiting p pieces nodes rest
  pub whole_is : whole ≡ written ++ rest

-- how a node's text begins: its sign's name, and a bracket
abbrev pub head_text : PosedProblem → NodeAt → List ℕ
head_text p node =
    (sign_at p.grammar (alternative_at p.grammar node.cell.rule node.choice.alt).sign).name ++ codes "("

-- an argument on a span: a rule waits as a subtree, a token as its letters
abbrev pub piece_of : Placed → Piece
piece_of placed = of placed.argument
  where
    of : Arg → Piece
    of (Rule rule) = Subtree
    of token = Letters placed.from placed.to

-- the comma before further children, where there are any
abbrev pub comma_before : List Placed → List Piece
comma_before [] = []
comma_before (placed ∷ others) = Mark comma ∷ []

-- children with a comma between two, the first on top
abbrev pub child_pieces : List Placed → List Piece
child_pieces [] = []
child_pieces (placed ∷ others) = (child_pieces others ++ comma_before others) ++ piece_of placed ∷ []

-- what waits behind the head of a node: its children, and a bracket
abbrev pub pieces_behind : PosedProblem → NodeAt → List Piece
pieces_behind p node =
    Mark closing_bracket ∷ child_pieces (placed p node.cell node.choice.alt node.choice.cuts)

-- the nodes of a tree of some cell
abbrev pub AreTreeNodes : PosedProblem → List NodeAt → Type 0
AreTreeNodes p nodes = (cell : Cell) × (tree : Tree) × Derives p cell tree × (nodes ≡ nodes_of tree)

-- the nodes of the preferred tree of the whole word
abbrev pub AreBestNodes : PosedProblem → List NodeAt → Type 0
AreBestNodes p nodes = (tree : Tree) × IsPreferred p (axiom_cell p) tree × (nodes ≡ nodes_of tree)

-- the text of the preferred tree of the whole word
abbrev pub IsBestText : PosedProblem → List ℕ → Type 0
IsBestText p text = (tree : Tree) × IsPreferred p (axiom_cell p) tree × (text ≡ tree_text p tree)
