-- The list before its first node: the whole word's cell is on the stack where a tree is derived for it.
use Rattle.std.proofs.Common.{◌≡◌, ◌≤◌, ℤ, inl, inr, [], ◌∷◌, length, refl, sym, subst, arith, length-append}
use Rattle.adp_model.specs.declared.cell.Answer.TheVariants.{Best}
use Rattle.adp_model.specs.declared.cell.Cell.{Cell}
use Rattle.adp_model.specs.declared.cell.Choice.{Choice}
use Rattle.adp_model.specs.PosedProblem.{PosedProblem, axiom_cell}
use Rattle.adp_model.specs.Tree.{Tree, Leaf, Node, Trees, Nil, Cons, node_count, node_counts}
use Rattle.adp_model.specs.Answers.{HasNoTree, IsAnswer}
use Rattle.adp_model.specs.Demand.{IsDemanded, Axiom}
use Rattle.adp_model.specs.ProblemFields.{most_nodes}
use Rattle.traceback.specs.Preorder.{nodes_of, nodes_of_all}
use Rattle.traceback.specs.Listing.{IsListing, WholeTrees}

mutual
  length-nodes_of : (tree : Tree) → length (nodes_of tree) ≡ node_count tree
  length-nodes_of (Leaf from to) = refl
  length-nodes_of (Node rule alternative from to children) = let h = length-nodes_of_all children in omega arith

  length-nodes_of_all : (children : Trees) → length (nodes_of_all children) ≡ node_counts children
  length-nodes_of_all Nil = refl
  length-nodes_of_all (Cons first others) =
      let h = length-nodes_of first in let k = length-nodes_of_all others in omega (arith, length-append (nodes_of first) (nodes_of_all others))

pub begun : (p : PosedProblem) → WholeTrees p → (cell : Cell) (score : ℤ) (choice : Choice) → cell ≡ axiom_cell p → IsAnswer p cell (Best score choice) → IsListing p [] (cell ∷ [])
begun p whole cell score choice is answer =
    let a : IsAnswer p (axiom_cell p) (Best score choice) = subst (λ x. IsAnswer p x (Best score choice)) is answer in
    let tree : Tree = a.0 in
    let demanded : IsDemanded p (axiom_cell p) = Axiom (whole.within tree a.1.derived) in
    let short : length (nodes_of tree) ≤ most_nodes = subst (λ x. x ≤ most_nodes) (sym (length-nodes_of tree)) (whole.short tree a.1.derived) in
    subst (λ x. IsListing p [] (x ∷ [])) (sym is) (inl (record {
      tree = tree;
      rest = nodes_of tree;
      preferred = a.1;
      remaining = (tree, [], demanded, a.1, refl, refl);
      nodes_are = refl;
      short = short;
    }))

pub begun_none : (p : PosedProblem) → HasNoTree p (axiom_cell p) → IsListing p [] []
begun_none p none = inr (none, refl, refl)

-- where the whole word's cell is not demanded no tree is derived
pub none_undemanded : (p : PosedProblem) → WholeTrees p → (IsDemanded p (axiom_cell p) → ⊥) → HasNoTree p (axiom_cell p)
none_undemanded p whole undemanded = λ tree derived. undemanded (Axiom (whole.within tree derived))
