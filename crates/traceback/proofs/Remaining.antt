-- What is still to be listed while cells stand on the stack: the nodes of their preferred trees, the top's first.
use Rattle.std.proofs.Common.{◌≡◌, ℕ, List, [], ◌∷◌, ◌++◌, refl, sym, ap, subst, ◌∙◌, append_assoc}
use Rattle.std.specs.List.{AllByRecursion}
use Rattle.adp_model.specs.declared.grammar.Arg.{Arg}
use Rattle.adp_model.specs.declared.grammar.Arg.TheVariants.{Rule}
use Rattle.adp_model.specs.declared.cell.Cell.{Cell}
use Rattle.adp_model.specs.PosedProblem.{PosedProblem}
use Rattle.adp_model.specs.Tree.{Tree, Leaf, Node, Trees, Nil, Cons, end_of, ends_of}
use Rattle.adp_model.specs.Derivation.{DeriveArguments}
use Rattle.adp_model.specs.Preference.{IsPreferred}
use Rattle.adp_model.specs.Splits.{Placed, place, AtRule}
use Rattle.adp_model.specs.Demand.{IsDemanded}
use Rattle.adp_model.specs.Bellman.{ArePreferred}
use Rattle.traceback.specs.declared.tree_nodes.NodeAt.{NodeAt}
use Rattle.traceback.specs.Preorder.{nodes_of, nodes_of_all, stacked}
use Rattle.traceback.specs.Listing.{Remaining}

pub append-nil : (xs : List NodeAt) → xs ++ [] ≡ xs
append-nil [] = refl
append-nil (x ∷ xs) = ap (λ ys. x ∷ ys) (append-nil xs)

pub Remaining-append : (p : PosedProblem) (xs ys : List Cell) (r s : List NodeAt) → Remaining p xs r → Remaining p ys s → Remaining p (xs ++ ys) (s ++ r)
Remaining-append p [] ys r s h k = subst (Remaining p ys) (sym (ap (λ x. s ++ x) h ∙ append-nil s)) k
Remaining-append p (cell ∷ cells) ys r s (tree, before, demanded, preferred, rest, e) k =
    (tree, s ++ before, demanded, preferred, Remaining-append p cells ys before s rest k, ap (λ x. s ++ x) e ∙ sym (append_assoc s before (nodes_of tree)))

-- the top of the stack, and what stays
pub record Popped (p : PosedProblem) (cells : List Cell) (cell : Cell) (rest : List NodeAt) : Type 0 where
  pub tree : Tree
  pub after : List NodeAt
  pub demanded : IsDemanded p cell
  pub preferred : IsPreferred p cell tree
  pub others : Remaining p cells after
  pub rest_is : rest ≡ nodes_of tree ++ after

pub Remaining-pop : (p : PosedProblem) (cells : List Cell) (cell : Cell) (rest : List NodeAt) → Remaining p (cells ++ cell ∷ []) rest → Popped p cells cell rest
Remaining-pop p [] cell rest (tree, before, demanded, preferred, none, e) =
    record { tree = tree; after = []; demanded = demanded; preferred = preferred; others = refl; rest_is = e ∙ ap (λ x. x ++ nodes_of tree) none ∙ sym (append-nil (nodes_of tree)) }
Remaining-pop p (other ∷ cells) cell rest (tree, before, demanded, preferred, others, e) =
    let popped = Remaining-pop p cells cell before others in
    record {
      tree = popped.tree;
      after = popped.after ++ nodes_of tree;
      demanded = popped.demanded;
      preferred = popped.preferred;
      others = (tree, popped.after, demanded, preferred, popped.others, refl);
      rest_is = e ∙ ap (λ x. x ++ nodes_of tree) popped.rest_is ∙ append_assoc (nodes_of popped.tree) popped.after (nodes_of tree);
    }

-- ---- children

-- the cells of the rules among the arguments are demanded
abbrev pub AreDemandedAt : PosedProblem → List Placed → Type 0
AreDemandedAt p places = AllByRecursion (AtRule (IsDemanded p)) places

append-nil-cells : (xs : List Cell) → xs ++ [] ≡ xs
append-nil-cells [] = refl
append-nil-cells (x ∷ xs) = ap (λ ys. x ∷ ys) (append-nil-cells xs)

pub Remaining-children : (p : PosedProblem) (arguments : List Arg) (from to : ℕ) (children : Trees) → DeriveArguments p arguments from to children → ArePreferred p arguments from children → AreDemandedAt p (place arguments from (ends_of children)) → Remaining p (stacked (place arguments from (ends_of children))) (nodes_of_all children)
Remaining-children p [] from to Nil h preferred demanded = refl
Remaining-children p [] from to (Cons first others) h preferred demanded = absurd h
Remaining-children p (argument ∷ arguments) from to Nil h preferred demanded = absurd h
Remaining-children p (Rule rule ∷ arguments) from to (Cons first others) h preferred demanded =
    Remaining-append p (stacked (place arguments (end_of first) (ends_of others))) (record { rule = rule; from = from; to = end_of first } ∷ []) (nodes_of_all others) (nodes_of first)
    (Remaining-children p arguments (end_of first) to others h.1 preferred.1 demanded.1)
    (first, [], demanded.0, preferred.0, refl, refl)
Remaining-children p (token ∷ arguments) from to (Cons (Leaf from' to') others) h preferred demanded =
    subst (λ x. Remaining p x (nodes_of_all others)) (sym (append-nil-cells (stacked (place arguments to' (ends_of others)))))
    (Remaining-children p arguments to' to others h.1 preferred demanded.1)
Remaining-children p (token ∷ arguments) from to (Cons (Node rule alternative from' to' children) others) h preferred demanded = absurd h.0
