-- What a stack of places still leads to, when a tree is taken from it and its children are put there.
use Rattle.std.proofs.Common.{◌≡◌, ℕ, zero, suc, List, [], ◌∷◌, ◌++◌, length, refl, sym, ap, subst, ◌∙◌, arith, append_assoc, length-append}
use Rattle.std.specs.List.{AllByRecursion, Contains}
use Rattle.adp_model.specs.declared.grammar.Arg.{Arg}
use Rattle.adp_model.specs.declared.grammar.Arg.TheVariants.{Rule}
use Rattle.adp_model.specs.declared.cell.Cell.{Cell}
use Rattle.adp_model.specs.declared.cell.Choice.{Choice}
use Rattle.adp_model.specs.PosedProblem.{PosedProblem}
use Rattle.adp_model.specs.Parts.{arguments_of}
use Rattle.adp_model.specs.Tree.{Tree, Leaf, Node, Trees, Nil, Cons, end_of, ends_of, node_count, node_counts}
use Rattle.adp_model.specs.Derivation.{Derives, DeriveArguments}
use Rattle.adp_model.specs.Preference.{cuts_of}
use Rattle.adp_model.specs.Demand.{IsDemanded, Child}
use Rattle.adp_model.specs.Splits.{Placed, place, placed, AtRule, IsViable}
use Rattle.first_trees.specs.FirstTrees.{HasPlace}
use Rattle.first_trees.specs.Entries.{Entry, AreRanks, IsEntry}
use Rattle.traceback.specs.declared.tree_nodes.NodeAt.{NodeAt}
use Rattle.traceback.specs.Preorder.{nodes_of, nodes_of_all}
use Rattle.k_best.specs.declared.listed_trees.Listed.{Listed}
use Rattle.k_best.specs.ListedNodes.{IsUnlisted, stacked}

pub nothing_more : {X : Type 0} (xs : List X) → xs ++ [] ≡ xs
nothing_more [] = refl
nothing_more (x ∷ xs) = ap (λ ys. x ∷ ys) (nothing_more xs)

mutual
  pub length-nodes_of : (tree : Tree) → length (nodes_of tree) ≡ node_count tree
  length-nodes_of (Leaf from to) = refl
  length-nodes_of (Node rule alternative from to children) = let h = length-nodes_of_all children in omega arith

  length-nodes_of_all : (children : Trees) → length (nodes_of_all children) ≡ node_counts children
  length-nodes_of_all Nil = refl
  length-nodes_of_all (Cons first others) =
      let h = length-nodes_of first in
      let l = length-nodes_of_all others in
      omega (arith, length-append (nodes_of first) (nodes_of_all others))

module _ (p : PosedProblem) (k : ℕ) where
  pub unlisted_joined : (xs ys : List Listed) (r s : List NodeAt) → IsUnlisted p k xs r → IsUnlisted p k ys s
      → IsUnlisted p k (xs ++ ys) (s ++ r)
  unlisted_joined [] ys r s h h' = subst (IsUnlisted p k ys) (sym (ap (λ x. s ++ x) h ∙ nothing_more s)) h'
  unlisted_joined (x ∷ xs) ys r s (tree, before, demanded, stands, rest, e) h' = (
    tree,
    s ++ before,
    demanded,
    stands,
    unlisted_joined xs ys before s rest h',
    ap (λ x. s ++ x) e ∙ sym (append_assoc s before (nodes_of tree)),
  )

  -- the top of the stack, and what stays
  pub record Popped (stack : List Listed) (listed : Listed) (rest : List NodeAt) : Type 0 where
    pub tree : Tree
    pub after : List NodeAt
    pub demanded : IsDemanded p listed.cell
    pub stands : HasPlace p k listed.cell tree listed.rank
    pub others : IsUnlisted p k stack after
    pub rest_is : rest ≡ nodes_of tree ++ after

  pub popped : (stack : List Listed) (listed : Listed) (rest : List NodeAt) → IsUnlisted p k (stack ++ listed ∷ []) rest
      → Popped stack listed rest
  popped [] listed rest (tree, before, demanded, stands, none, e) = record {
    tree = tree;
    after = [];
    demanded = demanded;
    stands = stands;
    others = refl;
    rest_is = e ∙ ap (λ x. x ++ nodes_of tree) none ∙ sym (nothing_more (nodes_of tree));
  }
  popped (x ∷ stack) listed rest (tree, before, demanded, stands, others, e) =
      let top = popped stack listed before others in
      record {
        tree = top.tree;
        after = top.after ++ nodes_of tree;
        demanded = top.demanded;
        stands = top.stands;
        others = (tree, top.after, demanded, stands, top.others, refl);
        rest_is = e ∙ ap (λ x. x ++ nodes_of tree) top.rest_is ∙ append_assoc (nodes_of top.tree) top.after (nodes_of tree);
      }

  children_unlisted : (arguments : List Arg) (from to : ℕ) (children : Trees) (ranks : List ℕ)
      → DeriveArguments p arguments from to children → AreRanks p k arguments from children ranks
      → AllByRecursion (AtRule (IsDemanded p)) (place arguments from (ends_of children))
      → IsUnlisted p k (stacked (place arguments from (ends_of children)) ranks) (nodes_of_all children)
  children_unlisted [] from to Nil ranks h r d = refl
  children_unlisted [] from to (Cons first others) ranks h r d = absurd h
  children_unlisted (argument ∷ arguments) from to Nil ranks h r d = absurd h
  children_unlisted (Rule rule ∷ arguments) from to (Cons first others) [] h r d = absurd r
  children_unlisted (Rule rule ∷ arguments) from to (Cons first others) (rank ∷ ranks) h r d =
      unlisted_joined (stacked (place arguments (end_of first) (ends_of others)) ranks)
      (record { cell = record { rule = rule; from = from; to = end_of first }; rank = rank } ∷ []) (nodes_of_all others) (nodes_of first)
      (children_unlisted arguments (end_of first) to others ranks h.1 r.1 d.1)
      (first, [], d.0, r.0, refl, refl)
  children_unlisted (token ∷ arguments) from to (Cons (Leaf from' to') others) ranks h r d =
      children_unlisted arguments to' to others ranks h.1 r d.1
  children_unlisted (token ∷ arguments) from to (Cons (Node rule alternative from' to' children) others) ranks h r d = absurd h.0

  all_members : (P : Placed → Type 0) (xs : List Placed) → ((x : Placed) → Contains xs x → P x) → AllByRecursion P xs
  all_members P [] each = tt
  all_members P (x ∷ xs) each =
      (each x (zero, omega arith, refl), all_members P xs (λ y there. let l = there.1 in each y (suc there.0, omega arith, there.2)))

  children_demanded : (cell : Cell) (choice : Choice) → IsDemanded p cell → IsViable p cell choice.alt choice.cuts
      → AllByRecursion (AtRule (IsDemanded p)) (placed p cell choice.alt choice.cuts)
  children_demanded cell choice demanded viable =
      all_members (AtRule (IsDemanded p)) (placed p cell choice.alt choice.cuts) (λ x there. go x.argument x.from x.to there)
    where
      go : (argument : Arg) (from to : ℕ) → Contains (placed p cell choice.alt choice.cuts) (record { argument = argument; from = from; to = to })
          → AtRule (IsDemanded p) (record { argument = argument; from = from; to = to })
      go (Rule rule) from to there =
          Child cell (record { rule = rule; from = from; to = to }) demanded (choice.alt, choice.cuts, viable, there)
      go token from to there = tt

  -- ---- a tree is taken from the stack, and its children are put there

  pub record Stepped (cell : Cell) (entry : Entry) (stack : List Listed) (rest : List NodeAt) : Type 0 where
    pub others : List NodeAt
    pub rest_is : rest ≡ record { cell = cell; choice = entry.choice } ∷ others
    pub unlisted : IsUnlisted p k (stack ++ stacked (placed p cell entry.choice.alt entry.choice.cuts) entry.ranks) others

  module _ (laid : (rule alternative from to : ℕ) (children : Trees) → DeriveArguments p (arguments_of p.grammar rule alternative) from to children
      → placed p (record { rule = rule; from = from; to = to }) alternative (cuts_of to children) ≡ place (arguments_of p.grammar rule alternative) from (ends_of children))
      (listed : Listed) (entry : Entry) (stack : List Listed) (after : List NodeAt) (demanded : IsDemanded p listed.cell)
      (viable : IsViable p listed.cell entry.choice.alt entry.choice.cuts) (others : IsUnlisted p k stack after) where
    own_step : (alternative : ℕ) (children : Trees)
        → Derives p listed.cell (Node listed.cell.rule alternative listed.cell.from listed.cell.to children)
        → IsEntry p k (Node listed.cell.rule alternative listed.cell.from listed.cell.to children) entry
        → Stepped listed.cell entry stack (nodes_of (Node listed.cell.rule alternative listed.cell.from listed.cell.to children) ++ after)
    own_step alternative children d is =
        let cell = listed.cell in
        let arguments = arguments_of p.grammar cell.rule alternative in
        let made : Choice = record { alt = alternative; cuts = cuts_of cell.to children } in
        let spans : placed p cell entry.choice.alt entry.choice.cuts ≡ place arguments cell.from (ends_of children) =
        ap (λ (c : Choice). placed p cell c.alt c.cuts) is.1 ∙ laid cell.rule alternative cell.from cell.to children d.5 in
        let below : IsUnlisted p k (stacked (placed p cell entry.choice.alt entry.choice.cuts) entry.ranks) (nodes_of_all children) =
        subst (λ xs. IsUnlisted p k (stacked xs entry.ranks) (nodes_of_all children)) (sym spans)
        (children_unlisted arguments cell.from cell.to children entry.ranks d.5 is.2
        (subst (AllByRecursion (AtRule (IsDemanded p))) spans (children_demanded cell entry.choice demanded viable))) in
        record {
          others = nodes_of_all children ++ after;
          rest_is = ap (λ (c : Choice). record { cell = cell; choice = c } ∷ (nodes_of_all children ++ after)) (sym is.1);
          unlisted = unlisted_joined stack (stacked (placed p cell entry.choice.alt entry.choice.cuts) entry.ranks) after (nodes_of_all children) others below;
        }

    pub step : (tree : Tree) → Derives p listed.cell tree → IsEntry p k tree entry → Stepped listed.cell entry stack (nodes_of tree ++ after)
    step (Leaf from to) d is = absurd d
    step (Node rule alternative from to children) d is =
        let cell = listed.cell in
        let same : Node rule alternative from to children ≡ Node cell.rule alternative cell.from cell.to children = cc (d.0, d.1, d.2) in
        subst (λ tree. Stepped cell entry stack (nodes_of tree ++ after)) (sym same)
        (own_step alternative children (subst (Derives p cell) same d) (subst (λ tree. IsEntry p k tree entry) same is))
