-- A step of the list: a cell is taken from the stack, its node is listed, and the cells of its rule children take its place.
use Rattle.std.proofs.Common.{◌≡◌, ℕ, suc, ◌+◌, ◌<◌, ◌≤◌, ℤ, inl, inr, List, [], ◌∷◌, ◌++◌, length, refl, sym, ap, subst, ◌∙◌, arith, append_assoc, slice_index_or, length-append}
use Rattle.std.specs.List.{Contains}
use Rattle.adp_model.specs.declared.grammar.Arg.{Arg}
use Rattle.adp_model.specs.declared.grammar.Arg.TheVariants.{Rule, Literal, Letter, Run}
use Rattle.adp_model.specs.declared.cell.Answer.TheVariants.{Best}
use Rattle.adp_model.specs.declared.cell.Cell.{Cell}
use Rattle.adp_model.specs.declared.cell.Choice.{Choice}
use Rattle.adp_model.specs.PosedProblem.{PosedProblem, IsSpan}
use Rattle.adp_model.specs.Parts.{alternatives_of, arguments_of}
use Rattle.adp_model.specs.Tree.{Tree, Leaf, Node, Trees, ends_of}
use Rattle.adp_model.specs.Derivation.{DeriveArguments}
use Rattle.adp_model.specs.Preference.{cuts_of, IsPreferred}
use Rattle.adp_model.specs.Answers.{choice_of, IsAnswer}
use Rattle.adp_model.specs.Splits.{Placed, place, placed, IsViable, AtRule}
use Rattle.adp_model.specs.Demand.{IsDemanded, Child}
use Rattle.adp_model.specs.Bellman.{ArePreferred, Bellman}
use Rattle.adp_model.specs.ProblemFields.{most_nodes}
use Rattle.traceback.specs.declared.tree_nodes.NodeAt.{NodeAt}
use Rattle.traceback.specs.Preorder.{nodes_of, nodes_of_all, stacked}
use Rattle.traceback.specs.Listing.{Remaining, IsListing, IsTop}
use Rattle.traceback.proofs.Remaining.{Remaining-append, Remaining-pop, AreDemandedAt, Remaining-children}

-- ---- the cells of a viable split's rules are demanded

demanded_at : (p : PosedProblem) (cell : Cell) (alternative : ℕ) (cuts : List ℕ) → IsDemanded p cell → IsViable p cell alternative cuts → (argument : Arg) (from to : ℕ) → Contains (placed p cell alternative cuts) (record { argument = argument; from = from; to = to }) → AtRule (IsDemanded p) (record { argument = argument; from = from; to = to })
demanded_at p cell alternative cuts demanded viable (Rule rule) from to found = Child cell (record { rule = rule; from = from; to = to }) demanded (alternative, cuts, viable, found)
demanded_at p cell alternative cuts demanded viable (Literal text) from to found = tt
demanded_at p cell alternative cuts demanded viable (Letter class) from to found = tt
demanded_at p cell alternative cuts demanded viable (Run class low high) from to found = tt

-- the others stand in the whole list, from a place on
abbrev pub StandsFrom : List Placed → ℕ → List Placed → Type 0
StandsFrom whole offset others =
    (k : ℕ) (d : Placed) → k < length others → (k + offset < length whole) × (slice_index_or whole (k + offset) d ≡ slice_index_or others k d)

stands_next : (whole : List Placed) (offset : ℕ) (x : Placed) (others : List Placed) → StandsFrom whole offset (x ∷ others) → StandsFrom whole (suc offset) others
stands_next whole offset x others within k d lt =
    let h = within (suc k) d (omega arith) in
    let e : suc k + offset ≡ k + suc offset = omega arith in
    subst (λ n. (n < length whole) × (slice_index_or whole n d ≡ slice_index_or others k d)) e h

stands_here : (whole : List Placed) (offset : ℕ) (x : Placed) (others : List Placed) → StandsFrom whole offset (x ∷ others) → Contains whole x
stands_here whole offset x others within = let h = within 0 x (omega arith) in (0 + offset, h.0, h.1)

demanded_from : (p : PosedProblem) (cell : Cell) (alternative : ℕ) (cuts : List ℕ) → IsDemanded p cell → IsViable p cell alternative cuts → (offset : ℕ) (others : List Placed) → StandsFrom (placed p cell alternative cuts) offset others → AreDemandedAt p others
demanded_from p cell alternative cuts demanded viable offset [] within = tt
demanded_from p cell alternative cuts demanded viable offset (x ∷ others) within = (
  demanded_at p cell alternative cuts demanded viable x.argument x.from x.to (stands_here (placed p cell alternative cuts) offset x others within),
  demanded_from p cell alternative cuts demanded viable (suc offset) others (stands_next (placed p cell alternative cuts) offset x others within),
)

pub demanded_children : (p : PosedProblem) (cell : Cell) (alternative : ℕ) (cuts : List ℕ) → IsDemanded p cell → IsViable p cell alternative cuts → AreDemandedAt p (placed p cell alternative cuts)
demanded_children p cell alternative cuts demanded viable =
    demanded_from p cell alternative cuts demanded viable 0 (placed p cell alternative cuts)
    (λ k d lt. let e : k + 0 ≡ k = omega arith in subst (λ n. (n < length (placed p cell alternative cuts)) × (slice_index_or (placed p cell alternative cuts) n d ≡ slice_index_or (placed p cell alternative cuts) k d)) (sym e) (lt, refl))

-- ---- the list

no_cells : (cells : List Cell) (cell : Cell) → cells ++ cell ∷ [] ≡ [] → ⊥
no_cells [] cell e = cc
no_cells (x ∷ cells) cell e = cc

pub top_of : (p : PosedProblem) (nodes : List NodeAt) (cells : List Cell) (cell : Cell) → IsListing p nodes (cells ++ cell ∷ []) → IsTop p cell
top_of p nodes cells cell (inl listed) =
    let popped = Remaining-pop p cells cell listed.rest listed.remaining in
    record { tree = popped.tree; demanded = popped.demanded; preferred = popped.preferred }
top_of p nodes cells cell (inr none) = absurd (no_cells cells cell none.2)

-- a node of a preferred tree, by the answer of its cell
pub record IsNodeOf (p : PosedProblem) (cell : Cell) (choice : Choice) (tree : Tree) : Type 0 where
  pub children : Trees
  pub node_is : tree ≡ Node cell.rule choice.alt cell.from cell.to children
  pub span : IsSpan p.word cell.from cell.to
  pub derived : DeriveArguments p (arguments_of p.grammar cell.rule choice.alt) cell.from cell.to children
  pub cuts_are : choice.cuts ≡ cuts_of cell.to children
  pub preferred : ArePreferred p (arguments_of p.grammar cell.rule choice.alt) cell.from children

node_told : (p : PosedProblem) → Bellman p → (cell : Cell) (choice : Choice) (tree : Tree) → IsPreferred p cell tree → choice ≡ choice_of tree → IsNodeOf p cell choice tree
node_told p bellman cell choice (Leaf from to) preferred e = absurd preferred.derived
node_told p bellman cell choice (Node rule alternative from to children) preferred e =
    let d = preferred.derived in
    let alt_is : choice.alt ≡ alternative = ap (λ (c : Choice). c.alt) e in
    let cuts_is : choice.cuts ≡ cuts_of to children = ap (λ (c : Choice). c.cuts) e in
    record {
      children = children;
      node_is = cc (d.0, d.1, d.2, alt_is);
      span = d.3;
      derived = subst (λ x. DeriveArguments p (arguments_of p.grammar cell.rule x) cell.from cell.to children) (sym alt_is) d.5;
      cuts_are = cuts_is ∙ ap (λ x. cuts_of x children) d.2;
      preferred = subst (λ x. ArePreferred p (arguments_of p.grammar cell.rule x) cell.from children) (sym alt_is) (bellman.children cell rule alternative from to children preferred);
    }

-- the nodes of a told node
node_list : (p : PosedProblem) (cell : Cell) (choice : Choice) (tree : Tree) (n : IsNodeOf p cell choice tree) → nodes_of tree ≡ record { cell = cell; choice = choice } ∷ nodes_of_all n.children
node_list p cell choice tree n =
    ap nodes_of n.node_is
    ∙ ap (λ x. record { cell = cell; choice = record { alt = choice.alt; cuts = x } } ∷ nodes_of_all n.children) (sym n.cuts_are)

pub record Step (p : PosedProblem) (nodes : List NodeAt) (cells : List Cell) (cell : Cell) (choice : Choice) : Type 0 where
  pub in_range : choice.alt < length (alternatives_of p.grammar cell.rule)
  pub room : length nodes < most_nodes
  pub listing : IsListing p (nodes ++ record { cell = cell; choice = choice } ∷ []) (cells ++ stacked (placed p cell choice.alt choice.cuts))

regrouped : (nodes : List NodeAt) (node : NodeAt) (xs ys : List NodeAt) → nodes ++ ((node ∷ xs) ++ ys) ≡ (nodes ++ node ∷ []) ++ (xs ++ ys)
regrouped nodes node xs ys = sym (append_assoc nodes (node ∷ []) (xs ++ ys))

room_left : (nodes xs ys : List NodeAt) (node : NodeAt) (whole : List NodeAt) → whole ≡ nodes ++ ((node ∷ xs) ++ ys) → length whole ≤ most_nodes → length nodes < most_nodes
room_left nodes xs ys node whole e short =
    let h : length whole ≡ length nodes + length ((node ∷ xs) ++ ys) = ap length e ∙ length-append nodes ((node ∷ xs) ++ ys) in
    let k : length ((node ∷ xs) ++ ys) ≡ suc (length (xs ++ ys)) = omega arith in
    omega arith

-- the spans that a node's cuts and its end give to its arguments are those of its children
abbrev PlacesChildren : PosedProblem → Type 0
PlacesChildren p = (rule alternative from to : ℕ) (children : Trees) → DeriveArguments p (arguments_of p.grammar rule alternative) from to children
    → place (arguments_of p.grammar rule alternative) from (cuts_of to children ++ to ∷ []) ≡ place (arguments_of p.grammar rule alternative) from (ends_of children)

pub step : (p : PosedProblem) → PlacesChildren p → Bellman p → ((cell : Cell) (t u : Tree) → IsPreferred p cell t → IsPreferred p cell u → t ≡ u) → (nodes : List NodeAt) (cells : List Cell) (cell : Cell) (score : ℤ) (choice : Choice) → IsListing p nodes (cells ++ cell ∷ []) → IsAnswer p cell (Best score choice) → Step p nodes cells cell choice
step p places_children bellman unique nodes cells cell score choice (inr none) answer = absurd (no_cells cells cell none.2)
step p places_children bellman unique nodes cells cell score choice (inl listed) answer =
    let popped = Remaining-pop p cells cell listed.rest listed.remaining in
    let same : answer.0 ≡ popped.tree = unique cell answer.0 popped.tree answer.1 popped.preferred in
    let n = node_told p bellman cell choice popped.tree popped.preferred (answer.3 ∙ ap choice_of same) in
    let viable = (bellman.only cell (Best score choice) n.span answer).1.viable in
    let arguments : List Arg = arguments_of p.grammar cell.rule choice.alt in
    let places : placed p cell choice.alt choice.cuts ≡ place arguments cell.from (ends_of n.children) =
    ap (λ x. place arguments cell.from (x ++ cell.to ∷ [])) n.cuts_are
    ∙ places_children cell.rule choice.alt cell.from cell.to n.children n.derived in
    let demanded = subst (AreDemandedAt p) places (demanded_children p cell choice.alt choice.cuts popped.demanded viable) in
    let below = subst (λ x. Remaining p (stacked x) (nodes_of_all n.children)) (sym places) (Remaining-children p arguments cell.from cell.to n.children n.derived n.preferred demanded) in
    let whole : nodes_of listed.tree ≡ nodes ++ ((record { cell = cell; choice = choice } ∷ nodes_of_all n.children) ++ popped.after) =
    listed.nodes_are ∙ ap (λ x. nodes ++ x) (popped.rest_is ∙ ap (λ x. x ++ popped.after) (node_list p cell choice popped.tree n)) in
    record {
      in_range = viable.in_range;
      room = room_left nodes (nodes_of_all n.children) popped.after (record { cell = cell; choice = choice }) (nodes_of listed.tree) whole listed.short;
      listing = inl (record {
        tree = listed.tree;
        rest = nodes_of_all n.children ++ popped.after;
        preferred = listed.preferred;
        remaining = Remaining-append p cells (stacked (placed p cell choice.alt choice.cuts)) popped.after (nodes_of_all n.children) popped.others below;
        nodes_are = whole ∙ regrouped nodes (record { cell = cell; choice = choice }) (nodes_of_all n.children) popped.after;
        short = listed.short;
      });
    }
