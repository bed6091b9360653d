-- A step of the writing: the piece on top of the stack is written, or a node is taken and what is behind its head waits.
use Rattle.std.proofs.Common.{◌≡◌, ℕ, ◌-◌, ◌*◌, ◌<◌, ◌≤◌, List, [], ◌∷◌, ◌++◌, length, take, drop, refl, sym, ap, subst, ◌∙◌, arith, append_assoc, slice_index_or, length-append}
use Rattle.std.proofs.lemmas.List.{take_all}
use Rattle.adp_model.specs.declared.grammar.Arg.{Arg}
use Rattle.adp_model.specs.declared.grammar.Arg.TheVariants.{Rule}
use Rattle.adp_model.specs.declared.cell.Cell.{Cell}
use Rattle.adp_model.specs.PosedProblem.{PosedProblem, IsSpan, axiom_cell}
use Rattle.adp_model.specs.Parts.{alternatives_of, arguments_of}
use Rattle.adp_model.specs.Tokens.{letters_between}
use Rattle.adp_model.specs.Tree.{Tree, Leaf, Node, Trees, Nil, Cons, end_of, ends_of}
use Rattle.adp_model.specs.Derivation.{Derives, DeriveArguments}
use Rattle.adp_model.specs.Preference.{cuts_of, IsPreferred}
use Rattle.adp_model.specs.Splits.{Placed, place, placed}
use Rattle.adp_model.specs.TreeText.{quoted, tree_text, children_text, further_text}
use Rattle.traceback.specs.declared.tree_nodes.NodeAt.{NodeAt}
use Rattle.traceback.specs.Preorder.{nodes_of, nodes_of_all}
use Rattle.report.specs.declared.tree_lines.Piece.{Piece}
use Rattle.report.specs.declared.tree_lines.Piece.TheVariants.{Mark, Letters, Subtree}
use Rattle.adp_model.specs.Ascii.{closing_bracket, comma}
use Rattle.report.specs.Pieces.{AreBestNodes, StandsFor, Waiting, Unwritten, head_text, piece_of, child_pieces, comma_before, pieces_behind}

append-nil : {A : Type 0} (xs : List A) → xs ++ [] ≡ xs
append-nil [] = refl
append-nil (x ∷ xs) = ap (λ ys. x ∷ ys) (append-nil xs)

-- ---- the stack

Waiting-append : (p : PosedProblem) (xs ys : List Piece) (n m : List NodeAt) (s t : List ℕ) → Waiting p xs n s → Waiting p ys m t → Waiting p (xs ++ ys) (m ++ n) (t ++ s)
Waiting-append p [] ys n m s t (none, no_text) k =
    subst (λ x. Waiting p ys x (t ++ s)) (sym (ap (λ x. m ++ x) none ∙ append-nil m)) (subst (λ x. Waiting p ys m x) (sym (ap (λ x. t ++ x) no_text ∙ append-nil t)) k)
Waiting-append p (piece ∷ pieces) ys n m s t (own, above, own_text, above_text, stands, waiting, nodes_are, text_is) k = (
  own,
  m ++ above,
  own_text,
  t ++ above_text,
  stands,
  Waiting-append p pieces ys above m above_text t waiting k,
  ap (λ x. m ++ x) nodes_are ∙ sym (append_assoc m above own),
  ap (λ x. t ++ x) text_is ∙ sym (append_assoc t above_text own_text),
)

-- the top of the stack, and what stays
pub record Popped (p : PosedProblem) (pieces : List Piece) (piece : Piece) (nodes : List NodeAt) (text : List ℕ) : Type 0 where
  pub own : List NodeAt
  pub after : List NodeAt
  pub own_text : List ℕ
  pub after_text : List ℕ
  pub stands : StandsFor p piece own own_text
  pub others : Waiting p pieces after after_text
  pub nodes_are : nodes ≡ own ++ after
  pub text_is : text ≡ own_text ++ after_text

Waiting-pop : (p : PosedProblem) (pieces : List Piece) (piece : Piece) (nodes : List NodeAt) (text : List ℕ) → Waiting p (pieces ++ piece ∷ []) nodes text → Popped p pieces piece nodes text
Waiting-pop p [] piece nodes text (own, above, own_text, above_text, stands, (none, no_text), nodes_are, text_is) =
    record {
      own = own;
      after = [];
      own_text = own_text;
      after_text = [];
      stands = stands;
      others = (refl, refl);
      nodes_are = nodes_are ∙ ap (λ x. x ++ own) none ∙ sym (append-nil own);
      text_is = text_is ∙ ap (λ x. x ++ own_text) no_text ∙ sym (append-nil own_text);
    }
Waiting-pop p (other ∷ pieces) piece nodes text (own, above, own_text, above_text, stands, waiting, nodes_are, text_is) =
    let popped = Waiting-pop p pieces piece above above_text waiting in
    record {
      own = popped.own;
      after = popped.after ++ own;
      own_text = popped.own_text;
      after_text = popped.after_text ++ own_text;
      stands = popped.stands;
      others = (own, popped.after, own_text, popped.after_text, stands, popped.others, refl, refl);
      nodes_are = nodes_are ∙ ap (λ x. x ++ own) popped.nodes_are ∙ append_assoc popped.own popped.after own;
      text_is = text_is ∙ ap (λ x. x ++ own_text) popped.text_is ∙ append_assoc popped.own_text popped.after_text own_text;
    }

-- ---- marks and letters

pub written_mark : (p : PosedProblem) (written : List ℕ) (pieces : List Piece) (byte : ℕ) (nodes : List NodeAt) (whole : List ℕ)
    → Unwritten p written (pieces ++ Mark byte ∷ []) nodes whole → Unwritten p (written ++ byte ∷ []) pieces nodes whole
written_mark p written pieces byte nodes whole unwritten =
    let popped = Waiting-pop p pieces (Mark byte) nodes unwritten.rest unwritten.waiting in
    let same : nodes ≡ popped.after = popped.nodes_are ∙ ap (λ x. x ++ popped.after) popped.stands.0 in
    record {
      rest = popped.after_text;
      waiting = subst (λ x. Waiting p pieces x popped.after_text) (sym same) popped.others;
      whole_is = unwritten.whole_is ∙ ap (λ x. written ++ x) (popped.text_is ∙ ap (λ x. x ++ popped.after_text) popped.stands.1)
          ∙ sym (append_assoc written (byte ∷ []) popped.after_text);
    }

pub letters_span : (p : PosedProblem) (pieces : List Piece) (from to : ℕ) (nodes : List NodeAt) (text : List ℕ)
    → Waiting p (pieces ++ Letters from to ∷ []) nodes text → IsSpan p.word from to
letters_span p pieces from to nodes text waiting = (Waiting-pop p pieces (Letters from to) nodes text waiting).stands.0

pub written_letters : (p : PosedProblem) (written : List ℕ) (pieces : List Piece) (from to : ℕ) (nodes : List NodeAt) (whole : List ℕ)
    → Unwritten p written (pieces ++ Letters from to ∷ []) nodes whole → Unwritten p (written ++ quoted (letters_between p.word from to)) pieces nodes whole
written_letters p written pieces from to nodes whole unwritten =
    let popped = Waiting-pop p pieces (Letters from to) nodes unwritten.rest unwritten.waiting in
    let same : nodes ≡ popped.after = popped.nodes_are ∙ ap (λ x. x ++ popped.after) popped.stands.1 in
    record {
      rest = popped.after_text;
      waiting = subst (λ x. Waiting p pieces x popped.after_text) (sym same) popped.others;
      whole_is = unwritten.whole_is ∙ ap (λ x. written ++ x) (popped.text_is ∙ ap (λ x. x ++ popped.after_text) popped.stands.2)
          ∙ sym (append_assoc written (quoted (letters_between p.word from to)) popped.after_text);
    }

-- ---- children

alone : (p : PosedProblem) (piece : Piece) (nodes : List NodeAt) (text : List ℕ) → StandsFor p piece nodes text → Waiting p (piece ∷ []) nodes text
alone p piece nodes text stands = (nodes, [], text, [], stands, (refl, refl), refl, refl)

leaf_stands : (p : PosedProblem) (from from' to : ℕ) → from' ≡ from → IsSpan p.word from' to → StandsFor p (Letters from to) [] (quoted (letters_between p.word from' to))
leaf_stands p from from' to e span =
    subst (λ (x : ℕ). StandsFor p (Letters x to) [] (quoted (letters_between p.word from' to))) e (span, refl, refl)

-- children on the stack with a comma over them
Waiting-further : (p : PosedProblem) (arguments : List Arg) (from to : ℕ) (children : Trees) → DeriveArguments p arguments from to children
    → Waiting p (child_pieces (place arguments from (ends_of children))) (nodes_of_all children) (children_text p children)
    → Waiting p (child_pieces (place arguments from (ends_of children)) ++ comma_before (place arguments from (ends_of children))) (nodes_of_all children) (further_text p children)
Waiting-further p [] from to Nil h waiting = (refl, refl)
Waiting-further p [] from to (Cons first others) h waiting = absurd h
Waiting-further p (argument ∷ arguments) from to Nil h waiting = absurd h
Waiting-further p (argument ∷ arguments) from to (Cons first others) h waiting =
    let children : Trees = Cons first others in
    Waiting-append p (child_pieces (place (argument ∷ arguments) from (ends_of children))) (Mark comma ∷ []) (nodes_of_all children) [] (children_text p children) (comma ∷ []) waiting
    (alone p (Mark comma) [] (comma ∷ []) (refl, refl))

-- a child over further ones
Waiting-over : (p : PosedProblem) (arguments : List Arg) (from to : ℕ) (others : Trees) → DeriveArguments p arguments from to others
    → Waiting p (child_pieces (place arguments from (ends_of others))) (nodes_of_all others) (children_text p others)
    → (piece : Piece) (own : List NodeAt) (own_text : List ℕ) → StandsFor p piece own own_text
    → Waiting p ((child_pieces (place arguments from (ends_of others)) ++ comma_before (place arguments from (ends_of others))) ++ piece ∷ []) (own ++ nodes_of_all others) (own_text ++ further_text p others)
Waiting-over p arguments from to others h waiting piece own own_text stands =
    let places : List Placed = place arguments from (ends_of others) in
    Waiting-append p (child_pieces places ++ comma_before places) (piece ∷ []) (nodes_of_all others) own (further_text p others) own_text
    (Waiting-further p arguments from to others h waiting) (alone p piece own own_text stands)

Waiting-children : (p : PosedProblem) (arguments : List Arg) (from to : ℕ) (children : Trees) → DeriveArguments p arguments from to children
    → Waiting p (child_pieces (place arguments from (ends_of children))) (nodes_of_all children) (children_text p children)
Waiting-children p [] from to Nil h = (refl, refl)
Waiting-children p [] from to (Cons first others) h = absurd h
Waiting-children p (argument ∷ arguments) from to Nil h = absurd h
Waiting-children p (Rule rule ∷ arguments) from to (Cons first others) h =
    Waiting-over p arguments (end_of first) to others h.1 (Waiting-children p arguments (end_of first) to others h.1)
    Subtree (nodes_of first) (tree_text p first) (record { rule = rule; from = from; to = end_of first }, first, h.0, refl, refl)
Waiting-children p (token ∷ arguments) from to (Cons (Leaf from' to') others) h =
    Waiting-over p arguments to' to others h.1 (Waiting-children p arguments to' to others h.1)
    (Letters from to') [] (tree_text p (Leaf from' to')) (leaf_stands p from from' to' h.0.0 h.0.1)
Waiting-children p (token ∷ arguments) from to (Cons (Node rule alternative from' to' children) others) h = absurd h.0

-- ---- a node

-- the spans that a node's cuts and its end give to its arguments are those of its children
abbrev pub PlacesChildren : PosedProblem → Type 0
PlacesChildren p = (rule alternative from to : ℕ) (children : Trees) → DeriveArguments p (arguments_of p.grammar rule alternative) from to children
    → place (arguments_of p.grammar rule alternative) from (cuts_of to children ++ to ∷ []) ≡ place (arguments_of p.grammar rule alternative) from (ends_of children)

-- a derived tree is a node, whose children are derived for its arguments
pub record Opened (p : PosedProblem) (tree : Tree) : Type 0 where
  pub node : NodeAt
  pub children : Trees
  pub nodes_are : nodes_of tree ≡ node ∷ nodes_of_all children
  pub in_range : node.choice.alt < length (alternatives_of p.grammar node.cell.rule)
  pub derived : DeriveArguments p (arguments_of p.grammar node.cell.rule node.choice.alt) node.cell.from node.cell.to children
  pub cuts_are : node.choice.cuts ≡ cuts_of node.cell.to children
  pub text_is : tree_text p tree ≡ head_text p node ++ (children_text p children ++ closing_bracket ∷ [])

opened : (p : PosedProblem) (cell : Cell) (tree : Tree) → Derives p cell tree → Opened p tree
opened p cell (Leaf from to) derived = absurd derived
opened p cell (Node rule alternative from to children) derived =
    record {
      node = record { cell = record { rule = rule; from = from; to = to }; choice = record { alt = alternative; cuts = cuts_of to children } };
      children = children;
      nodes_are = refl;
      in_range = subst (λ x. alternative < length (alternatives_of p.grammar x)) (sym derived.0) derived.4;
      derived =
          subst (λ x. DeriveArguments p (arguments_of p.grammar x alternative) from to children) (sym derived.0)
          (subst (λ x. DeriveArguments p (arguments_of p.grammar cell.rule alternative) x to children) (sym derived.1)
          (subst (λ x. DeriveArguments p (arguments_of p.grammar cell.rule alternative) cell.from x children) (sym derived.2) derived.5));
      cuts_are = refl;
      text_is = simp append_assoc;
    }

Waiting-behind : (p : PosedProblem) (placed_so : PlacesChildren p) (tree : Tree) (o : Opened p tree)
    → Waiting p (pieces_behind p o.node) (nodes_of_all o.children) (children_text p o.children ++ closing_bracket ∷ [])
Waiting-behind p placed_so tree o =
    let arguments = arguments_of p.grammar o.node.cell.rule o.node.choice.alt in
    let same : placed p o.node.cell o.node.choice.alt o.node.choice.cuts ≡ place arguments o.node.cell.from (ends_of o.children) =
    ap (λ x. placed p o.node.cell o.node.choice.alt x) o.cuts_are
    ∙ placed_so o.node.cell.rule o.node.choice.alt o.node.cell.from o.node.cell.to o.children o.derived in (
      [],
      nodes_of_all o.children,
      closing_bracket ∷ [],
      children_text p o.children,
      (refl, refl),
      subst (λ x. Waiting p (child_pieces x) (nodes_of_all o.children) (children_text p o.children)) (sym same)
          (Waiting-children p arguments o.node.cell.from o.node.cell.to o.children o.derived),
      sym (append-nil (nodes_of_all o.children)),
      refl,
    )

-- the node that a subtree takes
pub record Taken (p : PosedProblem) (written : List ℕ) (pieces : List Piece) (nodes : List NodeAt) (whole : List ℕ) : Type 0 where
  pub node : NodeAt
  pub others : List NodeAt
  pub nodes_are : nodes ≡ node ∷ others
  pub in_range : node.choice.alt < length (alternatives_of p.grammar node.cell.rule)
  pub next : Unwritten p (written ++ head_text p node) (pieces ++ pieces_behind p node) others whole

pub taken : (p : PosedProblem) → PlacesChildren p
    → (written : List ℕ) (pieces : List Piece) (nodes : List NodeAt) (whole : List ℕ)
    → Unwritten p written (pieces ++ Subtree ∷ []) nodes whole → Taken p written pieces nodes whole
taken p placed_so written pieces nodes whole unwritten =
    let popped = Waiting-pop p pieces Subtree nodes unwritten.rest unwritten.waiting in
    let tree : Tree = popped.stands.1 in
    let o : Opened p tree = opened p popped.stands.0 tree popped.stands.2 in
    let tail : List ℕ = children_text p o.children ++ closing_bracket ∷ [] in
    record {
      node = o.node;
      others = nodes_of_all o.children ++ popped.after;
      nodes_are = popped.nodes_are ∙ ap (λ x. x ++ popped.after) (popped.stands.3 ∙ o.nodes_are);
      in_range = o.in_range;
      next = record {
        rest = tail ++ popped.after_text;
        waiting = Waiting-append p pieces (pieces_behind p o.node) popped.after (nodes_of_all o.children) popped.after_text tail popped.others (Waiting-behind p placed_so tree o);
        whole_is = unwritten.whole_is ∙ ap (λ x. written ++ x) (popped.text_is ∙ ap (λ x. x ++ popped.after_text) (popped.stands.4 ∙ o.text_is)
            ∙ append_assoc (head_text p o.node) tail popped.after_text)
            ∙ sym (append_assoc written (head_text p o.node) (tail ++ popped.after_text));
      };
    }

-- ---- lengths

length-place : (arguments : List Arg) (from : ℕ) (ends : List ℕ) → length (place arguments from ends) ≤ length arguments
length-place [] from ends = omega arith
length-place (argument ∷ arguments) from [] = omega arith
length-place (argument ∷ arguments) from (to ∷ ends) = let h = length-place arguments to ends in omega arith

length-children : (places : List Placed) → length (child_pieces places) ≤ 2 * length places - 1
length-children [] = omega arith
length-children (place ∷ []) = omega arith
length-children (place ∷ next ∷ places) =
    let further = child_pieces (next ∷ places) in
    let h = length-children (next ∷ places) in
    omega (arith, length-append (further ++ Mark comma ∷ []) (piece_of place ∷ []), length-append further (Mark comma ∷ []))

-- behind the head of a node there are at most four children, three commas and a bracket
pub few_pieces : (p : PosedProblem) → ((rule alternative : ℕ) → length (arguments_of p.grammar rule alternative) ≤ 4)
    → (node : NodeAt) → length (pieces_behind p node) ≤ 8
few_pieces p few node =
    let places = placed p node.cell node.choice.alt node.choice.cuts in
    let arguments = arguments_of p.grammar node.cell.rule node.choice.alt in
    let h : length places ≤ length arguments = length-place arguments node.cell.from (node.choice.cuts ++ node.cell.to ∷ []) in
    let four : length arguments ≤ 4 = few node.cell.rule node.choice.alt in
    let k : length (child_pieces places) ≤ 2 * length places - 1 = length-children places in
    omega arith

-- ---- the code's words for the first node and the others

taken_at : (p : PosedProblem) → PlacesChildren p
    → (written : List ℕ) (pieces : List Piece) (piece : Piece) (nodes : List NodeAt) (whole : List ℕ) → piece ≡ Subtree
    → Unwritten p written (pieces ++ piece ∷ []) nodes whole → Taken p written pieces nodes whole
taken_at p placed_so written pieces piece nodes whole is unwritten =
    taken p placed_so written pieces nodes whole (subst (λ x. Unwritten p written (pieces ++ x ∷ []) nodes whole) is unwritten)

waiting_at : (p : PosedProblem) (pieces : List Piece) (nodes : List NodeAt) (text : List ℕ) → Waiting p pieces nodes text → Unwritten p [] pieces nodes text
waiting_at p pieces nodes text waiting = record { rest = text; waiting = waiting; whole_is = refl }

pub some_node : (p : PosedProblem) → PlacesChildren p
    → (pieces : List Piece) (piece : Piece) (nodes : List NodeAt) (text : List ℕ) → piece ≡ Subtree
    → Waiting p (pieces ++ piece ∷ []) nodes text → 1 ≤ length nodes
some_node p placed_so pieces piece nodes text is waiting =
    let t = taken_at p placed_so [] pieces piece nodes text is (waiting_at p _ nodes text waiting) in
    let e : length nodes ≡ length (t.node ∷ t.others) = ap length t.nodes_are in
    omega arith

pub first_in_range : (p : PosedProblem) → PlacesChildren p
    → (pieces : List Piece) (piece : Piece) (nodes : List NodeAt) (none : NodeAt) (text : List ℕ) → piece ≡ Subtree
    → Waiting p (pieces ++ piece ∷ []) nodes text
    → (slice_index_or nodes 0 none).choice.alt < length (alternatives_of p.grammar (slice_index_or nodes 0 none).cell.rule)
first_in_range p placed_so pieces piece nodes none text is waiting =
    let t = taken_at p placed_so [] pieces piece nodes text is (waiting_at p _ nodes text waiting) in
    let e : slice_index_or nodes 0 none ≡ t.node = ap (λ x. slice_index_or x 0 none) t.nodes_are in
    subst (λ (n : NodeAt). n.choice.alt < length (alternatives_of p.grammar n.cell.rule)) (sym e) t.in_range

pub first_taken : (p : PosedProblem) → PlacesChildren p
    → (written : List ℕ) (pieces : List Piece) (piece : Piece) (nodes : List NodeAt) (none : NodeAt) (whole : List ℕ) → piece ≡ Subtree
    → Unwritten p written (pieces ++ piece ∷ []) nodes whole
    → Unwritten p (written ++ head_text p (slice_index_or nodes 0 none)) (pieces ++ pieces_behind p (slice_index_or nodes 0 none)) (take (length nodes - 1) (drop 1 nodes)) whole
first_taken p placed_so written pieces piece nodes none whole is unwritten =
    let t = taken_at p placed_so written pieces piece nodes whole is unwritten in
    let first : slice_index_or nodes 0 none ≡ t.node = ap (λ x. slice_index_or x 0 none) t.nodes_are in
    let all : take (length (t.node ∷ t.others) - 1) t.others ≡ t.others = take_all (length (t.node ∷ t.others) - 1) t.others (omega arith) in
    let others : take (length nodes - 1) (drop 1 nodes) ≡ t.others = ap (λ x. take (length x - 1) (drop 1 x)) t.nodes_are ∙ all in
    subst (λ (n : NodeAt). Unwritten p (written ++ head_text p n) (pieces ++ pieces_behind p n) (take (length nodes - 1) (drop 1 nodes)) whole) (sym first)
    (subst (λ x. Unwritten p (written ++ head_text p t.node) (pieces ++ pieces_behind p t.node) x whole) (sym others) t.next)

-- ---- the whole tree

pub begun : (p : PosedProblem) (written : List ℕ) (pieces : List Piece) (nodes : List NodeAt) → pieces ≡ Subtree ∷ []
    → (cell : Cell) (tree : Tree) → Derives p cell tree → nodes ≡ nodes_of tree
    → Unwritten p written pieces nodes (written ++ tree_text p tree)
begun p written pieces nodes is cell tree derived nodes_are =
    subst (λ x. Unwritten p written x nodes (written ++ tree_text p tree)) (sym is) (record {
      rest = tree_text p tree;
      waiting = subst (λ x. Waiting p (Subtree ∷ []) x (tree_text p tree)) (sym nodes_are)
          (alone p Subtree (nodes_of tree) (tree_text p tree) (cell, tree, derived, refl, refl));
      whole_is = refl;
    })
