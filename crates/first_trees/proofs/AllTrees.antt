-- The trees that are derived for a cell are finitely many, so the cell has its list of first trees.
use Rattle.std.proofs.Common.{◌≡◌, ℕ, zero, suc, ◌-◌, ◌<◌, ◌≤◌, ◌⊎◌, inl, inr, Some, List, [], ◌∷◌, ◌++◌, length, take, map, refl, sym, ap, subst, arith}
use Rattle.std.specs.List.{AllByRecursion}
use Rattle.adp_model.specs.declared.grammar.Arg.{Arg}
use Rattle.adp_model.specs.declared.grammar.Arg.TheVariants.{Rule}
use Rattle.adp_model.specs.declared.cell.Cell.{Cell}
use Rattle.adp_model.specs.PosedProblem.{PosedProblem}
use Rattle.adp_model.specs.Parts.{alternatives_of, arguments_of}
use Rattle.adp_model.specs.Sizes.{IsWithinSizes}
use Rattle.adp_model.specs.Tree.{Tree, Leaf, Node, Trees, Nil, Cons, end_of, ends_of}
use Rattle.adp_model.specs.Derivation.{Derives, DeriveArguments, IsMatchingLeaf}
use Rattle.adp_model.specs.Preference.{IsBefore}
use Rattle.adp_model.specs.Splits.{AtRule, place}
use Rattle.adp_model.specs.Demand.{IsDemandedChild}
use Rattle.first_trees.specs.FirstTrees.{AreInOrder, IsAt, AreFirst}
use Rattle.first_trees.proofs.Lists.{IsIn, nothing_at, all_at, all_from, all_told, all_taken, in_order_taken, few_taken, taken_or_behind}
use Rattle.first_trees.proofs.Following.{ArePlaced}
use Rattle.first_trees.proofs.Decisions.{Decided, derived_or_not}
use Rattle.first_trees.proofs.Viable.{falls_derived, span_derived}

-- ---- lists that have all items of which something holds

abbrev HasAll : {X : Type 0} → (X → Type 0) → Type 0
HasAll {X} P = (items : List X) × ((x : X) → P x → IsIn items x)

in_front : {X : Type 0} (xs ys : List X) (place : ℕ) (x : X) → IsAt xs place x → IsIn (xs ++ ys) x
in_front [] ys place x at = absurd (nothing_at [] x at)
in_front (z ∷ xs) ys zero x at = (zero, at)
in_front (z ∷ xs) ys (suc place) x at = let rest = in_front xs ys place x at in (suc rest.0, rest.1)

in_back : {X : Type 0} (xs ys : List X) (x : X) → IsIn ys x → IsIn (xs ++ ys) x
in_back [] ys x stands = stands
in_back (z ∷ xs) ys x stands = let rest = in_back xs ys x stands in (suc rest.0, rest.1)

in_mapped : {X Y : Type 0} (f : X → Y) (xs : List X) (place : ℕ) (x : X) → IsAt xs place x → IsIn (map f xs) (f x)
in_mapped f [] place x at = absurd (nothing_at [] x at)
in_mapped f (z ∷ xs) zero x at = (zero, cc)
in_mapped f (z ∷ xs) (suc place) x at = let rest = in_mapped f xs place x at in (suc rest.0, rest.1)

-- the lists of all items in turn
abbrev joined : {X Y : Type 0} → (X → List Y) → List X → List Y
joined f [] = []
joined f (x ∷ xs) = f x ++ joined f xs

in_joined : {X Y : Type 0} (f : X → List Y) (xs : List X) (place : ℕ) (x : X) (y : Y) → IsAt xs place x → IsIn (f x) y
    → IsIn (joined f xs) y
in_joined f [] place x y at stands = absurd (nothing_at [] x at)
in_joined f (z ∷ xs) zero x y at stands =
    let same : z ≡ x = cc in
    let here : IsIn (f z) y = subst (λ w. IsIn (f w) y) (sym same) stands in
    in_front (f z) (joined f xs) here.0 y here.1
in_joined f (z ∷ xs) (suc place) x y at stands = in_back (f z) (joined f xs) y (in_joined f xs place x y at stands)

abbrev below : ℕ → List ℕ
below zero = []
below (suc n) = n ∷ below n

less_or_last : (i n : ℕ) → i < suc n → (i < n) ⊎ (n ≡ i)
less_or_last i n less = grind arith

in_below : (n i : ℕ) → i < n → IsIn (below n) i
in_below zero i less = absurd (omega arith)
in_below (suc n) i less = go (in_below n i) (less_or_last i n less)
  where
    go : (i < n → IsIn (below n) i) → (i < n) ⊎ (n ≡ i) → IsIn (n ∷ below n) i
    go found (inl lesser) = let rest = found lesser in (suc rest.0, rest.1)
    go found (inr same) = (zero, ap Some same)

-- ---- trees that are no deeper than this

abbrev mutual
  IsNoDeeper : ℕ → Tree → Type 0
  IsNoDeeper depth (Leaf from to) = Unit {0}
  IsNoDeeper zero (Node rule alternative from to children) = ⊥
  IsNoDeeper (suc depth) (Node rule alternative from to children) = AreNoDeeper depth children

  AreNoDeeper : ℕ → Trees → Type 0
  AreNoDeeper depth Nil = Unit {0}
  AreNoDeeper depth (Cons first others) = IsNoDeeper depth first × AreNoDeeper depth others

abbrev IsTreeOf : PosedProblem → ℕ → Cell → Tree → Type 0
IsTreeOf p depth cell tree = Derives p cell tree × IsNoDeeper depth tree

abbrev AreChildrenOf : PosedProblem → ℕ → List Arg → ℕ → ℕ → Trees → Type 0
AreChildrenOf p depth arguments from to children =
    DeriveArguments p arguments from to children × AreNoDeeper depth children

module _ (p : PosedProblem) (depth : ℕ) (each : (cell : Cell) → HasAll (IsTreeOf p depth cell)) where
  no_arguments : (from to : ℕ) (children : Trees) → AreChildrenOf p depth [] from to children → IsIn (Nil ∷ []) children
  no_arguments from to Nil h = (zero, refl)
  no_arguments from to (Cons first others) h = absurd h.0

  -- the lists of children that begin with a tree of the rule, or with a leaf
  abbrev with_trees : ℕ → ℕ → (ℕ → List Trees) → List Trees
  with_trees rule from rest =
      joined
      (λ end. joined (λ first. map (Cons first) (rest end)) ((each (record { rule = rule; from = from; to = end })).0))
      (below (suc (length p.word)))

  abbrev with_leaves : ℕ → (ℕ → List Trees) → List Trees
  with_leaves from rest = joined (λ end. map (Cons (Leaf from end)) (rest end)) (below (suc (length p.word)))

  rule_all : (rule : ℕ) (arguments : List Arg) (from to : ℕ)
      → ((end : ℕ) → HasAll (AreChildrenOf p depth arguments end to))
      → HasAll (AreChildrenOf p depth (Rule rule ∷ arguments) from to)
  rule_all rule arguments from to rest = (with_trees rule from (λ end. (rest end).0), has)
    where
      found : (first : Tree) (others : Trees) → Derives p (record { rule = rule; from = from; to = end_of first }) first
          → IsNoDeeper depth first → AreChildrenOf p depth arguments (end_of first) to others
          → IsIn (with_trees rule from (λ end. (rest end).0)) (Cons first others)
      found first others derived shallow h =
          let cell : Cell = record { rule = rule; from = from; to = end_of first } in
          let behind = (rest (end_of first)).1 others h in
          let at_first = (each cell).1 first (derived, shallow) in
          let at_end =
          in_below (suc (length p.word)) (end_of first)
          (let span = span_derived p cell first derived in let inside = span.in_word in omega arith) in
          in_joined (λ end. joined (λ tree. map (Cons tree) (rest end).0) ((each (record { rule = rule; from = from; to = end })).0))
          (below (suc (length p.word))) at_end.0 (end_of first) (Cons first others) at_end.1
          (in_joined (λ tree. map (Cons tree) (rest (end_of first)).0) ((each cell).0) at_first.0 first (Cons first others) at_first.1
          (in_mapped (Cons first) (rest (end_of first)).0 behind.0 others behind.1))

      has : (children : Trees) → AreChildrenOf p depth (Rule rule ∷ arguments) from to children
          → IsIn (with_trees rule from (λ end. (rest end).0)) children
      has Nil h = absurd h.0
      has (Cons first others) h = found first others h.0.0 h.1.0 (h.0.1, h.1.1)

  leaf_found : (token : Arg) (arguments : List Arg) (from to : ℕ)
      (rest : (end : ℕ) → HasAll (AreChildrenOf p depth arguments end to))
      (first : Tree) (others : Trees) → IsMatchingLeaf p token from first
      → AreChildrenOf p depth arguments (end_of first) to others
      → IsIn (with_leaves from (λ end. (rest end).0)) (Cons first others)
  leaf_found token arguments from to rest (Node rule alternative from' to' children) others leaf h = absurd leaf
  leaf_found token arguments from to rest (Leaf from' end) others leaf h =
      let behind = (rest end).1 others h in
      let at_end =
      in_below (suc (length p.word)) end (let span = leaf.1 in let inside = span.in_word in omega arith) in
      subst (λ x. IsIn (with_leaves from (λ e. (rest e).0)) (Cons (Leaf x end) others)) (sym leaf.0)
      (in_joined (λ e. map (Cons (Leaf from e)) (rest e).0) (below (suc (length p.word))) at_end.0 end
      (Cons (Leaf from end) others) at_end.1
      (in_mapped (Cons (Leaf from end)) (rest end).0 behind.0 others behind.1))

  leaf_all : (token : Arg) (arguments : List Arg) (from to : ℕ)
      (rest : (end : ℕ) → HasAll (AreChildrenOf p depth arguments end to)) (first : Tree) (others : Trees)
      → IsMatchingLeaf p token from first × DeriveArguments p arguments (end_of first) to others
      → AreNoDeeper depth others → IsIn (with_leaves from (λ end. (rest end).0)) (Cons first others)
  leaf_all token arguments from to rest first others h shallow =
      leaf_found token arguments from to rest first others h.0 (h.1, shallow)

  argument_all : (token : Arg) (arguments : List Arg) (from to : ℕ)
      (rest : (end : ℕ) → HasAll (AreChildrenOf p depth arguments end to))
      → HasAll (AreChildrenOf p depth (token ∷ arguments) from to)
  argument_all (Rule rule) arguments from to rest = rule_all rule arguments from to rest
  argument_all token arguments from to rest = (with_leaves from (λ end. (rest end).0), has)
    where
      has : (children : Trees) → AreChildrenOf p depth (token ∷ arguments) from to children
          → IsIn (with_leaves from (λ end. (rest end).0)) children
      has Nil h = absurd h.0
      has (Cons first others) h = leaf_all token arguments from to rest first others h.0 h.1.1

  children_all : (arguments : List Arg) (from to : ℕ) → HasAll (AreChildrenOf p depth arguments from to)
  children_all [] from to = (Nil ∷ [], no_arguments from to)
  children_all (argument ∷ arguments) from to =
      argument_all argument arguments from to (λ end. children_all arguments end to)

  -- the nodes of an alternative, and of all alternatives
  abbrev nodes_of : Cell → ℕ → List Tree
  nodes_of cell alternative =
      map (Node cell.rule alternative cell.from cell.to)
      (children_all (arguments_of p.grammar cell.rule alternative) cell.from cell.to).0

  deeper_all : (cell : Cell) → HasAll (IsTreeOf p (suc depth) cell)
  deeper_all cell = (joined (nodes_of cell) (below (length (alternatives_of p.grammar cell.rule))), has)
    where
      has : (tree : Tree) → IsTreeOf p (suc depth) cell tree
          → IsIn (joined (nodes_of cell) (below (length (alternatives_of p.grammar cell.rule)))) tree
      has (Leaf from to) h = absurd h.0
      has (Node rule alternative from to children) h =
          let d = h.0 in
          let same : Node cell.rule alternative cell.from cell.to children ≡ Node rule alternative from to children =
          cc (d.0, d.1, d.2) in
          let behind =
          (children_all (arguments_of p.grammar cell.rule alternative) cell.from cell.to).1 children (d.5, h.1) in
          let at = in_below (length (alternatives_of p.grammar cell.rule)) alternative d.4 in
          subst (IsIn (joined (nodes_of cell) (below (length (alternatives_of p.grammar cell.rule))))) same
          (in_joined (nodes_of cell) (below (length (alternatives_of p.grammar cell.rule))) at.0 alternative
          (Node cell.rule alternative cell.from cell.to children) at.1
          (in_mapped (Node cell.rule alternative cell.from cell.to)
          (children_all (arguments_of p.grammar cell.rule alternative) cell.from cell.to).0 behind.0 children behind.1))

trees_all : (p : PosedProblem) (depth : ℕ) (cell : Cell) → HasAll (IsTreeOf p depth cell)
trees_all p zero cell = ([], none)
  where
    none : (tree : Tree) → IsTreeOf p zero cell tree → IsIn [] tree
    none (Leaf from to) h = absurd h.0
    none (Node rule alternative from to children) h = absurd h.1
trees_all p (suc depth) cell = deeper_all p depth (trees_all p depth) cell

-- ---- how deep a derived tree is

module _ (p : PosedProblem) (laid : ArePlaced p) (sound : (cell : Cell) (tree : Tree) → Derives p cell tree
    → IsWithinSizes p.grammar cell.rule (cell.to - cell.from)) (measure : Cell → ℕ)
    (falls : (cell child : Cell) → IsDemandedChild p cell child → measure child < measure cell) where
  mutual
    no_deeper : (depth : ℕ) (cell : Cell) (tree : Tree) → Derives p cell tree → measure cell < depth
        → IsNoDeeper depth tree
    no_deeper depth cell (Leaf from to) d less = tt
    no_deeper zero cell (Node rule alternative from to children) d less = absurd (omega arith)
    no_deeper (suc depth) cell (Node rule alternative from to children) d less =
        children_no_deeper depth (measure cell) (arguments_of p.grammar cell.rule alternative) cell.from cell.to children d.5
        (falls_derived p sound laid measure falls cell alternative children d.4 d.6 d.5) (omega arith)

    children_no_deeper : (depth bound : ℕ) (arguments : List Arg) (from to : ℕ) (children : Trees)
        → DeriveArguments p arguments from to children
        → AllByRecursion (AtRule (λ child. measure child < bound)) (place arguments from (ends_of children))
        → bound ≤ depth → AreNoDeeper depth children
    children_no_deeper depth bound arguments from to Nil h below most = tt
    children_no_deeper depth bound [] from to (Cons first others) h below most = absurd h
    children_no_deeper depth bound (Rule rule ∷ arguments) from to (Cons first others) h below most =
        let cell : Cell = record { rule = rule; from = from; to = end_of first } in
        let less : measure cell < bound = below.0 in (
          no_deeper depth cell first h.0 (omega arith),
          children_no_deeper depth bound arguments (end_of first) to others h.1 below.1 most,
        )
    children_no_deeper depth bound (token ∷ arguments) from to (Cons (Leaf from' end) others) h below most =
        (tt, children_no_deeper depth bound arguments end to others h.1 below.1 most)
    children_no_deeper depth bound (token ∷ arguments) from to
        (Cons (Node rule alternative from' to' children) others) h below most = absurd h.0

  derived_all : (cell : Cell) → HasAll (Derives p cell)
  derived_all cell =
      let all = trees_all p (suc (measure cell)) cell in
      (all.0, λ tree derived. all.1 tree (derived, no_deeper (suc (measure cell)) cell tree derived (omega arith)))

-- ---- sorting

module _ {X : Type 0} (R : X → X → Type 0) (Holds : X → Type 0) (transitive : (x y z : X) → R x y → R y z → R x z)
    (total : (x y : X) → Holds x → Holds y → (x ≡ y) ⊎ (R x y ⊎ R y x)) where
  record IsInserted (x : X) (items others : List X) : Type 0 where
    in_order : AreInOrder R others
    from : AllByRecursion (λ y. (y ≡ x) ⊎ IsIn items y) others
    has : IsIn others x
    keeps : (y : X) → IsIn items y → IsIn others y

  inserted : (x : X) (items : List X) → Holds x → AllByRecursion Holds items → AreInOrder R items
      → (others : List X) × IsInserted x items others
  inserted x [] holds all ordered = (
    x ∷ [],
    record { in_order = (tt, tt); from = (inl refl, tt); has = (zero, refl); keeps = λ y stands. absurd (nothing_at [] y stands.1) },
  )
  inserted x (y ∷ items) holds all ordered = go (inserted x items holds all.1 ordered.1) (total x y holds all.0)
    where
      own : AllByRecursion (λ z. (z ≡ x) ⊎ IsIn (y ∷ items) z) (y ∷ items)
      own = all_told (λ z. (z ≡ x) ⊎ IsIn (y ∷ items) z) (y ∷ items) (λ z stands. inr stands)

      behind : R y x → (z : X) → (z ≡ x) ⊎ IsIn items z → R y z
      behind after z (inl same) = subst (R y) (sym same) after
      behind after z (inr stands) = all_at (R y) items stands.0 z ordered.0 stands.1

      wider : (z : X) → (z ≡ x) ⊎ IsIn items z → (z ≡ x) ⊎ IsIn (y ∷ items) z
      wider z (inl same) = inl same
      wider z (inr stands) = inr (suc stands.0, stands.1)

      kept : (others : List X) → ((z : X) → IsIn items z → IsIn others z) → (z : X) (at : ℕ) → IsAt (y ∷ items) at z
          → IsIn (y ∷ others) z
      kept others keeps z zero at = (zero, at)
      kept others keeps z (suc earlier) at = let rest = keeps z (earlier, at) in (suc rest.0, rest.1)

      go : ((others : List X) × IsInserted x items others) → (x ≡ y) ⊎ (R x y ⊎ R y x)
          → (others : List X) × IsInserted x (y ∷ items) others
      go rest (inl same) =
          (y ∷ items, record { in_order = ordered; from = own; has = (zero, ap Some (sym same)); keeps = λ z stands. stands })
      go rest (inr (inl before)) = (
        x ∷ y ∷ items,
        record {
          in_order = ((before, all_from (R y) (R x) (λ z later. transitive x y z before later) items ordered.0), ordered);
          from = (inl refl, own);
          has = (zero, refl);
          keeps = λ z stands. (suc stands.0, stands.1);
        },
      )
      go rest (inr (inr after)) = (
        y ∷ rest.0,
        record {
          in_order = (all_from (λ z. (z ≡ x) ⊎ IsIn items z) (R y) (behind after) rest.0 rest.1.from, rest.1.in_order);
          from = (
            inr (zero, refl),
            all_from (λ z. (z ≡ x) ⊎ IsIn items z) (λ z. (z ≡ x) ⊎ IsIn (y ∷ items) z) wider rest.0 rest.1.from,
          );
          has = (suc rest.1.has.0, rest.1.has.1);
          keeps = λ z stands. kept rest.0 rest.1.keeps z stands.0 stands.1;
        },
      )

  record IsSortedFrom (items others : List X) : Type 0 where
    hold : AllByRecursion Holds others
    in_order : AreInOrder R others
    keeps : (x : X) → Holds x → IsIn items x → IsIn others x

  sorted : ((x : X) → Decided (Holds x)) → (items : List X) → (others : List X) × IsSortedFrom items others
  sorted decided [] = ([], record { hold = tt; in_order = tt; keeps = λ x holds stands. stands })
  sorted decided (x ∷ items) = go (sorted decided items) (decided x)
    where
      held : (others : List X) → Holds x → AllByRecursion Holds others → (z : X) → (z ≡ x) ⊎ IsIn others z → Holds z
      held others holds all z (inl same) = subst Holds (sym same) holds
      held others holds all z (inr stands) = all_at Holds others stands.0 z all stands.1

      dropped : (Holds x → ⊥) → (others : List X) → ((z : X) → Holds z → IsIn items z → IsIn others z) → (z : X)
          → Holds z → (place : ℕ) → IsAt (x ∷ items) place z → IsIn others z
      dropped wrong others keeps z holds zero at = let same : x ≡ z = cc in absurd (wrong (subst Holds (sym same) holds))
      dropped wrong others keeps z holds (suc place) at = keeps z holds (place, at)

      added : (others more : List X) → ((z : X) → Holds z → IsIn items z → IsIn others z) → IsInserted x others more
          → (z : X) → Holds z → (place : ℕ) → IsAt (x ∷ items) place z → IsIn more z
      added others more keeps put z holds zero at = let same : x ≡ z = cc in subst (IsIn more) same put.has
      added others more keeps put z holds (suc place) at = put.keeps z (keeps z holds (place, at))

      go : (others : List X) × IsSortedFrom items others → Decided (Holds x)
          → (others : List X) × IsSortedFrom (x ∷ items) others
      go rest (inr wrong) = (
        rest.0,
        record {
          hold = rest.1.hold;
          in_order = rest.1.in_order;
          keeps = λ z holds stands. dropped wrong rest.0 rest.1.keeps z holds stands.0 stands.1;
        },
      )
      go rest (inl holds) =
          let put = inserted x rest.0 holds rest.1.hold rest.1.in_order in (
            put.0,
            record {
              hold = all_from (λ z. (z ≡ x) ⊎ IsIn rest.0 z) Holds (held rest.0 holds rest.1.hold) put.0 put.1.from;
              in_order = put.1.in_order;
              keeps = λ z h stands. added rest.0 put.0 rest.1.keeps put.1 z h stands.0 stands.1;
            },
          )

-- ---- the first of all trees

first_of_all : (p : PosedProblem) (cell : Cell) (k : ℕ) (all : List Tree) → AllByRecursion (Derives p cell) all
    → AreInOrder (IsBefore p) all → ((tree : Tree) → Derives p cell tree → IsIn all tree)
    → AreFirst p cell k (take k all)
first_of_all p cell k all derived ordered each = record {
  few = few_taken k all;
  hold = all_taken (Derives p cell) k all derived;
  in_order = in_order_taken (IsBefore p) k all ordered;
  others = λ tree d. let stands = each tree d in taken_or_behind (IsBefore p) k stands.0 all tree ordered stands.1;
}

pub first_trees : (p : PosedProblem) → ArePlaced p
    → ((cell : Cell) (tree : Tree) → Derives p cell tree → IsWithinSizes p.grammar cell.rule (cell.to - cell.from))
    → (measure : Cell → ℕ)
    → ((cell child : Cell) → IsDemandedChild p cell child → measure child < measure cell)
    → ((t u v : Tree) → IsBefore p t u → IsBefore p u v → IsBefore p t v)
    → ((cell : Cell) (t u : Tree) → Derives p cell t → Derives p cell u → (t ≡ u) ⊎ (IsBefore p t u ⊎ IsBefore p u t))
    → (cell : Cell) (k : ℕ) → (trees : List Tree) × AreFirst p cell k trees
first_trees p laid sound measure falls transitive total cell k =
    let all = derived_all p laid sound measure falls cell in
    let found = sorted (IsBefore p) (Derives p cell) transitive (total cell) (derived_or_not p cell) all.0 in (
      take k found.0,
      first_of_all p cell k found.0 found.1.hold found.1.in_order (λ tree d. found.1.keeps tree d (all.1 tree d)),
    )
