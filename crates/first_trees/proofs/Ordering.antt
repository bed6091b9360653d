-- Entries are in the order of their trees.
use Rattle.std.proofs.Common.{◌≡◌, ℕ, ◌<◌, ◌⊎◌, inl, inr, ◌↔◌, List, [], ◌∷◌, refl, sym, ap, ap₂, subst, ◌∙◌, arith, ◌≤◌, take}
use Rattle.adp_model.specs.declared.grammar.Arg.{Arg}
use Rattle.adp_model.specs.declared.grammar.Arg.TheVariants.{Rule}
use Rattle.adp_model.specs.declared.cell.Cell.{Cell}
use Rattle.adp_model.specs.declared.cell.Choice.{Choice}
use Rattle.adp_model.specs.PosedProblem.{PosedProblem}
use Rattle.adp_model.specs.Parts.{algebra_of, arguments_of}
use Rattle.adp_model.specs.Tree.{Tree, Leaf, Node, Trees, Nil, Cons, end_of, ends_of}
use Rattle.adp_model.specs.Derivation.{Derives, DeriveArguments, IsMatchingLeaf}
use Rattle.adp_model.specs.Scores.{score_of, IsBetter}
use Rattle.adp_model.specs.Preference.{cuts_of, LexicographicallyLess, FirstDifferencePrecedes, IsBefore}
use Rattle.adp_model.specs.Answers.{choice_of}
use Rattle.first_trees.specs.FirstTrees.{IsAt, AreFirst, HasPlace}
use Rattle.first_trees.specs.Entries.{Entry, AreRanks, IsEntry, EntryPrecedes}
use Rattle.first_trees.proofs.Lists.{some_one, order_at, taken_at}
use Rattle.first_trees.proofs.Listed.{list_unique, list_shortened}
use Rattle.first_trees.proofs.Following.{ArePlaced, ends_unique, leaf_unique}

-- at the first child that differs, the child is before
abbrev pub FirstDifference : PosedProblem → Trees → Trees → Type 0
FirstDifference p ts us = FirstDifferencePrecedes (IsBetter (algebra_of p).goal) (score_of p) ts us

either_moves : {A A' B B' C C' : Type 0} → A ↔ A' → B ↔ B' → C ↔ C' → (A ⊎ (B × C)) ↔ (A' ⊎ (B' × C'))
either_moves {A} {A'} {B} {B'} {C} {C'} a b c = (there, back)
  where
    there : A ⊎ (B × C) → A' ⊎ (B' × C')
    there (inl x) = inl (a.0 x)
    there (inr y) = inr (b.0 y.0, c.0 y.1)

    back : A' ⊎ (B' × C') → A ⊎ (B × C)
    back (inl x) = inl (a.1 x)
    back (inr y) = inr (b.1 y.0, c.1 y.1)

-- leaves are never before one another
leaf_first : (p : PosedProblem) (token : Arg) (from : ℕ) (t u : Tree) (ts us : Trees) (Less : Type 0)
    → IsMatchingLeaf p token from t → t ≡ u → FirstDifference p ts us ↔ Less
    → FirstDifference p (Cons t ts) (Cons u us) ↔ Less
leaf_first p token from (Leaf begin end) u ts us Less leaf same rest = (there, λ h. inr (same, rest.1 h))
  where
    there : FirstDifference p (Cons (Leaf begin end) ts) (Cons u us) → Less
    there (inl h) = absurd h
    there (inr h) = rest.0 h.1
leaf_first p token from (Node rule alternative begin end children) u ts us Less leaf same rest = absurd leaf

number_order : (m n : ℕ) → (m < n) ⊎ ((m ≡ n) ⊎ (n < m))
number_order m n = grind arith

number_total : (m n : ℕ) → (m ≤ n) ⊎ (n ≤ m)
number_total m n = grind arith

module _ (p : PosedProblem) (irreflexive : (t : Tree) → IsBefore p t t → ⊥)
    (transitive : (t u v : Tree) → IsBefore p t u → IsBefore p u v → IsBefore p t v) where
  -- ---- places in one list

  in_one_list : (k : ℕ) (cell : Cell) (u : Tree) (j : ℕ) (trees : List Tree) → AreFirst p cell k trees
      → HasPlace p k cell u j → IsAt trees j u
  in_one_list k cell u j trees first place =
      subst (λ list. IsAt list j u) (list_unique p irreflexive transitive cell k place.0 trees place.1 first) place.2

  same_place : (k : ℕ) (cell : Cell) (t u : Tree) (i j : ℕ) → HasPlace p k cell t i → HasPlace p k cell u j → i ≡ j
      → t ≡ u
  same_place k cell t u i j place other same =
      let at : IsAt place.0 j u = in_one_list k cell u j place.0 place.1 other in
      some_one t u (sym place.2 ∙ subst (λ n. IsAt place.0 n u) (sym same) at)

  earlier_place : (k : ℕ) (cell : Cell) (t u : Tree) (i j : ℕ) → HasPlace p k cell t i → HasPlace p k cell u j → i < j
      → IsBefore p t u
  earlier_place k cell t u i j place other less =
      order_at (IsBefore p) place.0 i j t u place.1.in_order place.2 (in_one_list k cell u j place.0 place.1 other) less

  same_tree : (k : ℕ) (cell : Cell) (t u : Tree) (i j : ℕ) → HasPlace p k cell t i → HasPlace p k cell u j → t ≡ u
      → i ≡ j
  same_tree k cell t u i j place other same = go (number_order i j)
    where
      go : (i < j) ⊎ ((i ≡ j) ⊎ (j < i)) → i ≡ j
      go (inl less) =
          absurd (irreflexive u (subst (λ x. IsBefore p x u) same (earlier_place k cell t u i j place other less)))
      go (inr (inl e)) = e
      go (inr (inr less)) =
          absurd (irreflexive u (subst (IsBefore p u) same (earlier_place k cell u t j i other place less)))

  earlier_tree : (k : ℕ) (cell : Cell) (t u : Tree) (i j : ℕ) → HasPlace p k cell t i → HasPlace p k cell u j
      → IsBefore p t u → i < j
  earlier_tree k cell t u i j place other before = go (number_order i j)
    where
      go : (i < j) ⊎ ((i ≡ j) ⊎ (j < i)) → i < j
      go (inl less) = less
      go (inr (inl e)) =
          absurd (irreflexive u (subst (λ x. IsBefore p x u) (same_place k cell t u i j place other e) before))
      go (inr (inr less)) =
          absurd (irreflexive t (transitive t u t before (earlier_place k cell u t j i other place less)))

  longer_place : (k fewer : ℕ) (cell : Cell) (tree : Tree) (place other : ℕ) → fewer ≤ k → HasPlace p k cell tree place
      → HasPlace p fewer cell tree other → HasPlace p k cell tree other
  longer_place k fewer cell tree place other less longer shorter =
      let same : shorter.0 ≡ take fewer longer.0 =
      list_unique p irreflexive transitive cell fewer shorter.0 (take fewer longer.0) shorter.1
      (list_shortened p cell k fewer longer.0 less longer.1) in (
        longer.0,
        longer.1,
        taken_at fewer longer.0 other tree (subst (λ list. IsAt list other tree) same shorter.2),
      )

  -- a tree has one place in all lists of its cell
  pub place_unique : (k other_k : ℕ) (cell : Cell) (tree : Tree) (place other : ℕ) → HasPlace p k cell tree place
      → HasPlace p other_k cell tree other → place ≡ other
  place_unique k other_k cell tree place other at at' = go (number_total k other_k)
    where
      go : (k ≤ other_k) ⊎ (other_k ≤ k) → place ≡ other
      go (inl less) =
          same_tree other_k cell tree tree place other (longer_place other_k k cell tree other place less at' at) at' refl
      go (inr less) =
          same_tree k cell tree tree place other at (longer_place k other_k cell tree place other less at at') refl

  -- a lower place is not later
  pub no_later_place : (k : ℕ) (cell : Cell) (t u : Tree) (i j : ℕ) → HasPlace p k cell t i → HasPlace p k cell u j
      → i ≤ j → (t ≡ u) ⊎ IsBefore p t u
  no_later_place k cell t u i j place other most = go (number_order i j)
    where
      go : (i < j) ⊎ ((i ≡ j) ⊎ (j < i)) → (t ≡ u) ⊎ IsBefore p t u
      go (inl less) = inr (earlier_place k cell t u i j place other less)
      go (inr (inl e)) = inl (same_place k cell t u i j place other e)
      go (inr (inr less)) = absurd (omega arith)

  -- the other child's place, in the cell of the first
  abbrev HasRank : ℕ → ℕ → ℕ → ℕ → Tree → ℕ → Type 0
  HasRank k rule from to tree rank = HasPlace p k (record { rule = rule; from = from; to = to }) tree rank

  -- ---- children

  children_ordered : (k : ℕ) (arguments : List Arg) (from to : ℕ) (ts us : Trees) (ranks others : List ℕ)
      → DeriveArguments p arguments from to ts → DeriveArguments p arguments from to us → ends_of ts ≡ ends_of us
      → AreRanks p k arguments from ts ranks → AreRanks p k arguments from us others
      → FirstDifference p ts us ↔ LexicographicallyLess ranks others
  children_ordered k [] from to Nil us [] others h h' ends r r' = ((λ x. x), (λ x. x))
  children_ordered k [] from to Nil us (rank ∷ ranks) others h h' ends r r' = absurd r
  children_ordered k [] from to (Cons t ts) us ranks others h h' ends r r' = absurd h
  children_ordered k (argument ∷ arguments) from to Nil us ranks others h h' ends r r' = absurd h
  children_ordered k (argument ∷ arguments) from to (Cons t ts) Nil ranks others h h' ends r r' = absurd h'
  children_ordered k (Rule rule ∷ arguments) from to (Cons t ts) (Cons u us) [] others h h' ends r r' = absurd r
  children_ordered k (Rule rule ∷ arguments) from to (Cons t ts) (Cons u us) (rank ∷ ranks) [] h h' ends r r' =
      absurd r'
  children_ordered k (Rule rule ∷ arguments) from to (Cons t ts) (Cons u us) (rank ∷ ranks)
      (other ∷ others) h h' ends r r' =
      let end : end_of t ≡ end_of u = cc in
      let cell : Cell = record { rule = rule; from = from; to = end_of t } in
      let place : HasPlace p k cell t rank = r.0 in
      let place' : HasPlace p k cell u other = subst (λ e. HasRank k rule from e u other) (sym end) r'.0 in
      either_moves
      (earlier_tree k cell t u rank other place place', earlier_place k cell t u rank other place place')
      (same_tree k cell t u rank other place place', same_place k cell t u rank other place place')
      (children_ordered k arguments (end_of t) to ts us ranks others h.1
      (subst (λ e. DeriveArguments p arguments e to us) (sym end) h'.1) (cc) r.1
      (subst (λ e. AreRanks p k arguments e us others) (sym end) r'.1))
  children_ordered k (token ∷ arguments) from to (Cons t ts) (Cons u us) ranks others h h' ends r r' =
      let end : end_of t ≡ end_of u = cc in
      leaf_first p token from t u ts us (LexicographicallyLess ranks others) h.0 (leaf_unique p token from t u h.0 h'.0 end)
      (children_ordered k arguments (end_of t) to ts us ranks others h.1
      (subst (λ e. DeriveArguments p arguments e to us) (sym end) h'.1) (cc) r
      (subst (λ e. AreRanks p k arguments e us others) (sym end) r'))

  -- children of equal ends and equal ranks are the same
  children_same : (k : ℕ) (arguments : List Arg) (from to : ℕ) (ts us : Trees) (ranks : List ℕ)
      → DeriveArguments p arguments from to ts → DeriveArguments p arguments from to us → ends_of ts ≡ ends_of us
      → AreRanks p k arguments from ts ranks → AreRanks p k arguments from us ranks → ts ≡ us
  children_same k [] from to Nil Nil ranks h h' ends r r' = refl
  children_same k [] from to Nil (Cons u us) ranks h h' ends r r' = absurd h'
  children_same k [] from to (Cons t ts) us ranks h h' ends r r' = absurd h
  children_same k (argument ∷ arguments) from to Nil us ranks h h' ends r r' = absurd h
  children_same k (argument ∷ arguments) from to (Cons t ts) Nil ranks h h' ends r r' = absurd h'
  children_same k (Rule rule ∷ arguments) from to (Cons t ts) (Cons u us) [] h h' ends r r' = absurd r
  children_same k (Rule rule ∷ arguments) from to (Cons t ts) (Cons u us) (rank ∷ ranks) h h' ends r r' =
      let end : end_of t ≡ end_of u = cc in
      let cell : Cell = record { rule = rule; from = from; to = end_of t } in
      let place' : HasPlace p k cell u rank = subst (λ e. HasRank k rule from e u rank) (sym end) r'.0 in
      ap₂ (λ x xs. Cons x xs) (same_place k cell t u rank rank r.0 place' refl)
      (children_same k arguments (end_of t) to ts us ranks h.1
      (subst (λ e. DeriveArguments p arguments e to us) (sym end) h'.1) (cc) r.1
      (subst (λ e. AreRanks p k arguments e us ranks) (sym end) r'.1))
  children_same k (token ∷ arguments) from to (Cons t ts) (Cons u us) ranks h h' ends r r' =
      let end : end_of t ≡ end_of u = cc in
      ap₂ (λ x xs. Cons x xs) (leaf_unique p token from t u h.0 h'.0 end)
      (children_same k arguments (end_of t) to ts us ranks h.1
      (subst (λ e. DeriveArguments p arguments e to us) (sym end) h'.1) (cc) r
      (subst (λ e. AreRanks p k arguments e us ranks) (sym end) r'))

  -- children have one list of ranks
  ranks_same : (k : ℕ) (arguments : List Arg) (from : ℕ) (ts : Trees) (ranks others : List ℕ)
      → AreRanks p k arguments from ts ranks → AreRanks p k arguments from ts others → ranks ≡ others
  ranks_same k [] from ts [] [] r r' = refl
  ranks_same k [] from ts [] (other ∷ others) r r' = absurd r'
  ranks_same k [] from ts (rank ∷ ranks) others r r' = absurd r
  ranks_same k (argument ∷ arguments) from Nil ranks others r r' = absurd r
  ranks_same k (Rule rule ∷ arguments) from (Cons t ts) [] others r r' = absurd r
  ranks_same k (Rule rule ∷ arguments) from (Cons t ts) (rank ∷ ranks) [] r r' = absurd r'
  ranks_same k (Rule rule ∷ arguments) from (Cons t ts) (rank ∷ ranks) (other ∷ others) r r' =
      ap₂ (λ x xs. x ∷ xs)
      (same_tree k (record { rule = rule; from = from; to = end_of t }) t t rank other r.0 r'.0 refl)
      (ranks_same k arguments (end_of t) ts ranks others r.1 r'.1)
  ranks_same k (token ∷ arguments) from (Cons t ts) ranks others r r' =
      ranks_same k arguments (end_of t) ts ranks others r r'

  -- ---- trees

  ranks_at_cell : (k : ℕ) (cell : Cell) (rule alternative from to : ℕ) (children : Trees) (ranks : List ℕ)
      → Derives p cell (Node rule alternative from to children)
      → AreRanks p k (arguments_of p.grammar rule alternative) from children ranks
      → AreRanks p k (arguments_of p.grammar cell.rule alternative) cell.from children ranks
  ranks_at_cell k cell rule alternative from to children ranks d r =
      subst (λ r. AreRanks p k (arguments_of p.grammar r alternative) cell.from children ranks) d.0
      (subst (λ x. AreRanks p k (arguments_of p.grammar rule alternative) x children ranks) d.1 r)

  module _ (placed : ArePlaced p) (k : ℕ) (cell : Cell) (rule alternative from to : ℕ) (ts : Trees)
      (rule' alternative' from' to' : ℕ) (us : Trees) (d : Derives p cell (Node rule alternative from to ts))
      (d' : Derives p cell (Node rule' alternative' from' to' us)) where
    pub second_derived : alternative ≡ alternative'
        → DeriveArguments p (arguments_of p.grammar cell.rule alternative) cell.from cell.to us
    second_derived one =
        subst (λ a. DeriveArguments p (arguments_of p.grammar cell.rule a) cell.from cell.to us) (sym one) d'.5

    pub ends_same : alternative ≡ alternative' → cuts_of to ts ≡ cuts_of to' us → ends_of ts ≡ ends_of us
    ends_same one cuts =
        ends_unique p placed cell.rule alternative cell.from cell.to ts us d.5 (second_derived one)
        (sym (ap (λ x. cuts_of x ts) d.2) ∙ cuts ∙ ap (λ x. cuts_of x us) d'.2)

    module _ (ranks others : List ℕ) (r : AreRanks p k (arguments_of p.grammar rule alternative) from ts ranks)
        (r' : AreRanks p k (arguments_of p.grammar rule' alternative') from' us others) where
      pub first_ranks : AreRanks p k (arguments_of p.grammar cell.rule alternative) cell.from ts ranks
      first_ranks = ranks_at_cell k cell rule alternative from to ts ranks d r

      pub second_ranks : alternative ≡ alternative'
          → AreRanks p k (arguments_of p.grammar cell.rule alternative) cell.from us others
      second_ranks one =
          subst (λ a. AreRanks p k (arguments_of p.grammar cell.rule a) cell.from us others) (sym one)
          (ranks_at_cell k cell rule' alternative' from' to' us others d' r')

      below : alternative ≡ alternative' → cuts_of to ts ≡ cuts_of to' us
          → FirstDifference p ts us ↔ LexicographicallyLess ranks others
      below one cuts =
          children_ordered k (arguments_of p.grammar cell.rule alternative) cell.from cell.to ts us ranks others d.5
          (second_derived one) (ends_same one cuts) first_ranks (second_ranks one)

      abbrev first_entry : Entry
      first_entry = record {
        score = score_of p (Node rule alternative from to ts);
        choice = choice_of (Node rule alternative from to ts);
        ranks = ranks;
      }

      abbrev second_entry : Entry
      second_entry = record {
        score = score_of p (Node rule' alternative' from' to' us);
        choice = choice_of (Node rule' alternative' from' to' us);
        ranks = others;
      }

      nodes_there : IsBefore p (Node rule alternative from to ts) (Node rule' alternative' from' to' us)
          → EntryPrecedes (algebra_of p).goal first_entry second_entry
      nodes_there (inl better) = inl (inl better)
      nodes_there (inr (same, inl less)) = inl (inr (same, inl less))
      nodes_there (inr (same, inr (one, inl less))) = inl (inr (same, inr (one, less)))
      nodes_there (inr (same, inr (one, inr (cuts, differ)))) =
          inr (same, (λ i. record { alt = one i; cuts = cuts i }), (below one cuts).0 differ)

      nodes_back : EntryPrecedes (algebra_of p).goal first_entry second_entry
          → IsBefore p (Node rule alternative from to ts) (Node rule' alternative' from' to' us)
      nodes_back (inl (inl better)) = inl better
      nodes_back (inl (inr (same, inl less))) = inr (same, inl less)
      nodes_back (inl (inr (same, inr (one, less)))) = inr (same, inr (one, inl less))
      nodes_back (inr (same, choice, less)) =
          let one : alternative ≡ alternative' = ap (λ (c : Choice). c.alt) choice in
          let cuts : cuts_of to ts ≡ cuts_of to' us = ap (λ (c : Choice). c.cuts) choice in
          inr (same, inr (one, inr (cuts, (below one cuts).1 less)))

    nodes_same : (ranks : List ℕ) → AreRanks p k (arguments_of p.grammar rule alternative) from ts ranks
        → AreRanks p k (arguments_of p.grammar rule' alternative') from' us ranks → alternative ≡ alternative'
        → cuts_of to ts ≡ cuts_of to' us → Node rule alternative from to ts ≡ Node rule' alternative' from' to' us
    nodes_same ranks r r' one cuts =
        let children : ts ≡ us =
        children_same k (arguments_of p.grammar cell.rule alternative) cell.from cell.to ts us ranks d.5 (second_derived one)
        (ends_same one cuts) (first_ranks ranks ranks r r') (second_ranks ranks ranks r r' one) in
        cc (d.0, d.1, d.2, d'.0, d'.1, d'.2)

  pub entries_ordered : ArePlaced p → (k : ℕ) (cell : Cell) (t u : Tree) (first second : Entry) → Derives p cell t
      → Derives p cell u → IsEntry p k t first → IsEntry p k u second
      → IsBefore p t u ↔ EntryPrecedes (algebra_of p).goal first second
  entries_ordered placed k cell (Leaf from to) u first second d d' e e' = absurd d
  entries_ordered placed k cell (Node rule alternative from to ts) (Leaf from' to') first second d d' e e' = absurd d'
  entries_ordered placed k cell (Node rule alternative from to ts) (Node rule' alternative' from' to' us) first second
      d d' e e' =
      let t : Tree = Node rule alternative from to ts in
      let u : Tree = Node rule' alternative' from' to' us in
      let one : Entry = record { score = score_of p t; choice = choice_of t; ranks = first.ranks } in
      let two : Entry = record { score = score_of p u; choice = choice_of u; ranks = second.ranks } in
      let first_is : one ≡ first = λ i. record { score = (sym e.0) i; choice = (sym e.1) i; ranks = first.ranks } in
      let second_is : two ≡ second = λ i. record { score = (sym e'.0) i; choice = (sym e'.1) i; ranks = second.ranks } in
      subst (λ x. IsBefore p t u ↔ EntryPrecedes (algebra_of p).goal x second) first_is
      (subst (λ y. IsBefore p t u ↔ EntryPrecedes (algebra_of p).goal one y) second_is (
        nodes_there placed k cell rule alternative from to ts rule' alternative' from' to' us d d'
            first.ranks second.ranks e.2 e'.2,
        nodes_back placed k cell rule alternative from to ts rule' alternative' from' to' us d d'
            first.ranks second.ranks e.2 e'.2,
      ))

  pub entries_apart : ArePlaced p → (k : ℕ) (cell : Cell) (t u : Tree) (first second : Entry) → Derives p cell t
      → Derives p cell u → IsEntry p k t first → IsEntry p k u second → first.choice ≡ second.choice
      → first.ranks ≡ second.ranks → t ≡ u
  entries_apart placed k cell (Leaf from to) u first second d d' e e' choice ranks = absurd d
  entries_apart placed k cell (Node rule alternative from to ts) (Leaf from' to') first second d d' e e' choice ranks =
      absurd d'
  entries_apart placed k cell (Node rule alternative from to ts) (Node rule' alternative' from' to' us) first second
      d d' e e' choice ranks =
      let chosen : choice_of (Node rule alternative from to ts) ≡ choice_of (Node rule' alternative' from' to' us) =
      sym e.1 ∙ choice ∙ e'.1 in
      nodes_same placed k cell rule alternative from to ts rule' alternative' from' to' us d d' first.ranks e.2
      (subst (AreRanks p k (arguments_of p.grammar rule' alternative') from' us) (sym ranks) e'.2)
      (ap (λ (c : Choice). c.alt) chosen) (ap (λ (c : Choice). c.cuts) chosen)

  pub entry_unique : (k : ℕ) (t : Tree) (first second : Entry) → IsEntry p k t first → IsEntry p k t second
      → first ≡ second
  entry_unique k (Leaf from to) first second e e' = absurd e
  entry_unique k (Node rule alternative from to ts) first second e e' =
      let score : first.score ≡ second.score = e.0 ∙ sym e'.0 in
      let choice : first.choice ≡ second.choice = e.1 ∙ sym e'.1 in
      let ranks : first.ranks ≡ second.ranks =
      ranks_same k (arguments_of p.grammar rule alternative) from ts first.ranks second.ranks e.2 e'.2 in
      λ i. record { score = score i; choice = choice i; ranks = ranks i }
