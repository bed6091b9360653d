-- Ranks that are no greater make an entry that is not later.
use Rattle.std.proofs.Common.{◌≡◌, ℕ, ◌≤◌, ◌⊎◌, inl, inr, ◌↔◌, List, [], ◌∷◌, refl, sym, ap, ap₂, subst, ◌∙◌}
use Rattle.std.specs.List.{AllZip}
use Rattle.adp_model.specs.declared.grammar.Arg.{Arg}
use Rattle.adp_model.specs.declared.grammar.Arg.TheVariants.{Rule}
use Rattle.adp_model.specs.declared.cell.Cell.{Cell}
use Rattle.adp_model.specs.declared.cell.Choice.{Choice}
use Rattle.adp_model.specs.PosedProblem.{PosedProblem}
use Rattle.adp_model.specs.Parts.{algebra_of, arguments_of}
use Rattle.adp_model.specs.Tree.{Tree, Leaf, Node, Trees, Nil, Cons, end_of, ends_of}
use Rattle.adp_model.specs.Derivation.{Derives, DeriveArguments}
use Rattle.adp_model.specs.Preference.{cuts_of, IsBefore}
use Rattle.adp_model.specs.Answers.{choice_of}
use Rattle.first_trees.specs.FirstTrees.{HasPlace}
use Rattle.first_trees.specs.Entries.{Entry, AreRanks, IsEntry, EntryPrecedes}
use Rattle.first_trees.proofs.Following.{ArePlaced, leaf_unique}
use Rattle.first_trees.proofs.Ordering.{no_later_place, second_derived, ends_same, first_ranks, second_ranks}
use Rattle.first_trees.proofs.Orderly.{IsOrderly}
use Rattle.first_trees.proofs.Choices.{IsNoLater, AreNoLater, cons_no_later, with_tree, node_no_later}

module _ (p : PosedProblem) (irreflexive : (t : Tree) → IsBefore p t t → ⊥)
    (transitive : (t u v : Tree) → IsBefore p t u → IsBefore p u v → IsBefore p t v) where
  children_lowered : (k : ℕ) (arguments : List Arg) (from to : ℕ) (ts us : Trees) (ranks others : List ℕ)
      → DeriveArguments p arguments from to ts → DeriveArguments p arguments from to us → ends_of ts ≡ ends_of us
      → AreRanks p k arguments from ts ranks → AreRanks p k arguments from us others → AllZip ◌≤◌ ranks others
      → AreNoLater p arguments from to us ts
  children_lowered k [] from to Nil Nil ranks others h h' ends r r' most =
      record { derived = h; ends_are = refl; good = tt; no_later = inl refl }
  children_lowered k [] from to Nil (Cons u us) ranks others h h' ends r r' most = absurd h'
  children_lowered k [] from to (Cons t ts) us ranks others h h' ends r r' most = absurd h
  children_lowered k (argument ∷ arguments) from to Nil us ranks others h h' ends r r' most = absurd h
  children_lowered k (argument ∷ arguments) from to (Cons t ts) Nil ranks others h h' ends r r' most = absurd h'
  children_lowered k (Rule rule ∷ arguments) from to (Cons t ts) (Cons u us) [] others h h' ends r r' most = absurd r
  children_lowered k (Rule rule ∷ arguments) from to (Cons t ts) (Cons u us) (rank ∷ ranks) [] h h' ends r r' most =
      absurd r'
  children_lowered k (Rule rule ∷ arguments) from to (Cons t ts) (Cons u us) (rank ∷ ranks)
      (other ∷ others) h h' ends r r' most =
      let end : end_of t ≡ end_of u = cc in
      let cell : Cell = record { rule = rule; from = from; to = end_of u } in
      let place : HasPlace p k cell t rank =
      subst (λ e. HasPlace p k (record { rule = rule; from = from; to = e }) t rank) end r.0 in
      with_tree p rule arguments from to t u ts us
      (subst (λ e. Derives p (record { rule = rule; from = from; to = e }) t) end h.0)
      (no_later_place p irreflexive transitive k cell t u rank other place r'.0 most.0)
      (children_lowered k arguments (end_of u) to ts us ranks others
      (subst (λ e. DeriveArguments p arguments e to ts) end h.1) h'.1 (cc)
      (subst (λ e. AreRanks p k arguments e ts ranks) end r.1) r'.1 most.1)
  children_lowered k (token ∷ arguments) from to (Cons t ts) (Cons u us) ranks others h h' ends r r' most =
      let end : end_of t ≡ end_of u = cc in
      let same : t ≡ u = leaf_unique p token from t u h.0 h'.0 end in
      let rest =
      children_lowered k arguments (end_of u) to ts us ranks others
      (subst (λ e. DeriveArguments p arguments e to ts) end h.1) h'.1 (cc)
      (subst (λ e. AreRanks p k arguments e ts ranks) end r) r' most in
      record {
        derived = h;
        ends_are = ap₂ (λ x xs. x ∷ xs) end rest.ends_are;
        good = (same, rest.good);
        no_later = cons_no_later p t u ts us (inl same) rest.no_later;
      }

  module _ (orderly : IsOrderly p) (placed : ArePlaced p) (k : ℕ) (cell : Cell) where
    nodes_lowered : (rule alternative from to : ℕ) (ts : Trees) (rule' alternative' from' to' : ℕ) (us : Trees)
        (ranks others : List ℕ) → Derives p cell (Node rule alternative from to ts)
        → Derives p cell (Node rule' alternative' from' to' us)
        → AreRanks p k (arguments_of p.grammar rule alternative) from ts ranks
        → AreRanks p k (arguments_of p.grammar rule' alternative') from' us others
        → alternative ≡ alternative' → cuts_of to ts ≡ cuts_of to' us → AllZip ◌≤◌ ranks others
        → IsNoLater p (Node rule alternative from to ts) (Node rule' alternative' from' to' us)
    nodes_lowered rule alternative from to ts rule' alternative' from' to' us ranks others d d' r r' one cuts most =
        let derived =
        second_derived p irreflexive transitive placed k cell rule alternative from to ts
        rule' alternative' from' to' us d d' one in
        let ends =
        ends_same p irreflexive transitive placed k cell rule alternative from to ts
        rule' alternative' from' to' us d d' one cuts in
        let own =
        first_ranks p irreflexive transitive placed k cell rule alternative from to ts
        rule' alternative' from' to' us d d' ranks others r r' in
        let other =
        second_ranks p irreflexive transitive placed k cell rule alternative from to ts
        rule' alternative' from' to' us d d' ranks others r r' one in
        let put =
        children_lowered k (arguments_of p.grammar cell.rule alternative) cell.from cell.to ts us ranks others
        d.5 derived ends own other most in
        let good = orderly cell.rule alternative cell.from cell.to ts us d.4 d.5 derived put.good in
        let own_cuts : cuts_of cell.to ts ≡ cuts_of cell.to us =
        sym (ap (λ x. cuts_of x ts) d.2) ∙ cuts ∙ ap (λ x. cuts_of x us) d'.2 in
        let first : Node cell.rule alternative cell.from cell.to ts ≡ Node rule alternative from to ts = cc (d.0, d.1, d.2) in
        let second : Node cell.rule alternative cell.from cell.to us ≡ Node rule' alternative' from' to' us =
        cc (d'.0, d'.1, d'.2, one) in
        subst (λ x. IsNoLater p x (Node rule' alternative' from' to' us)) first
        (subst (IsNoLater p (Node cell.rule alternative cell.from cell.to ts)) second
        (node_no_later p irreflexive transitive orderly cell.rule alternative cell.from cell.to ts us good own_cuts
        put.no_later))

    trees_lowered : (t u : Tree) (first second : Entry) → Derives p cell t → Derives p cell u → IsEntry p k t first
        → IsEntry p k u second → first.choice ≡ second.choice → AllZip ◌≤◌ first.ranks second.ranks → IsNoLater p t u
    trees_lowered (Leaf from to) u first second d d' e e' choice most = absurd d
    trees_lowered (Node rule alternative from to ts) (Leaf from' to') first second d d' e e' choice most = absurd d'
    trees_lowered (Node rule alternative from to ts) (Node rule' alternative' from' to' us) first second d d' e e' choice most =
        let chosen : choice_of (Node rule alternative from to ts) ≡ choice_of (Node rule' alternative' from' to' us) =
        sym e.1 ∙ choice ∙ e'.1 in
        nodes_lowered rule alternative from to ts rule' alternative' from' to' us first.ranks second.ranks d d' e.2 e'.2
        (ap (λ (c : Choice). c.alt) chosen) (ap (λ (c : Choice). c.cuts) chosen) most

    pub entries_lowered : ((tree : Tree) (first second : Entry) → IsEntry p k tree first → IsEntry p k tree second
        → first ≡ second)
        → ((t u : Tree) (first second : Entry) → Derives p cell t → Derives p cell u → IsEntry p k t first
        → IsEntry p k u second → IsBefore p t u ↔ EntryPrecedes (algebra_of p).goal first second)
        → (first second : Entry) → ((tree : Tree) × Derives p cell tree × IsEntry p k tree first)
        → ((tree : Tree) × Derives p cell tree × IsEntry p k tree second) → first.choice ≡ second.choice
        → AllZip ◌≤◌ first.ranks second.ranks → (first ≡ second) ⊎ EntryPrecedes (algebra_of p).goal first second
    entries_lowered unique order first second one two choice most =
        go (trees_lowered one.0 two.0 first second one.1 two.1 one.2 two.2 choice most)
      where
        go : IsNoLater p one.0 two.0 → (first ≡ second) ⊎ EntryPrecedes (algebra_of p).goal first second
        go (inl same) =
            inl (unique two.0 first second (subst (λ tree. IsEntry p k tree first) same one.2) two.2)
        go (inr before) = inr ((order one.0 two.0 first second one.1 two.1 one.2 two.2).0 before)
