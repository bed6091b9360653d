-- Children that are chosen from lists, each list of trees that are no later than a tree's own child: they make
-- different trees, none of them later than that tree. So a listed tree's children are listed, and few choices stand
-- before them.
use Rattle.std.proofs.Common.{◌≡◌, ℕ, suc, ◌*◌, ◌<◌, ◌≤◌, ℤ, ◌⊎◌, inl, inr, List, [], ◌∷◌, ◌++◌, length, take, map, refl, sym, ap, ap₂, subst, ◌∙◌, arith}
use Rattle.std.proofs.lemmas.Int.{ints}
use Rattle.std.specs.List.{AllByRecursion}
use Rattle.adp_model.specs.declared.grammar.Arg.{Arg}
use Rattle.adp_model.specs.declared.grammar.Arg.TheVariants.{Rule}
use Rattle.adp_model.specs.declared.grammar.Goal.{Goal}
use Rattle.adp_model.specs.declared.grammar.Goal.TheVariants.{Least, Greatest}
use Rattle.adp_model.specs.declared.cell.Cell.{Cell}
use Rattle.adp_model.specs.PosedProblem.{PosedProblem}
use Rattle.adp_model.specs.Parts.{algebra_of, arguments_of}
use Rattle.adp_model.specs.Tree.{Tree, Leaf, Node, Trees, Nil, Cons, end_of, ends_of}
use Rattle.adp_model.specs.Derivation.{Derives, DeriveArguments}
use Rattle.adp_model.specs.Scores.{score_of, IsBetter}
use Rattle.adp_model.specs.Preference.{cuts_of, IsBefore}
use Rattle.adp_model.specs.Answers.{choice_of}
use Rattle.first_trees.specs.FirstTrees.{AreInOrder, AreFirst, HasPlace}
use Rattle.first_trees.specs.Entries.{Entry, AreRanks, IsEntry, choices_up_to}
use Rattle.first_trees.proofs.Lists.{IsIn, all_at, all_from, all_both, all_taken, in_order_taken}
use Rattle.first_trees.proofs.Listed.{before_listed}
use Rattle.first_trees.proofs.Ordering.{FirstDifference}
use Rattle.first_trees.proofs.Orderly.{IsAsGood, AreAsGood, IsOrderly}
use Rattle.first_trees.proofs.Pigeons.{AreDifferent, no_more, all_appended, all_mapped, length_mapped, length_joined}
use Rattle.first_trees.proofs.Pigeons.{in_order_appended, in_order_mapped, none_later, length_up_to, times_some, some_times}

-- ---- scores

as_good_same : (goal : Goal) (a : ℤ) → IsAsGood goal a a
as_good_same Least a = omega (arith, ints)
as_good_same Greatest a = omega (arith, ints)

as_good_better : (goal : Goal) (a b : ℤ) → IsBetter goal a b → IsAsGood goal a b
as_good_better Least a b h = omega (arith, ints)
as_good_better Greatest a b h = omega (arith, ints)

better_or_same : (goal : Goal) (a b : ℤ) → IsAsGood goal a b → IsBetter goal a b ⊎ (a ≡ b)
better_or_same Least a b h = grind (arith, ints)
better_or_same Greatest a b h = grind (arith, ints)

-- the first is the second, or before it
abbrev pub IsNoLater : PosedProblem → Tree → Tree → Type 0
IsNoLater p t u = (t ≡ u) ⊎ IsBefore p t u

as_good_before : (p : PosedProblem) (t u : Tree) → IsBefore p t u
    → IsAsGood (algebra_of p).goal (score_of p t) (score_of p u)
as_good_before p (Leaf from to) u h = absurd h
as_good_before p (Node rule alternative from to children) (Leaf from' to') h = absurd h
as_good_before p (Node rule alternative from to children) (Node rule' alternative' from' to' children') (inl better) =
    as_good_better _ _ _ better
as_good_before p (Node rule alternative from to children) (Node rule' alternative' from' to' children') (inr h) =
    subst (IsAsGood (algebra_of p).goal (score_of p (Node rule alternative from to children))) h.0 (as_good_same _ _)

as_good_no_later : (p : PosedProblem) (t u : Tree) → IsNoLater p t u
    → IsAsGood (algebra_of p).goal (score_of p t) (score_of p u)
as_good_no_later p t u (inl e) =
    subst (λ x. IsAsGood (algebra_of p).goal (score_of p t) (score_of p x)) e (as_good_same _ _)
as_good_no_later p t u (inr before) = as_good_before p t u before

-- ---- children that are put in place of others

pub record AreNoLater (p : PosedProblem) (arguments : List Arg) (from to : ℕ) (children others : Trees) : Type 0 where
  pub derived : DeriveArguments p arguments from to others
  pub ends_are : ends_of others ≡ ends_of children
  pub good : AreAsGood p (algebra_of p).goal arguments others children
  pub no_later : (others ≡ children) ⊎ FirstDifference p others children

pub cons_no_later : (p : PosedProblem) (t u : Tree) (ts us : Trees) → IsNoLater p t u → (ts ≡ us) ⊎ FirstDifference p ts us
    → (Cons t ts ≡ Cons u us) ⊎ FirstDifference p (Cons t ts) (Cons u us)
cons_no_later p t u ts us (inr before) h = inr (inl before)
cons_no_later p t u ts us (inl e) (inl f) = inl (ap₂ (λ x xs. Cons x xs) e f)
cons_no_later p t u ts us (inl e) (inr h) = inr (inr (e, h))

end_derived : (p : PosedProblem) (cell : Cell) (tree : Tree) → Derives p cell tree → end_of tree ≡ cell.to
end_derived p cell (Leaf from to) d = absurd d
end_derived p cell (Node rule alternative from to children) d = d.2

pub with_tree : (p : PosedProblem) (rule : ℕ) (arguments : List Arg) (from to : ℕ) (t first : Tree) (ts others : Trees)
    → Derives p (record { rule = rule; from = from; to = end_of first }) t → IsNoLater p t first
    → AreNoLater p arguments (end_of first) to others ts
    → AreNoLater p (Rule rule ∷ arguments) from to (Cons first others) (Cons t ts)
with_tree p rule arguments from to t first ts others d no_later r =
    let e : end_of t ≡ end_of first = end_derived p (record { rule = rule; from = from; to = end_of first }) t d in
    record {
      derived = (
        subst (λ x. Derives p (record { rule = rule; from = from; to = x }) t) (sym e) d,
        subst (λ x. DeriveArguments p arguments x to ts) (sym e) r.derived,
      );
      ends_are = ap₂ (λ x xs. x ∷ xs) e r.ends_are;
      good = (as_good_no_later p t first no_later, r.good);
      no_later = cons_no_later p t first ts others no_later r.no_later;
    }

-- ---- choices

-- trees of the cell in order, none of them later than this one
abbrev AreOffered : PosedProblem → Cell → Tree → List Tree → Type 0
AreOffered p cell tree choices =
    AllByRecursion (λ choice. Derives p cell choice × IsNoLater p choice tree) choices
    × AreInOrder (IsBefore p) choices

-- such a list for each child of a rule argument
abbrev AreChoices : PosedProblem → List Arg → ℕ → Trees → List (List Tree) → Type 0
AreChoices p [] from children [] = Unit {0}
AreChoices p [] from children (choices ∷ lists) = ⊥
AreChoices p (argument ∷ arguments) from Nil lists = ⊥
AreChoices p (Rule rule ∷ arguments) from (Cons first others) [] = ⊥
AreChoices p (Rule rule ∷ arguments) from (Cons first others) (choices ∷ lists) =
    AreOffered p (record { rule = rule; from = from; to = end_of first }) first choices
    × AreChoices p arguments (end_of first) others lists
AreChoices p (token ∷ arguments) from (Cons first others) lists = AreChoices p arguments (end_of first) others lists

-- in how many ways children can be chosen
abbrev combinations : List (List Tree) → ℕ
combinations [] = 1
combinations (choices ∷ lists) = length choices * combinations lists

-- each first child with all others
abbrev paired : List Tree → List Trees → List Trees
paired [] rest = []
paired (choice ∷ choices) rest = map (Cons choice) rest ++ paired choices rest

-- all children that can be chosen
abbrev combined : List Arg → Trees → List (List Tree) → List Trees
combined [] children lists = Nil ∷ []
combined (argument ∷ arguments) Nil lists = []
combined (Rule rule ∷ arguments) (Cons first others) [] = []
combined (Rule rule ∷ arguments) (Cons first others) (choices ∷ lists) =
    paired choices (combined arguments others lists)
combined (token ∷ arguments) (Cons first others) lists = map (Cons first) (combined arguments others lists)

-- ---- how many

length_paired : (choices : List Tree) (rest : List Trees) → length (paired choices rest) ≡ length choices * length rest
length_paired [] rest = omega arith
length_paired (choice ∷ choices) rest =
    let joined = length_joined (map (Cons choice) rest) (paired choices rest) in
    let mapped = length_mapped (Cons choice) rest in
    let behind = length_paired choices rest in
    omega arith

length_combined : (p : PosedProblem) (arguments : List Arg) (from : ℕ) (children : Trees) (lists : List (List Tree))
    → AreChoices p arguments from children lists → length (combined arguments children lists) ≡ combinations lists
length_combined p [] from children [] h = refl
length_combined p [] from children (choices ∷ lists) h = absurd h
length_combined p (argument ∷ arguments) from Nil lists h = absurd h
length_combined p (Rule rule ∷ arguments) from (Cons first others) [] h = absurd h
length_combined p (Rule rule ∷ arguments) from (Cons first others) (choices ∷ lists) h =
    length_paired choices (combined arguments others lists)
    ∙ ap (λ n. length choices * n) (length_combined p arguments (end_of first) others lists h.1)
length_combined p (token ∷ arguments) from (Cons first others) lists h =
    length_mapped (Cons first) (combined arguments others lists)
    ∙ length_combined p arguments (end_of first) others lists h

-- ---- all of them are no later

all_paired : (P : Trees → Type 0) (choices : List Tree) (rest : List Trees)
    → AllByRecursion (λ choice. AllByRecursion (λ others. P (Cons choice others)) rest) choices
    → AllByRecursion P (paired choices rest)
all_paired P [] rest all = tt
all_paired P (choice ∷ choices) rest all =
    all_appended P (map (Cons choice) rest) (paired choices rest) (all_mapped (Cons choice) P rest all.0)
    (all_paired P choices rest all.1)

all_no_later : (p : PosedProblem) (arguments : List Arg) (from to : ℕ) (children : Trees) (lists : List (List Tree))
    → DeriveArguments p arguments from to children → AreChoices p arguments from children lists
    → AllByRecursion (AreNoLater p arguments from to children) (combined arguments children lists)
all_no_later p [] from to Nil lists h offered =
    (record { derived = h; ends_are = refl; good = tt; no_later = inl refl }, tt)
all_no_later p [] from to (Cons first others) lists h offered = absurd h
all_no_later p (argument ∷ arguments) from to Nil lists h offered = absurd h
all_no_later p (Rule rule ∷ arguments) from to (Cons first others) [] h offered = absurd offered
all_no_later p (Rule rule ∷ arguments) from to (Cons first others) (choices ∷ lists) h offered =
    let cell : Cell = record { rule = rule; from = from; to = end_of first } in
    let rest = combined arguments others lists in
    let behind = all_no_later p arguments (end_of first) to others lists h.1 offered.1 in
    all_paired (AreNoLater p (Rule rule ∷ arguments) from to (Cons first others)) choices rest
    (all_from (λ choice. Derives p cell choice × IsNoLater p choice first)
    (λ choice. AllByRecursion (λ ts. AreNoLater p (Rule rule ∷ arguments) from to (Cons first others) (Cons choice ts)) rest)
    (λ choice is. all_from (AreNoLater p arguments (end_of first) to others)
    (λ ts. AreNoLater p (Rule rule ∷ arguments) from to (Cons first others) (Cons choice ts))
    (λ ts r. with_tree p rule arguments from to choice first ts others is.0 is.1 r) rest behind) choices offered.0.0)
all_no_later p (token ∷ arguments) from to (Cons first others) lists h offered =
    let rest = combined arguments others lists in
    all_mapped (Cons first) (AreNoLater p (token ∷ arguments) from to (Cons first others)) rest
    (all_from (AreNoLater p arguments (end_of first) to others)
    (λ ts. AreNoLater p (token ∷ arguments) from to (Cons first others) (Cons first ts))
    (λ ts r. record {
      derived = (h.0, r.derived);
      ends_are = ap (λ xs. end_of first ∷ xs) r.ends_are;
      good = (refl, r.good);
      no_later = cons_no_later p first first ts others (inl refl) r.no_later;
    })
    rest (all_no_later p arguments (end_of first) to others lists h.1 offered))

-- ---- all of them are different

all_of : {X : Type 0} (P : X → Type 0) → ((x : X) → P x) → (xs : List X) → AllByRecursion P xs
all_of P each [] = tt
all_of P each (x ∷ xs) = (each x, all_of P each xs)

mapped_in_order : (p : PosedProblem) (first : Tree) (rest : List Trees) → AreInOrder (FirstDifference p) rest
    → AreInOrder (FirstDifference p) (map (Cons first) rest)
mapped_in_order p first rest ordered =
    in_order_mapped (Cons first) (FirstDifference p) (FirstDifference p) (λ ts us h. inr (refl, h)) rest ordered

paired_in_order : (p : PosedProblem) (choices : List Tree) (rest : List Trees) → AreInOrder (IsBefore p) choices
    → AreInOrder (FirstDifference p) rest → AreInOrder (FirstDifference p) (paired choices rest)
paired_in_order p [] rest ordered ordered' = tt
paired_in_order p (choice ∷ choices) rest ordered ordered' =
    in_order_appended (FirstDifference p) (map (Cons choice) rest) (paired choices rest)
    (mapped_in_order p choice rest ordered') (paired_in_order p choices rest ordered.1 ordered')
    (all_mapped (Cons choice) (λ ts. AllByRecursion (FirstDifference p ts) (paired choices rest)) rest
    (all_of (λ ts. AllByRecursion (FirstDifference p (Cons choice ts)) (paired choices rest))
    (λ ts. all_paired (FirstDifference p (Cons choice ts)) choices rest
    (all_from (IsBefore p choice) (λ other. AllByRecursion (λ us. FirstDifference p (Cons choice ts) (Cons other us)) rest)
    (λ other before. all_of (λ us. FirstDifference p (Cons choice ts) (Cons other us)) (λ us. inl before) rest)
    choices ordered.0)) rest))

combined_in_order : (p : PosedProblem) (arguments : List Arg) (from : ℕ) (children : Trees) (lists : List (List Tree))
    → AreChoices p arguments from children lists
    → AreInOrder (FirstDifference p) (combined arguments children lists)
combined_in_order p [] from children lists offered = (tt, tt)
combined_in_order p (argument ∷ arguments) from Nil lists offered = tt
combined_in_order p (Rule rule ∷ arguments) from (Cons first others) [] offered = tt
combined_in_order p (Rule rule ∷ arguments) from (Cons first others) (choices ∷ lists) offered =
    paired_in_order p choices (combined arguments others lists) offered.0.1
    (combined_in_order p arguments (end_of first) others lists offered.1)
combined_in_order p (token ∷ arguments) from (Cons first others) lists offered =
    mapped_in_order p first (combined arguments others lists)
    (combined_in_order p arguments (end_of first) others lists offered)

module _ (p : PosedProblem) (irreflexive : (t : Tree) → IsBefore p t t → ⊥)
    (transitive : (t u v : Tree) → IsBefore p t u → IsBefore p u v → IsBefore p t v) (orderly : IsOrderly p) where
  difference_irreflexive : (ts : Trees) → FirstDifference p ts ts → ⊥
  difference_irreflexive Nil h = h
  difference_irreflexive (Cons t ts) (inl before) = irreflexive t before
  difference_irreflexive (Cons t ts) (inr h) = difference_irreflexive ts h.1

  pub node_no_later : (rule alternative from to : ℕ) (ts us : Trees)
      → IsAsGood (algebra_of p).goal (score_of p (Node rule alternative from to ts))
      (score_of p (Node rule alternative from to us))
      → cuts_of to ts ≡ cuts_of to us → (ts ≡ us) ⊎ FirstDifference p ts us
      → IsNoLater p (Node rule alternative from to ts) (Node rule alternative from to us)
  node_no_later rule alternative from to ts us good cuts (inl e) = inl (ap (λ x. Node rule alternative from to x) e)
  node_no_later rule alternative from to ts us good cuts (inr differ) = go (better_or_same _ _ _ good)
    where
      go : IsBetter (algebra_of p).goal (score_of p (Node rule alternative from to ts))
          (score_of p (Node rule alternative from to us))
          ⊎ (score_of p (Node rule alternative from to ts) ≡ score_of p (Node rule alternative from to us))
          → IsNoLater p (Node rule alternative from to ts) (Node rule alternative from to us)
      go (inl better) = inr (inl better)
      go (inr same) = inr (inr (same, inr (refl, inr (cuts, differ))))

  module _ (cell : Cell) (k : ℕ) (trees : List Tree) (first : AreFirst p cell k trees) (alternative : ℕ)
      (children : Trees) (d : Derives p cell (Node cell.rule alternative cell.from cell.to children))
      (stands : IsIn trees (Node cell.rule alternative cell.from cell.to children)) where
    abbrev node : Trees → Tree
    node ts = Node cell.rule alternative cell.from cell.to ts

    -- the tree of other children is listed
    other_listed : (ts : Trees) → AreNoLater p (arguments_of p.grammar cell.rule alternative) cell.from cell.to children ts
        → IsIn trees (node ts)
    other_listed ts r =
        let good = orderly cell.rule alternative cell.from cell.to ts children d.4 r.derived d.5 r.good in
        let cuts : cuts_of cell.to ts ≡ cuts_of cell.to children =
        ap (λ ends. take 3 (ends ++ cell.to ∷ cell.to ∷ cell.to ∷ [])) r.ends_are in
        before_listed p irreflexive transitive cell k trees (node children) (node ts) first stands
        (refl, refl, refl, d.3, d.4, r.derived, d.6)
        (node_no_later cell.rule alternative cell.from cell.to ts children good cuts r.no_later)

    few_combinations : (lists : List (List Tree))
        → AreChoices p (arguments_of p.grammar cell.rule alternative) cell.from children lists → combinations lists ≤ k
    few_combinations lists offered =
        let arguments : List Arg = arguments_of p.grammar cell.rule alternative in
        let chosen : List Trees = combined arguments children lists in
        let all : AllByRecursion (IsIn trees) (map node chosen) =
        all_mapped node (IsIn trees) chosen
        (all_from (AreNoLater p arguments cell.from cell.to children) (λ ts. IsIn trees (node ts)) other_listed chosen
        (all_no_later p arguments cell.from cell.to children lists d.5 offered)) in
        let differ : AreDifferent (map node chosen) =
        in_order_mapped node (FirstDifference p) (λ t u. t ≡ u → ⊥)
        (λ ts us h same. difference_irreflexive us (subst (λ x. FirstDifference p x us) (node_children ts us same) h))
        chosen (combined_in_order p arguments cell.from children lists offered) in
        let few : length trees ≤ k = first.few in
        let most : length (map node chosen) ≤ length trees = no_more (map node chosen) trees differ all in
        let mapped : length (map node chosen) ≡ length chosen = length_mapped node chosen in
        let count : length chosen ≡ combinations lists =
        length_combined p arguments cell.from children lists offered in
        omega arith
      where
        node_children : (ts us : Trees) → node ts ≡ node us → ts ≡ us
        node_children ts us same = cc

  -- ---- each child is listed, or one more than k trees can stand in its place

  module _ (k : ℕ) (lists_of : (cell : Cell) → (trees : List Tree) × AreFirst p cell k trees) where
    record AreTried (arguments : List Arg) (from : ℕ) (children : Trees) : Type 0 where
      lists : List (List Tree)
      offered : AreChoices p arguments from children lists
      some : 1 ≤ combinations lists
      listed : ((ranks : List ℕ) × AreRanks p k arguments from children ranks × (choices_up_to ranks ≡ combinations lists))
          ⊎ (k < combinations lists)

    -- what is tried for one child
    record IsTried (cell : Cell) (tree : Tree) : Type 0 where
      choices : List Tree
      offered : AreOffered p cell tree choices
      some : 1 ≤ length choices
      listed : ((rank : ℕ) × HasPlace p k cell tree rank × (length choices ≡ suc rank)) ⊎ (length choices ≡ suc k)

    tried : (cell : Cell) (tree : Tree) → Derives p cell tree → (trees : List Tree) → AreFirst p cell k trees
        → IsIn trees tree ⊎ ((length trees ≡ k) × AllByRecursion (λ listed. IsBefore p listed tree) trees)
        → IsTried cell tree
    tried cell tree d trees first (inl stands) =
        let count = length_up_to trees stands.0 tree stands.1 in
        record {
          choices = take (suc stands.0) trees;
          offered = (
            all_both (Derives p cell) (λ choice. IsNoLater p choice tree) (take (suc stands.0) trees)
                (all_taken (Derives p cell) (suc stands.0) trees first.hold)
                (none_later (IsBefore p) trees stands.0 tree first.in_order stands.1),
            in_order_taken (IsBefore p) (suc stands.0) trees first.in_order,
          );
          some = omega arith;
          listed = inl (stands.0, (trees, first, stands.1), count);
        }
    tried cell tree d trees first (inr full) =
        let count = length_joined trees (tree ∷ []) in
        let all : length trees ≡ k = full.0 in
        record {
          choices = trees ++ tree ∷ [];
          offered = (
            all_appended (λ choice. Derives p cell choice × IsNoLater p choice tree) trees (tree ∷ [])
                (all_both (Derives p cell) (λ choice. IsNoLater p choice tree) trees first.hold
                (all_from (λ choice. IsBefore p choice tree) (λ choice. IsNoLater p choice tree) (λ choice before. inr before)
                trees full.1))
                ((d, inl refl), tt),
            in_order_appended (IsBefore p) trees (tree ∷ []) first.in_order (tt, tt)
                (all_from (λ choice. IsBefore p choice tree) (λ choice. AllByRecursion (IsBefore p choice) (tree ∷ []))
                (λ choice before. (before, tt)) trees full.1),
          );
          some = omega arith;
          listed = inr (omega arith);
        }

    with_tried : (rule : ℕ) (arguments : List Arg) (from : ℕ) (first : Tree) (others : Trees)
        → IsTried (record { rule = rule; from = from; to = end_of first }) first
        → AreTried arguments (end_of first) others → AreTried (Rule rule ∷ arguments) from (Cons first others)
    with_tried rule arguments from first others one rest = record {
      lists = one.choices ∷ rest.lists;
      offered = (one.offered, rest.offered);
      some = (let a = one.some in let b = rest.some in
          let c = some_times (length one.choices) (combinations rest.lists) b in omega arith);
      listed = go one.listed rest.listed;
    }
      where
        go : ((rank : ℕ) × HasPlace p k (record { rule = rule; from = from; to = end_of first }) first rank
            × (length one.choices ≡ suc rank)) ⊎ (length one.choices ≡ suc k)
            → ((ranks : List ℕ) × AreRanks p k arguments (end_of first) others ranks
            × (choices_up_to ranks ≡ combinations rest.lists)) ⊎ (k < combinations rest.lists)
            → ((ranks : List ℕ) × AreRanks p k (Rule rule ∷ arguments) from (Cons first others) ranks
            × (choices_up_to ranks ≡ length one.choices * combinations rest.lists))
            ⊎ (k < length one.choices * combinations rest.lists)
        go (inl found) (inl behind) =
            inl (found.0 ∷ behind.0, (found.1, behind.1), ap₂ (λ a b. a * b) (sym found.2) behind.2)
        go (inr over) behind =
            inr (let a = some_times (length one.choices) (combinations rest.lists) rest.some in omega arith)
        go (inl found) (inr over) =
            inr (let a = times_some (length one.choices) (combinations rest.lists) one.some in omega arith)

    all_tried : (arguments : List Arg) (from to : ℕ) (children : Trees) → DeriveArguments p arguments from to children
        → AreTried arguments from children
    all_tried [] from to Nil h =
        record { lists = []; offered = tt; some = omega arith; listed = inl ([], tt, refl) }
    all_tried [] from to (Cons first others) h = absurd h
    all_tried (argument ∷ arguments) from to Nil h = absurd h
    all_tried (Rule rule ∷ arguments) from to (Cons first others) h =
        let cell : Cell = record { rule = rule; from = from; to = end_of first } in
        let list = lists_of cell in
        with_tried rule arguments from first others
        (tried cell first h.0 list.0 list.1 (list.1.others first h.0)) (all_tried arguments (end_of first) to others h.1)
    all_tried (token ∷ arguments) from to (Cons first others) h =
        let rest = all_tried arguments (end_of first) to others h.1 in
        record { lists = rest.lists; offered = rest.offered; some = rest.some; listed = rest.listed }

    -- ---- the children of a listed tree

    abbrev HasEntry : Tree → Type 0
    HasEntry tree = (entry : Entry) × IsEntry p k tree entry × (choices_up_to entry.ranks ≤ k)

    node_listed : (cell : Cell) (trees : List Tree) → AreFirst p cell k trees → (alternative : ℕ) (children : Trees)
        → Derives p cell (Node cell.rule alternative cell.from cell.to children)
        → IsIn trees (Node cell.rule alternative cell.from cell.to children)
        → HasEntry (Node cell.rule alternative cell.from cell.to children)
    node_listed cell trees first alternative children d stands =
        go (all_tried (arguments_of p.grammar cell.rule alternative) cell.from cell.to children d.5)
        (few_combinations cell k trees first alternative children d stands)
      where
        entry_of : (tries : AreTried (arguments_of p.grammar cell.rule alternative) cell.from children)
            → combinations tries.lists ≤ k
            → ((ranks : List ℕ)
            × AreRanks p k (arguments_of p.grammar cell.rule alternative) cell.from children ranks
            × (choices_up_to ranks ≡ combinations tries.lists)) ⊎ (k < combinations tries.lists)
            → HasEntry (Node cell.rule alternative cell.from cell.to children)
        entry_of tries few (inl found) =
            let same : choices_up_to found.0 ≡ combinations tries.lists = found.2 in (
              record {
                score = score_of p (Node cell.rule alternative cell.from cell.to children);
                choice = choice_of (Node cell.rule alternative cell.from cell.to children);
                ranks = found.0;
              },
              (refl, refl, found.1),
              omega arith,
            )
        entry_of tries few (inr over) = absurd (omega arith)

        go : AreTried (arguments_of p.grammar cell.rule alternative) cell.from children
            → ((lists : List (List Tree))
            → AreChoices p (arguments_of p.grammar cell.rule alternative) cell.from children lists
            → combinations lists ≤ k)
            → HasEntry (Node cell.rule alternative cell.from cell.to children)
        go tries few = entry_of tries (few tries.lists tries.offered) tries.listed

    pub tree_listed : (cell : Cell) (tree : Tree) (place : ℕ) → HasPlace p k cell tree place → HasEntry tree
    tree_listed cell (Leaf from to) place listed =
        absurd (all_at (Derives p cell) listed.0 place (Leaf from to) listed.1.hold listed.2)
    tree_listed cell (Node rule alternative from to children) place listed =
        let trees = listed.0 in
        let first : AreFirst p cell k trees = listed.1 in
        let d : Derives p cell (Node rule alternative from to children) =
        all_at (Derives p cell) trees place (Node rule alternative from to children) first.hold listed.2 in
        let same : Node cell.rule alternative cell.from cell.to children ≡ Node rule alternative from to children =
        cc (d.0, d.1, d.2) in
        subst HasEntry same
        (node_listed cell trees first alternative children (refl, refl, refl, d.3, d.4, d.5, d.6)
        (subst (IsIn trees) (sym same) (place, listed.2)))
