-- Ranked splits of a cell are the entries of its trees, and the first of them are the entries of its first trees.
use Rattle.std.proofs.Common.{◌≡◌, ℕ, zero, suc, ◌-◌, ◌<◌, ◌≤◌, ℤ, ◌⊎◌, inl, inr, ◌↔◌, Some, List, [], ◌∷◌, ◌++◌, length, take, map, nat_abs, refl, sym, ap, ap₂, subst, ◌∙◌, arith}
use Rattle.std.specs.List.{AllByRecursion, AllZip}
use Rattle.adp_model.specs.declared.grammar.Arg.{Arg}
use Rattle.adp_model.specs.declared.grammar.Arg.TheVariants.{Rule}
use Rattle.adp_model.specs.declared.cell.Cell.{Cell}
use Rattle.adp_model.specs.PosedProblem.{PosedProblem, IsSpan}
use Rattle.adp_model.specs.Parts.{algebra_of, alternatives_of, arguments_of, term_of}
use Rattle.adp_model.specs.Tokens.{letters_between, token_value}
use Rattle.adp_model.specs.Terms.{magnitude, term_value}
use Rattle.adp_model.specs.Sizes.{IsWithinSizes}
use Rattle.adp_model.specs.Tree.{Tree, Leaf, Node, Trees, Nil, Cons, end_of, ends_of}
use Rattle.adp_model.specs.Derivation.{Derives, DeriveArguments}
use Rattle.adp_model.specs.Scores.{root_magnitude, score_of, values_of}
use Rattle.adp_model.specs.Preference.{cuts_of, IsBefore}
use Rattle.adp_model.specs.Answers.{choice_of}
use Rattle.adp_model.specs.Splits.{place, placed, FitsSpan, IsViable}
use Rattle.first_trees.specs.FirstTrees.{AreInOrder, IsAt, AreFirst, HasPlace}
use Rattle.first_trees.specs.Entries.{Entry, AreRanks, IsEntry, AreEntries, EntryPrecedes}
use Rattle.first_trees.specs.RankedSplits.{HasScoreAt, AreRankedValues, IsRankedSplit, AreFirstSplits}
use Rattle.first_trees.proofs.Lists.{IsIn, nothing_at, some_one, all_at, all_told}
use Rattle.first_trees.proofs.Listed.{first_unique}
use Rattle.first_trees.proofs.Following.{ArePlaced}
use Rattle.first_trees.proofs.Viable.{viable_derived}
use Rattle.first_trees.proofs.Ends.{last_end, AreEnds, ends_viable, place_appended}
use Rattle.first_trees.proofs.EntryOrder.{entry_irreflexive, entry_transitive}

-- ---- the root of a tree that has an entry is a ranked split

children_ranked : (p : PosedProblem) (k : ℕ) (arguments : List Arg) (from to : ℕ) (children : Trees) (ranks : List ℕ)
    → DeriveArguments p arguments from to children → AreRanks p k arguments from children ranks
    → AreRankedValues p k (place arguments from (ends_of children)) ranks (values_of p arguments children)
children_ranked p k [] from to children [] h r = tt
children_ranked p k [] from to children (rank ∷ ranks) h r = absurd r
children_ranked p k (argument ∷ arguments) from to Nil ranks h r = absurd h
children_ranked p k (Rule rule ∷ arguments) from to (Cons first others) [] h r = absurd r
children_ranked p k (Rule rule ∷ arguments) from to (Cons first others) (rank ∷ ranks) h r =
    ((first, r.0, refl), children_ranked p k arguments (end_of first) to others ranks h.1 r.1)
children_ranked p k (token ∷ arguments) from to (Cons (Leaf from' to') others) ranks h r = (
  ap (λ x. token_value p.grammar token (letters_between p.word x to')) h.0.0,
  children_ranked p k arguments to' to others ranks h.1 r,
)
children_ranked p k (token ∷ arguments) from to (Cons (Node rule alternative from' to' children) others) ranks h r =
    absurd h.0

-- ---- a ranked split is the root of a tree that has its entry

-- children of the arguments, with these ends, ranks and values
record HaveChildren (p : PosedProblem) (k : ℕ) (arguments : List Arg) (from to : ℕ) (ends ranks : List ℕ)
    (values : List ℤ) : Type 0 where
  children : Trees
  derived : DeriveArguments p arguments from to children
  ranked : AreRanks p k arguments from children ranks
  ends_are : ends_of children ≡ ends
  values_are : values_of p arguments children ≡ values

end_derived : (p : PosedProblem) (cell : Cell) (tree : Tree) → Derives p cell tree → end_of tree ≡ cell.to
end_derived p cell (Leaf from to) d = absurd d
end_derived p cell (Node rule alternative from to children) d = d.2

with_rule : (p : PosedProblem) (k rule : ℕ) (arguments : List Arg) (from middle to : ℕ) (ends : List ℕ) (rank : ℕ)
    (ranks : List ℕ) (value : ℤ) (values : List ℤ)
    → HasScoreAt p k (record { rule = rule; from = from; to = middle }) rank value
    → HaveChildren p k arguments middle to ends ranks values
    → HaveChildren p k (Rule rule ∷ arguments) from to (middle ∷ ends) (rank ∷ ranks) (value ∷ values)
with_rule p k rule arguments from middle to ends rank ranks value values scored others =
    let cell : Cell = record { rule = rule; from = from; to = middle } in
    let tree : Tree = scored.0 in
    let listed : HasPlace p k cell tree rank = scored.1 in
    let d : Derives p cell tree = all_at (Derives p cell) listed.0 rank tree listed.1.hold listed.2 in
    let e : end_of tree ≡ middle = end_derived p cell tree d in
    record {
      children = Cons tree others.children;
      derived = (
        subst (λ x. Derives p (record { rule = rule; from = from; to = x }) tree) (sym e) d,
        subst (λ x. DeriveArguments p arguments x to others.children) (sym e) others.derived,
      );
      ranked = (
        subst (λ x. HasPlace p k (record { rule = rule; from = from; to = x }) tree rank) (sym e) listed,
        subst (λ x. AreRanks p k arguments x others.children ranks) (sym e) others.ranked,
      );
      ends_are = ap₂ (λ x xs. x ∷ xs) e others.ends_are;
      values_are = ap₂ (λ x xs. x ∷ xs) (sym scored.2) others.values_are;
    }

have_children : (p : PosedProblem) (k : ℕ) (arguments : List Arg) (from : ℕ) (ends ranks : List ℕ) (values : List ℤ)
    → length ends ≡ length arguments → AllByRecursion (FitsSpan p) (place arguments from ends)
    → AreRankedValues p k (place arguments from ends) ranks values
    → HaveChildren p k arguments from (last_end from ends) ends ranks values
have_children p k [] from [] [] [] e fits are =
    record { children = Nil; derived = refl; ranked = tt; ends_are = refl; values_are = refl }
have_children p k [] from [] [] (value ∷ values) e fits are = absurd are
have_children p k [] from [] (rank ∷ ranks) values e fits are = absurd are
have_children p k [] from (to ∷ ends) ranks values e fits are = absurd (omega arith)
have_children p k (argument ∷ arguments) from [] ranks values e fits are = absurd (omega arith)
have_children p k (Rule rule ∷ arguments) from (to ∷ ends) [] values e fits are = absurd are
have_children p k (Rule rule ∷ arguments) from (to ∷ ends) (rank ∷ ranks) [] e fits are = absurd are
have_children p k (Rule rule ∷ arguments) from (to ∷ ends) (rank ∷ ranks) (value ∷ values) e fits are =
    with_rule p k rule arguments from to (last_end to ends) ends rank ranks value values are.0
    (have_children p k arguments to ends ranks values (omega arith) fits.1 are.1)
have_children p k (token ∷ arguments) from (to ∷ ends) ranks [] e fits are = absurd are
have_children p k (token ∷ arguments) from (to ∷ ends) ranks (value ∷ values) e fits are =
    let others = have_children p k arguments to ends ranks values (omega arith) fits.1 are.1 in
    record {
      children = Cons (Leaf from to) others.children;
      derived = ((refl, fits.0.0, fits.0.1), others.derived);
      ranked = others.ranked;
      ends_are = ap (λ xs. to ∷ xs) others.ends_are;
      values_are = ap₂ (λ x xs. x ∷ xs) (sym are.0) others.values_are;
    }

-- ---- both ways

abbrev HasTree : PosedProblem → ℕ → Cell → Entry → Type 0
HasTree p k cell entry = (tree : Tree) × Derives p cell tree × IsEntry p k tree entry

module _ (p : PosedProblem) (laid : ArePlaced p) (sound : (cell : Cell) (tree : Tree) → Derives p cell tree
    → IsWithinSizes p.grammar cell.rule (cell.to - cell.from)) (k : ℕ) (cell : Cell) where
  root_ranked : (alternative : ℕ) (children : Trees) (ranks : List ℕ)
      → Derives p cell (Node cell.rule alternative cell.from cell.to children)
      → AreRanks p k (arguments_of p.grammar cell.rule alternative) cell.from children ranks
      → IsRankedSplit p k cell (record {
        score = score_of p (Node cell.rule alternative cell.from cell.to children);
        choice = choice_of (Node cell.rule alternative cell.from cell.to children);
        ranks = ranks;
      })
  root_ranked alternative children ranks d r =
      let arguments : List Arg = arguments_of p.grammar cell.rule alternative in
      record {
        viable = viable_derived p sound laid cell alternative children d.4 d.6 d.5;
        values = values_of p arguments children;
        are_values = subst (λ spans. AreRankedValues p k spans ranks (values_of p arguments children))
            (sym (laid cell.rule alternative cell.from cell.to children d.5))
            (children_ranked p k arguments cell.from cell.to children ranks d.5 r);
        scored = refl;
      }

  at_cell : (rule alternative from to : ℕ) (children : Trees) (entry : Entry)
      → Derives p cell (Node rule alternative from to children)
      → Node rule alternative from to children ≡ Node cell.rule alternative cell.from cell.to children
      → IsEntry p k (Node rule alternative from to children) entry → IsRankedSplit p k cell entry
  at_cell rule alternative from to children entry d same is =
      let own : IsEntry p k (Node cell.rule alternative cell.from cell.to children) entry =
      subst (λ tree. IsEntry p k tree entry) same is in
      let tree : Tree = Node cell.rule alternative cell.from cell.to children in
      let one : Entry = record { score = score_of p tree; choice = choice_of tree; ranks = entry.ranks } in
      let told : one ≡ entry =
      λ i. record { score = (sym own.0) i; choice = (sym own.1) i; ranks = entry.ranks } in
      subst (IsRankedSplit p k cell) told
      (root_ranked alternative children entry.ranks (refl, refl, refl, d.3, d.4, d.5, d.6) own.2)

  tree_ranked : (entry : Entry) (tree : Tree) → Derives p cell tree → IsEntry p k tree entry
      → IsRankedSplit p k cell entry
  tree_ranked entry (Leaf from to) d is = absurd d
  tree_ranked entry (Node rule alternative from to children) d is =
      at_cell rule alternative from to children entry d (cc (d.0, d.1, d.2)) is

  module _ (span : IsSpan p.word cell.from cell.to)
      (some : (alternative : ℕ) → alternative < length (alternatives_of p.grammar cell.rule)
      → 1 ≤ length (arguments_of p.grammar cell.rule alternative))
      (few : (alternative : ℕ) → length (arguments_of p.grammar cell.rule alternative) ≤ 4) where
    tree_of_children : (entry : Entry) (ends : List ℕ) (values : List ℤ)
        → IsViable p cell entry.choice.alt entry.choice.cuts
        → AreEnds cell.from cell.to (length (arguments_of p.grammar cell.rule entry.choice.alt)) entry.choice.cuts ends
        → HaveChildren p k (arguments_of p.grammar cell.rule entry.choice.alt) cell.from cell.to ends entry.ranks values
        → entry.score ≡ term_value (term_of p cell.rule entry.choice.alt) values → HasTree p k cell entry
    tree_of_children entry ends values viable are have scored =
        let alternative : ℕ = entry.choice.alt in
        let cuts : cuts_of cell.to have.children ≡ entry.choice.cuts =
        ap (λ xs. take 3 (xs ++ cell.to ∷ cell.to ∷ cell.to ∷ [])) have.ends_are ∙ are.cuts_are in (
          Node cell.rule alternative cell.from cell.to have.children,
          (refl, refl, refl, span, viable.in_range, have.derived, viable.allowed),
          (
            scored ∙ ap (term_value (term_of p cell.rule alternative)) (sym have.values_are),
            λ i. record { alt = alternative; cuts = (sym cuts) i },
            have.ranked,
          ),
        )

    -- the children of a ranked split, with their ends
    abbrev SplitChildren : (entry : Entry) → IsRankedSplit p k cell entry → Type 0
    SplitChildren entry split =
        (ends : List ℕ)
        × AreEnds cell.from cell.to (length (arguments_of p.grammar cell.rule entry.choice.alt)) entry.choice.cuts ends
        × HaveChildren p k (arguments_of p.grammar cell.rule entry.choice.alt) cell.from cell.to ends entry.ranks split.values

    split_children : (entry : Entry) (split : IsRankedSplit p k cell entry) → SplitChildren entry split
    split_children entry split =
        let arguments : List Arg = arguments_of p.grammar cell.rule entry.choice.alt in
        let viable = split.viable in
        let found =
        ends_viable cell.from cell.to (length arguments) entry.choice.cuts (some entry.choice.alt viable.in_range)
        (few entry.choice.alt) viable.three viable.last in
        let ends : List ℕ = found.0 in
        let are : AreEnds cell.from cell.to (length arguments) entry.choice.cuts ends = found.1 in
        let e : placed p cell entry.choice.alt entry.choice.cuts ≡ place arguments cell.from ends =
        ap (place arguments cell.from) are.begins ∙ place_appended arguments cell.from ends are.rest are.count_is in
        let have =
        have_children p k arguments cell.from ends entry.ranks split.values are.count_is
        (subst (AllByRecursion (FitsSpan p)) e viable.fits)
        (subst (λ spans. AreRankedValues p k spans entry.ranks split.values) e split.are_values) in
        (ends, are, subst (λ x. HaveChildren p k arguments cell.from x ends entry.ranks split.values) are.last have)

    ranked_tree : (entry : Entry) → IsRankedSplit p k cell entry → HasTree p k cell entry
    ranked_tree entry split =
        let found = split_children entry split in
        tree_of_children entry found.0 split.values split.viable found.1 found.2 split.scored

    -- the term of a ranked split keeps each bound that the root of each derived tree keeps
    pub splits_are_bounded : (number : ℕ) → ((tree : Tree) → Derives p cell tree → root_magnitude p tree ≤ number)
        → (entry : Entry) (split : IsRankedSplit p k cell entry)
        → magnitude (term_of p cell.rule entry.choice.alt) (map nat_abs split.values) ≤ number
    splits_are_bounded number bounded entry split =
        let found = split_children entry split in
        let tree : Tree = Node cell.rule entry.choice.alt cell.from cell.to found.2.children in
        subst (λ values. magnitude (term_of p cell.rule entry.choice.alt) (map nat_abs values) ≤ number) found.2.values_are
        (bounded tree (refl, refl, refl, span, split.viable.in_range, found.2.derived, split.viable.allowed))

    pub splits_are_entries : (entry : Entry) → IsRankedSplit p k cell entry ↔ HasTree p k cell entry
    splits_are_entries entry = (ranked_tree entry, λ found. tree_ranked entry found.0 found.1 found.2)

-- ---- lists side by side

zip_length : {X Y : Type 0} (R : X → Y → Type 0) (xs : List X) (ys : List Y) → AllZip R xs ys → length xs ≡ length ys
zip_length R [] [] zip = refl
zip_length R [] (y ∷ ys) zip = absurd zip
zip_length R (x ∷ xs) [] zip = absurd zip
zip_length R (x ∷ xs) (y ∷ ys) zip = ap suc (zip_length R xs ys zip.1)

zip_at : {X Y : Type 0} (R : X → Y → Type 0) (xs : List X) (ys : List Y) (at : ℕ) (x : X) → AllZip R xs ys
    → IsAt xs at x → (y : Y) × IsAt ys at y × R x y
zip_at R [] ys at x zip is = absurd (nothing_at [] x is)
zip_at R (z ∷ xs) [] at x zip is = absurd zip
zip_at R (z ∷ xs) (y ∷ ys) zero x zip is = (y, refl, subst (λ w. R w y) (some_one z x is) zip.0)
zip_at R (z ∷ xs) (y ∷ ys) (suc at) x zip is = zip_at R xs ys at x zip.1 is

-- what holds of the first and what stands beside it holds of all
zip_all : {X Y : Type 0} (R : X → Y → Type 0) (P : X → Type 0) (Q : Y → Type 0)
    → ((x : X) (y : Y) → P x → R x y → Q y) → (xs : List X) (ys : List Y) → AllByRecursion P xs → AllZip R xs ys
    → AllByRecursion Q ys
zip_all R P Q moved [] [] all zip = tt
zip_all R P Q moved [] (y ∷ ys) all zip = absurd zip
zip_all R P Q moved (x ∷ xs) [] all zip = absurd zip
zip_all R P Q moved (x ∷ xs) (y ∷ ys) all zip =
    (moved x y all.0 zip.0, zip_all R P Q moved xs ys all.1 zip.1)

both_hold : {X : Type 0} (P Q : X → Type 0) (xs : List X) → AllByRecursion P xs → AllByRecursion Q xs
    → AllByRecursion (λ x. P x × Q x) xs
both_hold P Q [] all all' = tt
both_hold P Q (x ∷ xs) all all' = ((all.0, all'.0), both_hold P Q xs all.1 all'.1)

zip_in_order : {X Y : Type 0} (R : X → Y → Type 0) (P : X → Type 0) (S : X → X → Type 0) (T : Y → Y → Type 0)
    → ((x x' : X) (y y' : Y) → P x → P x' → R x y → R x' y' → S x x' → T y y')
    → (xs : List X) (ys : List Y) → AllByRecursion P xs → AllZip R xs ys → AreInOrder S xs → AreInOrder T ys
zip_in_order R P S T moved [] [] all zip ordered = tt
zip_in_order R P S T moved [] (y ∷ ys) all zip ordered = absurd zip
zip_in_order R P S T moved (x ∷ xs) [] all zip ordered = absurd zip
zip_in_order R P S T moved (x ∷ xs) (y ∷ ys) all zip ordered = (
  zip_all R (λ x'. P x' × S x x') (T y) (λ x' y' holds beside. moved x x' y y' all.0 holds.0 zip.0 beside holds.1) xs ys
      (both_hold P (S x) xs all.1 ordered.0) zip.1,
  zip_in_order R P S T moved xs ys all.1 zip.1 ordered.1,
)

zip_found : {X Y : Type 0} (R : X → Y → Type 0) (xs : List X) → AllByRecursion (λ x. (y : Y) × R x y) xs
    → (ys : List Y) × AllZip R xs ys
zip_found R [] all = ([], tt)
zip_found R (x ∷ xs) all = let rest = zip_found R xs all.1 in (all.0.0 ∷ rest.0, (all.0.1, rest.1))

-- ---- the entries of the first trees are the first ranked splits

module _ (p : PosedProblem) (k : ℕ) (cell : Cell)
    (splits : (entry : Entry) → IsRankedSplit p k cell entry ↔ HasTree p k cell entry)
    (one : (tree : Tree) (first second : Entry) → IsEntry p k tree first → IsEntry p k tree second → first ≡ second)
    (order : (t u : Tree) (first second : Entry) → Derives p cell t → Derives p cell u → IsEntry p k t first
    → IsEntry p k u second → IsBefore p t u ↔ EntryPrecedes (algebra_of p).goal first second) where
  entries_first : (entries : List Entry) (trees : List Tree) → AreFirst p cell k trees
      → AllZip (IsEntry p k) trees entries → AreFirstSplits p k cell entries
  entries_first entries trees first zip =
      let same : length trees ≡ length entries = zip_length (IsEntry p k) trees entries zip in
      let few = first.few in
      record {
        few = omega arith;
        hold = zip_all (IsEntry p k) (Derives p cell) (IsRankedSplit p k cell)
            (λ tree entry d is. (splits entry).1 (tree, d, is)) trees entries first.hold zip;
        in_order = zip_in_order (IsEntry p k) (Derives p cell) (IsBefore p) (EntryPrecedes (algebra_of p).goal)
            (λ t u e f d d' is is' before. (order t u e f d d' is is').0 before) trees entries first.hold zip first.in_order;
        others = λ entry split. let made = (splits entry).0 split in
            go entry made.0 made.1 made.2 (first.others made.0 made.1);
      }
    where
      go : (entry : Entry) (tree : Tree) → Derives p cell tree → IsEntry p k tree entry
          → IsIn trees tree ⊎ ((length trees ≡ k) × AllByRecursion (λ listed. IsBefore p listed tree) trees)
          → IsIn entries entry
          ⊎ ((length entries ≡ k) × AllByRecursion (λ listed. EntryPrecedes (algebra_of p).goal listed entry) entries)
      go entry tree d is (inl stands) =
          let beside = zip_at (IsEntry p k) trees entries stands.0 tree zip stands.1 in
          inl (stands.0, beside.1 ∙ ap Some (one tree beside.0 entry beside.2 is))
      go entry tree d is (inr full) =
          let same : length trees ≡ length entries = zip_length (IsEntry p k) trees entries zip in
          inr (
            sym same ∙ full.0,
            zip_all (IsEntry p k) (λ listed. Derives p cell listed × IsBefore p listed tree)
                (λ listed. EntryPrecedes (algebra_of p).goal listed entry)
                (λ listed e holds is'. (order listed tree e entry holds.0 d is' is).0 holds.1) trees entries
                (both_hold (Derives p cell) (λ listed. IsBefore p listed tree) trees first.hold full.1) zip,
          )

  module _ (trees : List Tree) (first : AreFirst p cell k trees)
      (listed : (tree : Tree) (rank : ℕ) → HasPlace p k cell tree rank → (entry : Entry) × IsEntry p k tree entry) where
    own_entries : (entries : List Entry) × AllZip (IsEntry p k) trees entries
    own_entries =
        zip_found (IsEntry p k) trees
        (all_told (λ tree. (entry : Entry) × IsEntry p k tree entry) trees
        (λ tree stands. listed tree stands.0 (trees, first, stands.1)))

    pub entries_there : (entries : List Entry) × AreEntries p k cell entries
    entries_there = (own_entries.0, (trees, first, own_entries.1))

    splits_first : (entries : List Entry) → AreFirstSplits p k cell entries → AreEntries p k cell entries
    splits_first entries splits_are =
        let same : own_entries.0 ≡ entries =
        first_unique (EntryPrecedes (algebra_of p).goal) (entry_irreflexive (algebra_of p).goal)
        (entry_transitive (algebra_of p).goal) (IsRankedSplit p k cell) k own_entries.0 entries
        (entries_first own_entries.0 trees first own_entries.1) splits_are in
        subst (AreEntries p k cell) same (trees, first, own_entries.1)

    pub lists_are_first_splits : (entries : List Entry) → AreEntries p k cell entries ↔ AreFirstSplits p k cell entries
    lists_are_first_splits entries =
        ((λ found. entries_first entries found.0 found.1 found.2), splits_first entries)

pub first_splits_unique : (p : PosedProblem) (k : ℕ) (cell : Cell) (a b : List Entry) → AreFirstSplits p k cell a
    → AreFirstSplits p k cell b → a ≡ b
first_splits_unique p k cell a b =
    first_unique (EntryPrecedes (algebra_of p).goal) (entry_irreflexive (algebra_of p).goal)
    (entry_transitive (algebra_of p).goal) (IsRankedSplit p k cell) k a b
