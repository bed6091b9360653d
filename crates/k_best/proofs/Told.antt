-- What a list that grows tells of a place, and of the tree that stands there.
use Rattle.std.proofs.Common.{◌≡◌, ◌↔◌, ℕ, zero, ◌<◌, ◌≤◌, ◌⊎◌, ℤ, List, [], ◌∷◌, get_or, length, refl, sym, ap, subst, ◌∙◌, arith, ⊎_elim}
use Rattle.std.proofs.lemmas.Bool.{cases_lt}
use Rattle.std.specs.List.{AllByRecursion, AllZip}
use Rattle.adp_model.specs.declared.cell.Cell.{Cell}
use Rattle.adp_model.specs.declared.cell.Choice.{Choice}
use Rattle.adp_model.specs.PosedProblem.{PosedProblem}
use Rattle.adp_model.specs.Parts.{algebra_of, term_of}
use Rattle.adp_model.specs.Terms.{term_value}
use Rattle.adp_model.specs.Tree.{Tree, Leaf}
use Rattle.adp_model.specs.Scores.{score_of}
use Rattle.adp_model.specs.Derivation.{Derives}
use Rattle.adp_model.specs.Preference.{IsPreferred}
use Rattle.adp_model.specs.Answers.{HasNoTree}
use Rattle.adp_model.specs.Bellman.{HasBestScore}
use Rattle.adp_model.specs.Splits.{placed, IsViable}
use Rattle.first_trees.specs.FirstTrees.{AreFirst, HasPlace, IsAt}
use Rattle.first_trees.specs.Entries.{AreEntries, Entry, EntryPrecedes, IsEntry}
use Rattle.first_trees.specs.RankedSplits.{AreFirstSplits, AreRankedValues, HasScoreAt, IsRankedSplit}
use Rattle.k_best.specs.Growing.{AreHeaded, AreUnder, IsGrowing, IsHeaded}
use Rattle.k_best.specs.ListedNodes.{IsRootOf}
use Rattle.k_best.specs.RankedRows.{AreSettled, BeginWith}
use Rattle.k_best.specs.Settled.{IsSettled}
use Rattle.k_best.proofs.AtPlaces.{same_place, tree_stands}
use Rattle.k_best.proofs.Grows.{first_found, whole_found}
use Rattle.k_best.proofs.InOrder.{all_at}
use Rattle.k_best.proofs.ListParts.{some_at}
use Rattle.k_best.proofs.Meeting.{as_many_ranks}
use Rattle.k_best.proofs.Rows.{rank_within, score_at}

module _ (p : PosedProblem) (k : ℕ) (cell : Cell) where
  -- the best score stands at the first place
  pub best_at : 0 < k → (firsts : (trees : List Tree) × AreFirst p cell k trees) → (HasNoTree p cell ↔ AreFirst p cell k [])
      → ((tree : Tree) (others : List Tree) → AreFirst p cell k (tree ∷ others) → IsPreferred p cell tree)
      → ((t u : Tree) → IsPreferred p cell t → IsPreferred p cell u → t ≡ u) → (score : ℤ) → HasBestScore p cell score
      → HasScoreAt p k cell zero score
  best_at some ([], are) none first one score best = absurd (none.1 are best.1.0 best.1.1.derived)
  best_at some (tree ∷ trees, are) none first one score best =
      let same : tree ≡ best.1.0 = one tree best.1.0 (first tree trees are) best.1.1 in
      (tree, (tree ∷ trees, are, refl), best.1.2 ∙ ap (score_of p) (sym same))

  pub none_at : HasNoTree p cell → (rank : ℕ) (score : ℤ) → HasScoreAt p k cell rank score → ⊥
  none_at none rank score has = none has.0 (all_at (Derives p cell) has.1.0 rank has.0 has.1.1.hold has.1.2)

  -- ---- by a list that grows

  module _ (irreflexive : (a : Entry) → EntryPrecedes (algebra_of p).goal a a → ⊥)
      (transitive : (a b c : Entry) → EntryPrecedes (algebra_of p).goal a b → EntryPrecedes (algebra_of p).goal b c
      → EntryPrecedes (algebra_of p).goal a c)
      (lower : (a b : Entry) → IsRankedSplit p k cell a → IsRankedSplit p k cell b → a.choice ≡ b.choice
      → AllZip ◌≤◌ a.ranks b.ranks → (a ≡ b) ⊎ EntryPrecedes (algebra_of p).goal a b)
      (lists : (entries : List Entry) → AreEntries p k cell entries ↔ AreFirstSplits p k cell entries)
      (there : (entries : List Entry) × AreEntries p k cell entries)
      (one : (cell : Cell) (k : ℕ) (trees others : List Tree) → AreFirst p cell k trees → AreFirst p cell k others → trees ≡ others)
      (found : List Entry) (opened : ℕ) (growing : IsGrowing p k cell found opened) where
    stands : (rank : ℕ) (entry : Entry) → rank ≤ opened → IsAt found rank entry → IsAt there.0 rank entry
    stands rank entry low at =
        first_found p k cell irreflexive transitive lower found opened growing there.0 ((lists there.0).0 there.1) rank entry low at

    pub told_score : (rank : ℕ) (entry : Entry) → rank ≤ opened → IsAt found rank entry → HasScoreAt p k cell rank entry.score
    told_score rank entry low at = score_at p k cell there.0 there.1 rank entry (stands rank entry low at)

    pub told_nothing : (rank : ℕ) → length found ≤ rank → length found ≤ opened → (later : ℕ) (score : ℤ) → rank ≤ later
        → HasScoreAt p k cell later score → ⊥
    told_nothing rank out all later score behind has =
        let are = (lists found).1 (whole_found p k cell irreflexive transitive lower found opened growing all) in
        let within = rank_within p k (λ child trees others. one child k trees others) cell found are later score has in
        omega arith

    pub told_root : (rank : ℕ) (entry : Entry) → rank ≤ opened → IsAt found rank entry → (tree : Tree)
        → HasPlace p k cell tree rank → IsRootOf p k cell tree entry
    told_root rank entry low at tree has =
        let are = there.1 in
        let root = tree_stands p k are.0 there.0 rank entry are.2 (stands rank entry low at) in
        let same : root.0 ≡ tree = same_place p k one cell root.0 tree rank (are.0, are.1, root.1) has in
        record {
          derived = all_at (Derives p cell) has.0 rank tree has.1.hold has.2;
          is = subst (λ (t : Tree). IsEntry p k t entry) same root.2;
          viable = (all_at (IsRankedSplit p k cell) found rank entry growing.listing.hold at).viable;
        }

  -- ---- heads

  pub same_many : (a b : Entry) → IsRankedSplit p k cell a → IsRankedSplit p k cell b → a.choice ≡ b.choice
      → length a.ranks ≡ length b.ranks
  same_many a b is is' choice =
      as_many_ranks p k (placed p cell b.choice.alt b.choice.cuts) a.ranks b.ranks is.values is'.values
      (subst (λ (c : Choice). AreRankedValues p k (placed p cell c.alt c.cuts) a.ranks is.values) choice is.are_values)
      is'.are_values

  pub headed_kept : (ranks : List ℕ) (old new : List Entry)
      → ((entry : Entry) → IsSettled (algebra_of p).goal k old entry → IsSettled (algebra_of p).goal k new entry)
      → (entry : Entry) → IsHeaded p k cell ranks old entry → IsHeaded p k cell ranks new entry
  headed_kept ranks old new kept entry headed = record {
    head = headed.head;
    ranked = headed.ranked;
    settled = kept headed.head headed.settled;
    choice = headed.choice;
    begins = headed.begins;
    lower = headed.lower;
  }

  under_lower : (xs ranks others : List ℕ) → length xs ≡ length others → BeginWith xs ranks → AreUnder ranks others
      → AllZip ◌≤◌ xs others
  under_lower [] ranks [] e b u = tt
  under_lower [] ranks (z ∷ zs) e b u = absurd (omega arith)
  under_lower (x ∷ xs) ranks [] e b u = absurd (omega arith)
  under_lower (x ∷ xs) [] (z ∷ zs) e b u = absurd b
  under_lower (x ∷ xs) (y ∷ ys) (z ∷ zs) e b u = (omega (arith, b.0, u.0), under_lower xs ys zs (omega arith) b.1 u.1)

  begin_own : (xs : List ℕ) → BeginWith xs xs
  begin_own [] = tt
  begin_own (x ∷ xs) = (refl, begin_own xs)

  -- the split that is met at some values leads all with no rank below its own
  module _ (choice : Choice) (all ranks : List ℕ) (values : List ℤ) (begins : BeginWith ranks all)
      (are : AreRankedValues p k (placed p cell choice.alt choice.cuts) ranks values)
      (viable : IsViable p cell choice.alt choice.cuts) where
    abbrev met_entry : Entry
    met_entry = record { score = term_value (term_of p cell.rule choice.alt) values; choice = choice; ranks = ranks }

    met_ranked : IsRankedSplit p k cell met_entry
    met_ranked = record { viable = viable; values = values; are_values = are; scored = refl }

    pub headed_by : (new : List Entry) → AreSettled p k cell choice (BeginWith ranks) new → AreHeaded p k cell choice all new
    headed_by new met entry is same under = record {
      head = met_entry;
      ranked = met_ranked;
      settled = met met_entry met_ranked refl (begin_own ranks);
      choice = sym same;
      begins = begins;
      lower = under_lower ranks all entry.ranks (same_many met_entry entry met_ranked is (sym same)) begins under;
    }

-- no rank lies below the first
pub zeros_under : (zeros : List ℕ) → AllByRecursion (λ rank. rank ≡ 0) zeros → (others : List ℕ) → AreUnder zeros others
zeros_under [] none others = tt
zeros_under (x ∷ xs) none [] = tt
zeros_under (x ∷ xs) none (y ∷ ys) = (omega (arith, none.0), zeros_under xs none.1 ys)

-- ---- the trees of a list, place by place

module _ (p : PosedProblem) (k : ℕ) (cell : Cell) (trees : List Tree) (are : AreFirst p cell k trees) where
  -- where nothing is told of a place, there are no more trees
  pub no_more : (rank : ℕ) → ((later : ℕ) (score : ℤ) → rank ≤ later → HasScoreAt p k cell later score → ⊥) → length trees ≤ rank
  no_more rank none =
      ⊎_elim
      (λ less.
      let tree : Tree = get_or trees rank (Leaf 0 0) in
      absurd (none rank (score_of p tree) (omega arith) (tree, (trees, are, some_at trees rank (Leaf 0 0) less), refl)))
      (λ more. more)
      (cases_lt rank (length trees))

  pub stands_there : ((cell : Cell) (k : ℕ) (xs ys : List Tree) → AreFirst p cell k xs → AreFirst p cell k ys → xs ≡ ys)
      → (rank : ℕ) (tree : Tree) → HasPlace p k cell tree rank → IsAt trees rank tree
  stands_there one rank tree has =
      subst (λ (xs : List Tree). IsAt xs rank tree) (one cell k has.0 trees has.1 are) has.2
