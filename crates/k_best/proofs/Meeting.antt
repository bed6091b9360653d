-- Ranked splits of one viable split, met at one choice of ranks.
use Rattle.std.proofs.Common.{◌≡◌, ℕ, suc, ◌≤◌, ◌⊎◌, inr, ℤ, List, [], ◌∷◌, length, refl, sym, ap, subst, arith, ⊎_elim, Result, Ok, Err, IfOk, Bool, false}
use Rattle.std.specs.List.{AllByRecursion, AllZip}
use Rattle.adp_model.specs.declared.grammar.Arg.{Arg}
use Rattle.adp_model.specs.declared.grammar.Arg.TheVariants.{Rule}
use Rattle.adp_model.specs.declared.cell.Cell.{Cell}
use Rattle.adp_model.specs.declared.cell.Choice.{Choice}
use Rattle.adp_model.specs.PosedProblem.{PosedProblem}
use Rattle.adp_model.specs.Parts.{algebra_of, term_of}
use Rattle.adp_model.specs.Terms.{term_value}
use Rattle.adp_model.specs.Splits.{Placed, placed, IsViable}
use Rattle.first_trees.specs.FirstTrees.{AreInOrder}
use Rattle.first_trees.specs.Entries.{Entry, EntryPrecedes}
use Rattle.first_trees.specs.RankedSplits.{AreRankedValues, IsRankedSplit}
use Rattle.k_best.specs.Settled.{IsBehind, IsComparable, IsListed, IsSettled}
use Rattle.k_best.specs.RankedRows.{AreNotBelow, AreSettled, BeginWith, IsListing}
use Rattle.k_best.proofs.InOrder.{all_from, all_told, all_at}

-- ---- facts about what a call returned

pub if_ok : {A E : Type 0} (r : Result A E) (P Q : A → Type 0) → ((x : A) → P x → Q x) → IfOk r P → IfOk r Q
if_ok (Ok x) P Q to h = to x h
if_ok (Err e) P Q to h = tt

pub if_ok_both : {A E : Type 0} (r : Result A E) (P Q R : A → Type 0) → ((x : A) → P x → Q x → R x) → IfOk r P
    → IfOk r Q → IfOk r R
if_ok_both (Ok x) P Q R to h h' = to x h h'
if_ok_both (Err e) P Q R to h h' = tt

-- ---- ranks of one split

-- two choices of ranks for the same arguments have as many ranks
abbrev HaveAsMany : PosedProblem → ℕ → List Placed → Type 0
HaveAsMany p k laid =
    (ranks others : List ℕ) (values values' : List ℤ) → AreRankedValues p k laid ranks values
    → AreRankedValues p k laid others values' → length ranks ≡ length others

one_more : (p : PosedProblem) (k : ℕ) (laid : List Placed) → HaveAsMany p k laid → (argument : Arg) (from to : ℕ)
    → HaveAsMany p k (record { argument = argument; from = from; to = to } ∷ laid)
one_more p k laid again (Rule rule) from to [] others values values' r r' = absurd r
one_more p k laid again (Rule rule) from to (x ∷ xs) [] values values' r r' = absurd r'
one_more p k laid again (Rule rule) from to (x ∷ xs) (y ∷ ys) [] values' r r' = absurd r
one_more p k laid again (Rule rule) from to (x ∷ xs) (y ∷ ys) (v ∷ vs) [] r r' = absurd r'
one_more p k laid again (Rule rule) from to (x ∷ xs) (y ∷ ys) (v ∷ vs) (w ∷ ws) r r' = ap suc (again xs ys vs ws r.1 r'.1)
one_more p k laid again token from to ranks others [] values' r r' = absurd r
one_more p k laid again token from to ranks others (v ∷ vs) [] r r' = absurd r'
one_more p k laid again token from to ranks others (v ∷ vs) (w ∷ ws) r r' = again ranks others vs ws r.1 r'.1

pub as_many_ranks : (p : PosedProblem) (k : ℕ) (laid : List Placed) → HaveAsMany p k laid
as_many_ranks p k [] [] [] [] [] r r' = refl
as_many_ranks p k [] [] (y ∷ ys) [] [] r r' = absurd r'
as_many_ranks p k [] [] (y ∷ ys) [] (w ∷ ws) r r' = absurd r'
as_many_ranks p k [] [] [] [] (w ∷ ws) r r' = absurd r'
as_many_ranks p k [] [] others (v ∷ vs) values' r r' = absurd r
as_many_ranks p k [] (x ∷ xs) others [] values' r r' = absurd r
as_many_ranks p k [] (x ∷ xs) others (v ∷ vs) values' r r' = absurd r
as_many_ranks p k (one ∷ laid) ranks others values values' r r' =
    one_more p k laid (as_many_ranks p k laid) one.argument one.from one.to ranks others values values' r r'

begun_up : (ranks others : List ℕ) → length ranks ≡ length others → BeginWith ranks others → AllZip ◌≤◌ ranks others
begun_up [] [] e h = tt
begun_up [] (y ∷ ys) e h = absurd (omega arith)
begun_up (x ∷ xs) [] e h = absurd h
begun_up (x ∷ xs) (y ∷ ys) e h = (omega (arith, h.0), begun_up xs ys (omega arith) h.1)

begun_down : (ranks others : List ℕ) → length ranks ≡ length others → BeginWith ranks others → AllZip ◌≤◌ others ranks
begun_down [] [] e h = tt
begun_down [] (y ∷ ys) e h = absurd (omega arith)
begun_down (x ∷ xs) [] e h = absurd h
begun_down (x ∷ xs) (y ∷ ys) e h = (omega (arith, h.0), begun_down xs ys (omega arith) h.1)

not_below : (ranks others : List ℕ) → length ranks ≡ length others → AreNotBelow ranks others → AllZip ◌≤◌ ranks others
not_below [] [] e h = tt
not_below [] (y ∷ ys) e h = absurd (omega arith)
not_below (x ∷ xs) [] e h = absurd h
not_below (x ∷ xs) (y ∷ ys) e h = (h.0, not_below xs ys (omega arith) h.1)

-- ---- the entry that is met

pub made_ranked : (p : PosedProblem) (k : ℕ) (cell : Cell) (entry : Entry) (choice : Choice) (ranks : List ℕ) (values : List ℤ)
    → entry.choice ≡ choice → entry.ranks ≡ ranks → entry.score ≡ term_value (term_of p cell.rule choice.alt) values
    → IsViable p cell choice.alt choice.cuts → AreRankedValues p k (placed p cell choice.alt choice.cuts) ranks values
    → IsRankedSplit p k cell entry
made_ranked p k cell entry choice ranks values chosen ranked scored viable are =
    let made : Entry = record { score = entry.score; choice = choice; ranks = ranks } in
    let same : made ≡ entry = λ i. record { score = entry.score; choice = (sym chosen) i; ranks = (sym ranked) i } in
    subst (IsRankedSplit p k cell) same (record { viable = viable; values = values; are_values = are; scored = scored })

module _ (p : PosedProblem) (k : ℕ) (cell : Cell)
    (irreflexive : (a : Entry) → EntryPrecedes (algebra_of p).goal a a → ⊥)
    (transitive : (a b c : Entry) → EntryPrecedes (algebra_of p).goal a b → EntryPrecedes (algebra_of p).goal b c
    → EntryPrecedes (algebra_of p).goal a c)
    (total : (a b : Entry) → IsRankedSplit p k cell a → IsRankedSplit p k cell b
    → (a ≡ b) ⊎ (EntryPrecedes (algebra_of p).goal a b ⊎ EntryPrecedes (algebra_of p).goal b a))
    (lower : (a b : Entry) → IsRankedSplit p k cell a → IsRankedSplit p k cell b → a.choice ≡ b.choice
    → AllZip ◌≤◌ a.ranks b.ranks → (a ≡ b) ⊎ EntryPrecedes (algebra_of p).goal a b)
    (entry : Entry) (is : IsRankedSplit p k cell entry) where
  pub comparable : (listed : List Entry) → AllByRecursion (IsRankedSplit p k cell) listed
      → AllByRecursion (IsComparable (algebra_of p).goal entry) listed
  comparable listed hold =
      all_from (IsRankedSplit p k cell) (IsComparable (algebra_of p).goal entry) (λ other is'. total other entry is' is) listed hold

  pub still_listing : (old new : List Entry) → IsListing p k cell old → length new ≤ k
      → AreInOrder (EntryPrecedes (algebra_of p).goal) new
      → ((other : Entry) → IsListed new other → IsListed old other ⊎ (other ≡ entry)) → IsListing p k cell new
  still_listing old new listing few ordered from = record {
    few = few;
    hold = all_told (IsRankedSplit p k cell) new (λ other place at. ⊎_elim
        (λ stands. all_at (IsRankedSplit p k cell) old stands.0 other listing.hold stands.1)
        (λ same. subst (IsRankedSplit p k cell) (sym same) is) (from other (place, at)));
    in_order = ordered;
  }

  many : (other : Entry) → IsRankedSplit p k cell other → other.choice ≡ entry.choice → length entry.ranks ≡ length other.ranks
  many other is' choice =
      as_many_ranks p k (placed p cell entry.choice.alt entry.choice.cuts) entry.ranks other.ranks is.values is'.values
      is.are_values (subst (λ (c : Choice). AreRankedValues p k (placed p cell c.alt c.cuts) other.ranks is'.values) choice is'.are_values)

  pub met_here : (listed : List Entry) → IsSettled (algebra_of p).goal k listed entry
      → AreSettled p k cell entry.choice (BeginWith entry.ranks) listed
  met_here listed settled other is' choice begun =
      let same = many other is' choice in
      ⊎_elim
      (λ e. subst (IsSettled (algebra_of p).goal k listed) e settled)
      (λ before. ⊎_elim
      (λ e. subst (IsSettled (algebra_of p).goal k listed) (sym e) settled)
      (λ behind. absurd (irreflexive entry (transitive entry other entry before behind)))
      (lower other entry is' is choice (begun_down entry.ranks other.ranks same begun)))
      (lower entry other is is' (sym choice) (begun_up entry.ranks other.ranks same begun))

  pub out_here : (listed : List Entry) → IsBehind (algebra_of p).goal k listed entry
      → AreSettled p k cell entry.choice (AreNotBelow entry.ranks) listed
  out_here listed behind other is' choice above =
      let same = many other is' choice in
      ⊎_elim
      (λ e. subst (IsSettled (algebra_of p).goal k listed) e (inr behind))
      (λ before. inr (
        behind.0,
        all_from (λ x. EntryPrecedes (algebra_of p).goal x entry) (λ x. EntryPrecedes (algebra_of p).goal x other)
            (λ x first. transitive x entry other first before) listed behind.1,
      ))
      (lower entry other is is' (sym choice) (not_below entry.ranks other.ranks same above))

  -- ---- what the call that meets it gives

  module _ {E : Type 0} (r : Result Bool E) (old new : List Entry) (listing : IsListing p k cell old) where
    pub listing_after : IfOk r (λ _. length new ≤ k) → IfOk r (λ _. AreInOrder (EntryPrecedes (algebra_of p).goal) new)
        → IfOk r (λ _. (other : Entry) → IsListed new other → IsListed old other ⊎ (other ≡ entry))
        → IfOk r (λ _. IsListing p k cell new)
    listing_after few ordered from =
        if_ok_both r (λ _. length new ≤ k)
        (λ _. AreInOrder (EntryPrecedes (algebra_of p).goal) new
        × ((other : Entry) → IsListed new other → IsListed old other ⊎ (other ≡ entry)))
        (λ _. IsListing p k cell new) (λ _ short both. still_listing old new listing short both.0 both.1) few
        (if_ok_both r (λ _. AreInOrder (EntryPrecedes (algebra_of p).goal) new)
        (λ _. (other : Entry) → IsListed new other → IsListed old other ⊎ (other ≡ entry))
        (λ _. AreInOrder (EntryPrecedes (algebra_of p).goal) new
        × ((other : Entry) → IsListed new other → IsListed old other ⊎ (other ≡ entry)))
        (λ _ one two. (one, two)) ordered from)

  module _ {E : Type 0} (r : Result Bool E) (new : List Entry) (choice : Choice) (ranks : List ℕ)
      (chosen : entry.choice ≡ choice) (ranked : entry.ranks ≡ ranks) where
    pub met_after : IfOk r (λ _. IsSettled (algebra_of p).goal k new entry)
        → IfOk r (λ _. AreSettled p k cell choice (BeginWith ranks) new)
    met_after settled =
        if_ok r (λ _. IsSettled (algebra_of p).goal k new entry)
        (λ _. AreSettled p k cell choice (BeginWith ranks) new)
        (λ _ is_settled. subst (λ c. AreSettled p k cell c (BeginWith ranks) new) chosen
        (subst (λ xs. AreSettled p k cell entry.choice (BeginWith xs) new) ranked (met_here new is_settled))) settled

    pub out_after : IfOk r (λ is_in. is_in ≡ false → IsBehind (algebra_of p).goal k new entry)
        → IfOk r (λ is_in. is_in ≡ false → AreSettled p k cell choice (AreNotBelow ranks) new)
    out_after out =
        if_ok r (λ is_in. is_in ≡ false → IsBehind (algebra_of p).goal k new entry)
        (λ is_in. is_in ≡ false → AreSettled p k cell choice (AreNotBelow ranks) new)
        (λ is_in behind not_in. subst (λ c. AreSettled p k cell c (AreNotBelow ranks) new) chosen
        (subst (λ xs. AreSettled p k cell entry.choice (AreNotBelow xs) new) ranked (out_here new (behind not_in)))) out
