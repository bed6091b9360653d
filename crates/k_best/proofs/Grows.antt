-- A list that grows: what is known of its first entries, and how one more is opened.
use Rattle.std.proofs.Common.{◌≡◌, ℕ, zero, suc, ◌+◌, ◌<◌, ◌≤◌, ◌⊎◌, inl, inr, List, [], ◌∷◌, length, sym, ap, subst, ◌∙◌, arith, ⊎_elim}
use Rattle.std.specs.List.{AllZip}
use Rattle.std.proofs.lemmas.Bool.{cases_lt}
use Rattle.adp_model.specs.declared.cell.Cell.{Cell}
use Rattle.adp_model.specs.PosedProblem.{PosedProblem}
use Rattle.adp_model.specs.Parts.{algebra_of}
use Rattle.first_trees.specs.FirstTrees.{AreInOrder, IsAt}
use Rattle.first_trees.specs.Entries.{Entry, EntryPrecedes}
use Rattle.first_trees.specs.RankedSplits.{AreFirstSplits, IsRankedSplit}
use Rattle.k_best.specs.Settled.{IsBehind, IsListed, IsSettled}
use Rattle.k_best.specs.RankedRows.{BeginWith, IsListing}
use Rattle.k_best.specs.Growing.{AreHeaded, IsGrowing, IsHeaded, IsLed, raised}
use Rattle.k_best.proofs.InOrder.{all_at, all_from, at_within, nothing_at, some_one}
use Rattle.k_best.proofs.Agreeing.{agree}
use Rattle.k_best.proofs.Raised.{begun_same, raised_above, raised_differ, raised_length, same_or_raised}

-- of two items of a list in order the first comes before the second
ordered_at : {X : Type 0} (Precedes : X → X → Type 0) (items : List X) (i j : ℕ) (x y : X) → AreInOrder Precedes items
    → IsAt items i x → IsAt items j y → i < j → Precedes x y
ordered_at Precedes [] i j x y ordered at at' l = absurd (nothing_at x at)
ordered_at Precedes (z ∷ items) zero zero x y ordered at at' l = absurd (omega arith)
ordered_at Precedes (z ∷ items) zero (suc j) x y ordered at at' l =
    subst (λ a. Precedes a y) (some_one z x at) (all_at (Precedes z) items j y ordered.0 at')
ordered_at Precedes (z ∷ items) (suc i) zero x y ordered at at' l = absurd (omega arith)
ordered_at Precedes (z ∷ items) (suc i) (suc j) x y ordered at at' l = ordered_at Precedes items i j x y ordered.1 at at' (omega arith)

module _ (p : PosedProblem) (k : ℕ) (cell : Cell)
    (irreflexive : (a : Entry) → EntryPrecedes (algebra_of p).goal a a → ⊥)
    (transitive : (a b c : Entry) → EntryPrecedes (algebra_of p).goal a b → EntryPrecedes (algebra_of p).goal b c
    → EntryPrecedes (algebra_of p).goal a c)
    (lower : (a b : Entry) → IsRankedSplit p k cell a → IsRankedSplit p k cell b → a.choice ≡ b.choice
    → AllZip ◌≤◌ a.ranks b.ranks → (a ≡ b) ⊎ EntryPrecedes (algebra_of p).goal a b) where
  abbrev Before : Entry → Entry → Type 0
  Before = EntryPrecedes (algebra_of p).goal

  -- what comes behind all comes behind them too where it is led by one that does
  behind_led : (found : List Entry) (leader entry : Entry) → IsRankedSplit p k cell leader → IsRankedSplit p k cell entry
      → leader.choice ≡ entry.choice → AllZip ◌≤◌ leader.ranks entry.ranks
      → IsBehind (algebra_of p).goal k found leader → IsBehind (algebra_of p).goal k found entry
  behind_led found leader entry is is' choice low behind =
      ⊎_elim
      (λ same. subst (IsBehind (algebra_of p).goal k found) same behind)
      (λ before. (behind.0, all_from (λ x. Before x leader) (λ x. Before x entry) (λ x first. transitive x leader entry first before) found behind.1))
      (lower leader entry is is' choice low)

  -- an entry of the same viable split comes behind where one rank is greater by one
  pub raised_behind : (first entry : Entry) (number : ℕ) → IsRankedSplit p k cell first → IsRankedSplit p k cell entry
      → entry.choice ≡ first.choice → length entry.ranks ≡ length first.ranks → number < length first.ranks
      → BeginWith entry.ranks (raised number first.ranks) → Before first entry
  raised_behind first entry number is is' choice many within begins =
      let ranks : entry.ranks ≡ raised number first.ranks =
      begun_same entry.ranks (raised number first.ranks) (many ∙ sym (raised_length number first.ranks)) begins in
      ⊎_elim
      (λ same. absurd (raised_differ number first.ranks within (sym ranks ∙ sym (ap (λ (x : Entry). x.ranks) same))))
      (λ before. before)
      (lower first entry is is' (sym choice) (subst (AllZip ◌≤◌ first.ranks) (sym ranks) (raised_above number first.ranks)))

  -- ---- its first entries

  module _ (found : List Entry) (opened : ℕ) (growing : IsGrowing p k cell found opened) where
    -- a ranked split stands at a place up to this one, or the entry there comes before it
    leads : (x : Entry) → IsRankedSplit p k cell x → (place : ℕ) (y : Entry) → place ≤ opened → IsAt found place y
        → ((r : ℕ) × (r ≤ place) × IsAt found r x) ⊎ Before y x
    leads x is place y low at = ⊎_elim (λ settled. ⊎_elim stands (λ behind. inr (all_at (λ z. Before z x) found place y behind.1 at)) settled) led (growing.met x is)
      where
        stands : IsListed found x → ((r : ℕ) × (r ≤ place) × IsAt found r x) ⊎ Before y x
        stands (r, at') =
            ⊎_elim (λ less. inr (ordered_at Before found place r y x growing.listing.in_order at at' less))
            (λ more. inl (r, more, at')) (cases_lt place r)

        led : IsLed found opened x → ((r : ℕ) × (r ≤ place) × IsAt found r x) ⊎ Before y x
        led by =
            ⊎_elim
            (λ same. stands (by.place, subst (IsAt found by.place) same by.stands))
            (λ before. ⊎_elim
            (λ less. inr (transitive y by.leader x (ordered_at Before found place by.place y by.leader growing.listing.in_order at by.stands less) before))
            (λ more.
            let here : by.place ≡ place = omega (arith, by.unopened) in
            let one : by.leader ≡ y = some_one by.leader y (sym by.stands ∙ subst (λ n. IsAt found n y) (sym here) at) in
            inr (subst (λ z. Before z x) one before))
            (cases_lt place by.place))
            (lower by.leader x (all_at (IsRankedSplit p k cell) found by.place by.leader growing.listing.hold by.stands) is by.choice by.lower)

    -- up to the first that isn't opened yet its entries are the cell's first ones
    pub first_found : (list : List Entry) → AreFirstSplits p k cell list → (place : ℕ) (entry : Entry) → place ≤ opened
        → IsAt found place entry → IsAt list place entry
    first_found list firsts place entry low at =
        agree Before irreflexive transitive (IsRankedSplit p k cell) found list opened k growing.listing.few
        growing.listing.in_order growing.listing.hold firsts.in_order firsts.hold leads firsts.others place entry low at

    -- where all are opened they are the cell's list
    pub whole_found : length found ≤ opened → AreFirstSplits p k cell found
    whole_found all = record {
      few = growing.listing.few;
      hold = growing.listing.hold;
      in_order = growing.listing.in_order;
      others = λ x is. ⊎_elim (λ settled. settled)
          (λ by. absurd (let within = at_within found by.place by.leader by.stands in omega (arith, by.unopened))) (growing.met x is);
    }

  -- ---- its heads

  pub begun_growing : (zeros : List ℕ) (heads : List Entry) → IsListing p k cell heads
      → ((entry : Entry) → IsRankedSplit p k cell entry → IsHeaded p k cell zeros heads entry)
      → IsGrowing p k cell heads 0
  begun_growing zeros heads listing each = record {
    listing = listing;
    met = λ entry is.
        let head = each entry is in
        ⊎_elim
        (λ (stands : IsListed heads head.head). inr (record { place = stands.0; leader = head.head; unopened = omega arith; stands = stands.1; choice = head.choice; lower = head.lower }))
        (λ behind. inl (inr (behind_led heads head.head entry head.ranked is head.choice head.lower behind)))
        head.settled;
  }

  -- ---- one entry more is opened

  module _ (found new : List Entry) (opened : ℕ) (growing : IsGrowing p k cell found opened) (first : Entry)
      (at : IsAt found opened first) (listing : IsListing p k cell new)
      (kept : (entry : Entry) → IsSettled (algebra_of p).goal k found entry → IsSettled (algebra_of p).goal k new entry)
      (still : IsAt new opened first)
      (as_many : (entry : Entry) → IsRankedSplit p k cell entry → entry.choice ≡ first.choice → length entry.ranks ≡ length first.ranks)
      (headed : (number : ℕ) → number < length first.ranks → AreHeaded p k cell first.choice (raised number first.ranks) new) where
    first_is : IsRankedSplit p k cell first
    first_is = all_at (IsRankedSplit p k cell) found opened first growing.listing.hold at

    -- a split comes next to the opened entry and leads another one
    record Next (entry : Entry) : Type 0 where
      pub next : Entry
      pub ranked : IsRankedSplit p k cell next
      pub settled : IsSettled (algebra_of p).goal k new next
      pub choice : next.choice ≡ entry.choice
      pub low : AllZip ◌≤◌ next.ranks entry.ranks
      pub behind : Before first next

    next_of : (entry : Entry) (number : ℕ) → number < length first.ranks → entry.choice ≡ first.choice
        → IsHeaded p k cell (raised number first.ranks) new entry → Next entry
    next_of entry number within choice headed =
        let chosen : headed.head.choice ≡ first.choice = headed.choice ∙ choice in
        record {
          next = headed.head;
          ranked = headed.ranked;
          settled = headed.settled;
          choice = headed.choice;
          low = headed.lower;
          behind = raised_behind first headed.head number first_is headed.ranked chosen (as_many headed.head headed.ranked chosen) within headed.begins;
        }

    equal : (entry : Entry) → IsRankedSplit p k cell entry → entry.choice ≡ first.choice → first.ranks ≡ entry.ranks
        → first ≡ entry
    equal entry is choice ranks =
        ⊎_elim (λ same. same)
        (λ before. ⊎_elim (λ same. sym same) (λ behind. absurd (irreflexive first (transitive first entry first before behind)))
        (lower entry first is first_is choice (subst (λ them. AllZip ◌≤◌ them first.ranks) ranks (alike first.ranks))))
        (lower first entry first_is is (sym choice) (subst (AllZip ◌≤◌ first.ranks) ranks (alike first.ranks)))
      where
        alike : (xs : List ℕ) → AllZip ◌≤◌ xs xs
        alike [] = tt
        alike (x ∷ xs) = (omega arith, alike xs)

    reached : (entry : Entry) → IsRankedSplit p k cell entry → entry.choice ≡ first.choice
        → AllZip ◌≤◌ first.ranks entry.ranks → (first ≡ entry) ⊎ Next entry
    reached entry is choice low =
        ⊎_elim
        (λ same. inl (equal entry is choice same))
        (λ more. inr (next_of entry more.0 more.1 choice (headed more.0 more.1 entry is choice more.2)))
        (same_or_raised first.ranks entry.ranks low)

    -- what comes behind the opened entry and leads another one leads it still, or both come behind all
    leads_on : (leader entry : Entry) → IsRankedSplit p k cell leader → IsRankedSplit p k cell entry
        → leader.choice ≡ entry.choice → AllZip ◌≤◌ leader.ranks entry.ranks → Before first leader
        → IsSettled (algebra_of p).goal k new leader
        → IsSettled (algebra_of p).goal k new entry ⊎ IsLed new (opened + 1) entry
    leads_on leader entry is is' choice low before (inl (place, stands)) =
        inr (record { place = place; leader = leader; unopened = behind; stands = stands; choice = choice; lower = low })
      where
        behind : opened + 1 ≤ place
        behind =
            ⊎_elim
            (λ less. absurd (irreflexive first (transitive first leader first before (ordered_at Before new place opened leader first listing.in_order stands still less))))
            (λ more. ⊎_elim
            (λ more'. let m : opened < place = more' in omega arith)
            (λ less'.
            let here : place ≡ opened = omega arith in
            let one : leader ≡ first = some_one leader first (sym stands ∙ subst (λ n. IsAt new n first) (sym here) still) in
            absurd (irreflexive first (subst (Before first) one before)))
            (cases_lt opened place))
            (cases_lt place opened)
    leads_on leader entry is is' choice low before (inr behind) = inl (inr (behind_led new leader entry is is' choice low behind))

    pub opened_growing : IsGrowing p k cell new (opened + 1)
    opened_growing = record {
      listing = listing;
      met = λ entry is. ⊎_elim (λ settled. inl (kept entry settled)) (led entry is) (growing.met entry is);
    }
      where
        led : (entry : Entry) → IsRankedSplit p k cell entry → IsLed found opened entry
            → IsSettled (algebra_of p).goal k new entry ⊎ IsLed new (opened + 1) entry
        led entry is by =
            let leader = all_at (IsRankedSplit p k cell) found by.place by.leader growing.listing.hold by.stands in
            ⊎_elim
            (λ less. leads_on by.leader entry leader is by.choice by.lower
            (ordered_at Before found opened by.place first by.leader growing.listing.in_order at by.stands less)
            (kept by.leader (inl (by.place, by.stands))))
            (λ more.
            let here : by.place ≡ opened = omega (arith, by.unopened) in
            let one : by.leader ≡ first = some_one by.leader first (sym by.stands ∙ subst (λ n. IsAt found n first) (sym here) at) in
            ⊎_elim
            (λ same. inl (inl (opened, subst (IsAt new opened) same still)))
            (λ next. leads_on next.next entry next.ranked is next.choice next.low next.behind next.settled)
            (reached entry is (sym by.choice ∙ ap (λ (x : Entry). x.choice) one) (subst (λ (x : Entry). AllZip ◌≤◌ x.ranks entry.ranks) one by.lower)))
            (cases_lt opened by.place)
