-- The viable splits of an alternative, one after the other.
use Rattle.std.proofs.Common.{◌≡◌, ℕ, ◌+◌, ◌-◌, ◌*◌, ◌<◌, ◌≤◌, ◌⊎◌, inl, inr, List, [], ◌∷◌, length, refl, sym, subst, ◌∙◌, arith, ⊎_elim}
use Rattle.std.proofs.lemmas.Bool.{cases_lt}
use Rattle.adp_model.specs.declared.cell.Cell.{Cell}
use Rattle.adp_model.specs.PosedProblem.{PosedProblem}
use Rattle.adp_model.specs.Parts.{algebra_of}
use Rattle.adp_model.specs.Preference.{LexicographicallyLess}
use Rattle.adp_model.specs.Splits.{IsViable}
use Rattle.adp_model.specs.Walk.{IsVisitedBefore, IsNextVisited, IsLastVisited, rank_of, ranks_of}
use Rattle.first_trees.specs.Entries.{Entry}
use Rattle.first_trees.specs.RankedSplits.{IsRankedSplit}
use Rattle.k_best.specs.RankedRows.{IsListing}
use Rattle.k_best.specs.Settled.{IsSettled}

-- the turns of a walk that goes by the cuts as they are
abbrev pub no_turns : List ℕ
no_turns = 0 ∷ 0 ∷ 0 ∷ []

-- what is settled is done with
abbrev pub settled : PosedProblem → ℕ → List Entry → Entry → Type 0
settled p k = IsSettled (algebra_of p).goal k

-- the ranked splits of an alternative with cuts before these are done with, as settled ones are
pub record IsWalked (p : PosedProblem) (k : ℕ) (cell : Cell) (IsDone : List Entry → Entry → Type 0) (alternative : ℕ)
    (turns cuts : List ℕ) (old new : List Entry) : Type 0 where
  pub straight : turns ≡ no_turns
  pub viable : IsViable p cell alternative cuts
  pub listing : IsListing p k cell new
  pub kept : (entry : Entry) → IsDone old entry → IsDone new entry
  pub met : (entry : Entry) → IsRankedSplit p k cell entry → entry.choice.alt ≡ alternative
      → IsVisitedBefore cell no_turns entry.choice.cuts cuts → IsDone new entry

-- ---- how many steps a walk has left at most

abbrev code : List ℕ → ℕ
code (a ∷ b ∷ c ∷ []) = (a * 65536 + b) * 65536 + c
code others = 0

abbrev pub steps_left : Cell → List ℕ → ℕ
steps_left cell cuts = 281474976710656 - code (ranks_of cell no_turns cuts)

less_code : (a b c x y z : ℕ) → a < 65536 → b < 65536 → c < 65536 → x < 65536 → y < 65536 → z < 65536
    → LexicographicallyLess (a ∷ b ∷ c ∷ []) (x ∷ y ∷ z ∷ [])
    → 281474976710656 - code (x ∷ y ∷ z ∷ []) < 281474976710656 - code (a ∷ b ∷ c ∷ [])
less_code a b c x y z la lb lc lx ly lz (inl less) = omega arith
less_code a b c x y z la lb lc lx ly lz (inr (e, inl less)) = omega arith
less_code a b c x y z la lb lc lx ly lz (inr (e, inr (f, inl less))) = omega arith
less_code a b c x y z la lb lc lx ly lz (inr (e, inr (f, inr (g, less)))) = absurd less

module _ (cell : Cell) (short : cell.to ≤ 4000) where
  rank_small : (position : ℕ) → rank_of cell 0 position < 65536
  rank_small position = omega arith

  pub falls : (cuts others : List ℕ) → length cuts ≡ 3 → length others ≡ 3 → IsVisitedBefore cell no_turns cuts others
      → steps_left cell others < steps_left cell cuts
  falls (a ∷ b ∷ c ∷ []) (x ∷ y ∷ z ∷ []) e f before =
      less_code (rank_of cell 0 a) (rank_of cell 0 b) (rank_of cell 0 c) (rank_of cell 0 x) (rank_of cell 0 y) (rank_of cell 0 z)
      (rank_small a) (rank_small b) (rank_small c) (rank_small x) (rank_small y) (rank_small z) before
  falls [] others e f before = absurd (omega arith)
  falls (a ∷ []) others e f before = absurd (omega arith)
  falls (a ∷ b ∷ []) others e f before = absurd (omega arith)
  falls (a ∷ b ∷ c ∷ d ∷ cuts) others e f before = absurd (omega arith)
  falls (a ∷ b ∷ c ∷ []) [] e f before = absurd (omega arith)
  falls (a ∷ b ∷ c ∷ []) (x ∷ []) e f before = absurd (omega arith)
  falls (a ∷ b ∷ c ∷ []) (x ∷ y ∷ []) e f before = absurd (omega arith)
  falls (a ∷ b ∷ c ∷ []) (x ∷ y ∷ z ∷ w ∷ others) e f before = absurd (omega arith)

-- ---- each split is visited before another one, or behind it, or is it

either : (xs ys : List ℕ) → length xs ≡ length ys → (xs ≡ ys) ⊎ (LexicographicallyLess xs ys ⊎ LexicographicallyLess ys xs)
either [] [] e = inl refl
either [] (y ∷ ys) e = absurd (omega arith)
either (x ∷ xs) [] e = absurd (omega arith)
either (x ∷ xs) (y ∷ ys) e =
    ⊎_elim
    (λ less. inr (inl (inl less)))
    (λ not_less. ⊎_elim
    (λ more. inr (inr (inl more)))
    (λ not_more.
    let same : x ≡ y = omega arith in
    go same (either xs ys (omega arith)))
    (cases_lt y x))
    (cases_lt x y)
  where
    go : x ≡ y → (xs ≡ ys) ⊎ (LexicographicallyLess xs ys ⊎ LexicographicallyLess ys xs)
        → (x ∷ xs ≡ y ∷ ys) ⊎ (LexicographicallyLess (x ∷ xs) (y ∷ ys) ⊎ LexicographicallyLess (y ∷ ys) (x ∷ xs))
    go same (inl rest) = inl (λ i. same i ∷ rest i)
    go same (inr (inl less)) = inr (inl (inr (same, less)))
    go same (inr (inr more)) = inr (inr (inr (sym same, more)))

ranks_length : (cell : Cell) (cuts : List ℕ) → length cuts ≡ 3 → length (ranks_of cell no_turns cuts) ≡ 3
ranks_length cell [] e = absurd (omega arith)
ranks_length cell (a ∷ []) e = absurd (omega arith)
ranks_length cell (a ∷ b ∷ []) e = absurd (omega arith)
ranks_length cell (a ∷ b ∷ c ∷ []) e = refl
ranks_length cell (a ∷ b ∷ c ∷ d ∷ cuts) e = absurd (omega arith)

module _ (p : PosedProblem) (cell : Cell) (alternative : ℕ)
    (apart : (cuts others : List ℕ) → IsViable p cell alternative cuts → IsViable p cell alternative others
    → ranks_of cell no_turns cuts ≡ ranks_of cell no_turns others → cuts ≡ others) where
  pub visited : (cuts others : List ℕ) → IsViable p cell alternative cuts → IsViable p cell alternative others
      → (cuts ≡ others) ⊎ (IsVisitedBefore cell no_turns cuts others ⊎ IsVisitedBefore cell no_turns others cuts)
  visited cuts others viable viable' =
      ⊎_elim (λ same. inl (apart cuts others viable viable' same)) (λ other. inr other)
      (either (ranks_of cell no_turns cuts) (ranks_of cell no_turns others)
      (ranks_length cell cuts viable.three ∙ sym (ranks_length cell others viable'.three)))

-- ---- one split more

module _ (p : PosedProblem) (k : ℕ) (cell : Cell) (IsDone : List Entry → Entry → Type 0) (alternative : ℕ)
    (apart : (cuts others : List ℕ) → IsViable p cell alternative cuts → IsViable p cell alternative others
    → ranks_of cell no_turns cuts ≡ ranks_of cell no_turns others → cuts ≡ others)
    (turns cuts : List ℕ) (old middle new : List Entry) (walked : IsWalked p k cell IsDone alternative turns cuts old middle)
    (kept : (entry : Entry) → IsDone middle entry → IsDone new entry)
    (met : (entry : Entry) → IsRankedSplit p k cell entry
    → entry.choice ≡ record { alt = alternative; cuts = cuts } → IsDone new entry) where
  -- what isn't visited behind these cuts is done with now
  up_to_here : (entry : Entry) → IsRankedSplit p k cell entry → entry.choice.alt ≡ alternative
      → (IsVisitedBefore cell no_turns cuts entry.choice.cuts → ⊥) → IsDone new entry
  up_to_here entry is by not_behind =
      let viable = subst (λ a. IsViable p cell a entry.choice.cuts) by is.viable in
      ⊎_elim
      (λ same. met entry is (λ i. record { alt = by i; cuts = (sym same) i }))
      (λ other. ⊎_elim
      (λ behind. absurd (not_behind behind))
      (λ before. kept entry (walked.met entry is by before)) other)
      (visited p cell alternative apart cuts entry.choice.cuts walked.viable viable)

  pub all_walked : IsLastVisited p cell alternative turns cuts → (entry : Entry) → IsRankedSplit p k cell entry
      → entry.choice.alt ≡ alternative → IsDone new entry
  all_walked last entry is by =
      let viable = subst (λ a. IsViable p cell a entry.choice.cuts) by is.viable in
      up_to_here entry is by
      (subst (λ t. IsLastVisited p cell alternative t cuts) walked.straight last entry.choice.cuts viable)

  pub walked_on : (next : List ℕ) → IsNextVisited p cell alternative turns cuts next → IsListing p k cell new
      → IsWalked p k cell IsDone alternative turns next old new
  walked_on next is_next listing =
      let straight = subst (λ t. IsNextVisited p cell alternative t cuts next) walked.straight is_next in
      record {
        straight = walked.straight;
        viable = straight.viable;
        listing = listing;
        kept = λ entry settled. kept entry (walked.kept entry settled);
        met = λ entry is by before. up_to_here entry is by (λ behind.
            straight.next entry.choice.cuts (subst (λ a. IsViable p cell a entry.choice.cuts) by is.viable) behind before);
      }

  pub fewer_left : cell.to ≤ 4000 → (next : List ℕ) → IsNextVisited p cell alternative turns cuts next
      → steps_left cell next < steps_left cell cuts
  fewer_left short next is_next =
      let straight = subst (λ t. IsNextVisited p cell alternative t cuts next) walked.straight is_next in
      falls cell short cuts next walked.viable.three straight.viable.three straight.behind
