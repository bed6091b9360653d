-- The ranked splits whose ranks begin alike, rank by rank.
use Rattle.std.proofs.Common.{◌≡◌, ℕ, zero, suc, ◌+◌, ◌<◌, ◌≤◌, ℤ, List, [], ◌∷◌, ◌++◌, length, refl, sym, ap, subst, ◌∙◌, arith, ⊎_elim, length-append}
use Rattle.std.specs.List.{AllByRecursion, AllZip, Contains}
use Rattle.std.proofs.lemmas.Bool.{cases_lt}
use Rattle.adp_model.specs.declared.grammar.Arg.{Arg}
use Rattle.adp_model.specs.declared.grammar.Arg.TheVariants.{Rule}
use Rattle.adp_model.specs.declared.cell.Cell.{Cell}
use Rattle.adp_model.specs.declared.cell.Choice.{Choice}
use Rattle.adp_model.specs.PosedProblem.{PosedProblem}
use Rattle.adp_model.specs.Parts.{algebra_of, arguments_of}
use Rattle.adp_model.specs.Tokens.{letters_between, token_value, Matches}
use Rattle.adp_model.specs.WellFormed.{IsKnown}
use Rattle.adp_model.specs.Tree.{Tree, Leaf, Node}
use Rattle.adp_model.specs.Scores.{score_of}
use Rattle.adp_model.specs.Splits.{Placed, place, placed, ends_by, FitsSpan, IsViable}
use Rattle.first_trees.specs.FirstTrees.{AreFirst, IsAt}
use Rattle.first_trees.specs.Entries.{Entry, AreEntries, IsEntry}
use Rattle.first_trees.specs.RankedSplits.{HasScoreAt, HasRankedValue, AreRankedValues, IsRankedSplit}
use Rattle.k_best.specs.Settled.{IsSettled}
use Rattle.k_best.specs.RankedRows.{AreNotBelow, AreSettled, BeginWith, IsBegun, IsListing}
use Rattle.k_best.proofs.InOrder.{at_within, nothing_at, some_one}

-- ---- a loop over the ranks of one argument

-- of the splits whose ranks begin with these, the ones whose next rank is less than this number are settled
pub record IsGone (p : PosedProblem) (k : ℕ) (cell : Cell) (choice : Choice) (ranks : List ℕ) (number : ℕ)
    (old new : List Entry) : Type 0 where
  pub listing : IsListing p k cell new
  pub kept : (entry : Entry) → IsSettled (algebra_of p).goal k old entry → IsSettled (algebra_of p).goal k new entry
  pub met : (entry : Entry) → IsRankedSplit p k cell entry → entry.choice ≡ choice → BeginWith ranks entry.ranks
      → (rank : ℕ) → IsAt entry.ranks (length ranks) rank → rank < number → IsSettled (algebra_of p).goal k new entry

-- ---- one argument more

module _ (p : PosedProblem) (k : ℕ) where
  widened : (argument : Arg) (from to : ℕ) (Others Wide : List ℕ → List ℤ → Type 0) (more : List ℕ) (extra : List ℤ)
      → ((ranks : List ℕ) (values : List ℤ) → Others ranks values → Wide (ranks ++ more) (values ++ extra))
      → (ranks : List ℕ) (values : List ℤ)
      → HasRankedValue p k (record { argument = argument; from = from; to = to }) Others ranks values
      → HasRankedValue p k (record { argument = argument; from = from; to = to }) Wide (ranks ++ more) (values ++ extra)
  widened (Rule rule) from to Others Wide more extra wide [] values h = absurd h
  widened (Rule rule) from to Others Wide more extra wide (r ∷ rs) [] h = absurd h
  widened (Rule rule) from to Others Wide more extra wide (r ∷ rs) (v ∷ vs) h = (h.0, wide rs vs h.1)
  widened token from to Others Wide more extra wide ranks [] h = absurd h
  widened token from to Others Wide more extra wide ranks (v ∷ vs) h = (h.0, wide ranks vs h.1)

  one_behind : (laid : List Placed) (one : Placed) (more : List ℕ) (extra : List ℤ) → AreRankedValues p k (one ∷ []) more extra
      → (ranks : List ℕ) (values : List ℤ) → AreRankedValues p k laid ranks values
      → AreRankedValues p k (laid ++ one ∷ []) (ranks ++ more) (values ++ extra)
  one_behind [] one more extra last [] [] h = last
  one_behind [] one more extra last [] (v ∷ vs) h = absurd h
  one_behind [] one more extra last (r ∷ rs) [] h = absurd h
  one_behind [] one more extra last (r ∷ rs) (v ∷ vs) h = absurd h
  one_behind (x ∷ laid) one more extra last ranks values h =
      widened x.argument x.from x.to (AreRankedValues p k laid) (AreRankedValues p k (laid ++ one ∷ [])) more extra
      (one_behind laid one more extra last) ranks values h

  regrouped : {X : Type 0} (xs : List X) (x : X) (ys : List X) → xs ++ x ∷ ys ≡ (xs ++ x ∷ []) ++ ys
  regrouped [] x ys = refl
  regrouped (z ∷ xs) x ys = ap (λ them. z ∷ them) (regrouped xs x ys)

  -- ---- the rank that a split has for the next argument

  abbrev Finds : List Placed → Cell → List Placed → Type 0
  Finds laid child rest =
      (ranks : List ℕ) (values : List ℤ) → AreRankedValues p k laid ranks values
      → (others : List ℕ) (values' : List ℤ)
      → AreRankedValues p k (laid ++ record { argument = Rule child.rule; from = child.from; to = child.to } ∷ rest) others values'
      → (rank : ℕ) × (value : ℤ) × IsAt others (length ranks) rank × HasScoreAt p k child rank value

  finds_more : (child : Cell) (rest laid : List Placed) → Finds laid child rest → (argument : Arg) (from to : ℕ)
      → Finds (record { argument = argument; from = from; to = to } ∷ laid) child rest
  finds_more child rest laid again (Rule rule) from to [] values r others values' r' = absurd r
  finds_more child rest laid again (Rule rule) from to (x ∷ xs) [] r others values' r' = absurd r
  finds_more child rest laid again (Rule rule) from to (x ∷ xs) (v ∷ vs) r [] values' r' = absurd r'
  finds_more child rest laid again (Rule rule) from to (x ∷ xs) (v ∷ vs) r (y ∷ ys) [] r' = absurd r'
  finds_more child rest laid again (Rule rule) from to (x ∷ xs) (v ∷ vs) r (y ∷ ys) (w ∷ ws) r' = again xs vs r.1 ys ws r'.1
  finds_more child rest laid again token from to ranks [] r others values' r' = absurd r
  finds_more child rest laid again token from to ranks (v ∷ vs) r others [] r' = absurd r'
  finds_more child rest laid again token from to ranks (v ∷ vs) r others (w ∷ ws) r' = again ranks vs r.1 others ws r'.1

  pub finds : (laid : List Placed) (child : Cell) (rest : List Placed) → Finds laid child rest
  finds [] child rest [] [] r [] values' r' = absurd r'
  finds [] child rest [] [] r (y ∷ ys) [] r' = absurd r'
  finds [] child rest [] [] r (y ∷ ys) (w ∷ ws) r' = (y, w, refl, r'.0)
  finds [] child rest [] (v ∷ vs) r others values' r' = absurd r
  finds [] child rest (x ∷ xs) [] r others values' r' = absurd r
  finds [] child rest (x ∷ xs) (v ∷ vs) r others values' r' = absurd r
  finds (one ∷ laid) child rest ranks values r others values' r' =
      finds_more child rest laid (finds laid child rest) one.argument one.from one.to ranks values r others values' r'

  -- ---- a list and the scores that stand in it

  zip_at : (trees : List Tree) (list : List Entry) (place : ℕ) (entry : Entry) → AllZip (IsEntry p k) trees list
      → IsAt list place entry → (tree : Tree) × IsAt trees place tree × IsEntry p k tree entry
  zip_at [] [] place entry zip at = absurd (nothing_at entry at)
  zip_at [] (y ∷ ys) place entry zip at = absurd zip
  zip_at (x ∷ xs) [] place entry zip at = absurd zip
  zip_at (x ∷ xs) (y ∷ ys) zero entry zip at = (x, refl, subst (IsEntry p k x) (some_one y entry at) zip.0)
  zip_at (x ∷ xs) (y ∷ ys) (suc place) entry zip at = zip_at xs ys place entry zip.1 at

  zip_length : (trees : List Tree) (list : List Entry) → AllZip (IsEntry p k) trees list → length trees ≡ length list
  zip_length [] [] zip = refl
  zip_length [] (y ∷ ys) zip = absurd zip
  zip_length (x ∷ xs) [] zip = absurd zip
  zip_length (x ∷ xs) (y ∷ ys) zip = ap suc (zip_length xs ys zip.1)

  entry_score : (tree : Tree) (entry : Entry) → IsEntry p k tree entry → entry.score ≡ score_of p tree
  entry_score (Leaf from to) entry is = absurd is
  entry_score (Node rule alternative from to children) entry is = is.0

  pub list_few : (child : Cell) (list : List Entry) → AreEntries p k child list → length list ≤ k
  list_few child list are =
      let few = are.1.few in
      omega (arith, zip_length are.0 list are.2)

  pub score_at : (child : Cell) (list : List Entry) → AreEntries p k child list → (rank : ℕ) (entry : Entry)
      → IsAt list rank entry → HasScoreAt p k child rank entry.score
  score_at child list are rank entry at =
      let found = zip_at are.0 list rank entry are.2 at in
      (found.0, (are.0, are.1, found.1), entry_score found.0 entry found.2)

  pub rank_within : ((child : Cell) (trees others : List Tree) → AreFirst p child k trees → AreFirst p child k others → trees ≡ others)
      → (child : Cell) (list : List Entry) → AreEntries p k child list → (rank : ℕ) (value : ℤ)
      → HasScoreAt p k child rank value → rank < length list
  rank_within one child list are rank value has =
      let listed = has.1 in
      let same : listed.0 ≡ are.0 = one child listed.0 are.0 listed.1 are.1 in
      let within = at_within listed.0 rank has.0 listed.2 in
      omega (arith, within, ap length same, zip_length are.0 list are.2)

-- ---- ranks with one rank more

begin_more : (ranks others : List ℕ) (rank : ℕ) → BeginWith ranks others → IsAt others (length ranks) rank
    → BeginWith (ranks ++ rank ∷ []) others
begin_more [] [] rank b at = absurd (nothing_at rank at)
begin_more [] (y ∷ ys) rank b at = (sym (some_one y rank at), tt)
begin_more (x ∷ xs) [] rank b at = absurd b
begin_more (x ∷ xs) (y ∷ ys) rank b at = (b.0, begin_more xs ys rank b.1 at)

not_below_more : (ranks others : List ℕ) (least rank : ℕ) → AreNotBelow ranks others → IsAt others (length ranks) rank
    → least ≤ rank → AreNotBelow (ranks ++ least ∷ []) others
not_below_more [] [] least rank b at l = absurd (nothing_at rank at)
not_below_more [] (y ∷ ys) least rank b at l = (omega (arith, some_one y rank at), tt)
not_below_more (x ∷ xs) [] least rank b at l = absurd b
not_below_more (x ∷ xs) (y ∷ ys) least rank b at l = (b.0, not_below_more xs ys least rank b.1 at l)

begun_not_below : (ranks others : List ℕ) → BeginWith ranks others → AreNotBelow ranks others
begun_not_below [] others b = tt
begun_not_below (x ∷ xs) [] b = absurd b
begun_not_below (x ∷ xs) (y ∷ ys) b = (omega (arith, b.0), begun_not_below xs ys b.1)

-- ---- a split that is begun

module _ (p : PosedProblem) (k : ℕ) (cell : Cell) (choice : Choice) (ranks : List ℕ) (values : List ℤ)
    (others : List Arg) (from to : ℕ) (later : List ℕ) where
  begun_more : (argument : Arg) → IsBegun p k cell choice ranks values (argument ∷ others) from (to ∷ later)
      → (more : List ℕ) (value : ℤ)
      → AreRankedValues p k (record { argument = argument; from = from; to = to } ∷ []) more (value ∷ [])
      → IsBegun p k cell choice (ranks ++ more) (values ++ value ∷ []) others to later
  begun_more argument begun more value last =
      let one : Placed = record { argument = argument; from = from; to = to } in
      record {
        first = begun.first ++ one ∷ [];
        laid = begun.laid ∙ regrouped p k begun.first one (place others to later);
        ranked = one_behind p k begun.first one more (value ∷ []) last ranks values begun.ranked;
        enough = let enough = begun.enough in omega arith;
        as_many = let many = begun.as_many in omega (arith, length-append values (value ∷ []));
      }

  pub begun_rule : (rule : ℕ) → IsBegun p k cell choice ranks values (Rule rule ∷ others) from (to ∷ later)
      → (rank : ℕ) (value : ℤ) → HasScoreAt p k (record { rule = rule; from = from; to = to }) rank value
      → IsBegun p k cell choice (ranks ++ rank ∷ []) (values ++ value ∷ []) others to later
  begun_rule rule begun rank value has = begun_more (Rule rule) begun (rank ∷ []) value (has, tt)

  pub begun_token : (token : Arg) → ((rule : ℕ) → token ≡ Rule rule → ⊥)
      → IsBegun p k cell choice ranks values (token ∷ others) from (to ∷ later)
      → (value : ℤ) → value ≡ token_value p.grammar token (letters_between p.word from to)
      → IsBegun p k cell choice ranks (values ++ value ∷ []) others to later
  begun_token token none begun value is =
      subst (λ xs. IsBegun p k cell choice xs (values ++ value ∷ []) others to later) (none_more ranks)
      (begun_more token begun [] value (go token none is))
    where
      none_more : (xs : List ℕ) → xs ++ [] ≡ xs
      none_more [] = refl
      none_more (x ∷ xs) = ap (λ them. x ∷ them) (none_more xs)

      go : (token : Arg) → ((rule : ℕ) → token ≡ Rule rule → ⊥)
          → value ≡ token_value p.grammar token (letters_between p.word from to)
          → AreRankedValues p k (record { argument = token; from = from; to = to } ∷ []) [] (value ∷ [])
      go (Rule rule) none is = absurd (none rule refl)
      go token none is = (is, tt)

  pub child_contained : (argument : Arg) → IsBegun p k cell choice ranks values (argument ∷ others) from (to ∷ later)
      → Contains (placed p cell choice.alt choice.cuts) (record { argument = argument; from = from; to = to })
  child_contained argument begun =
      subst (λ laid. Contains laid (record { argument = argument; from = from; to = to })) (sym begun.laid)
      (go begun.first)
    where
      go : (laid : List Placed) → Contains (laid ++ record { argument = argument; from = from; to = to } ∷ place others to later) (record { argument = argument; from = from; to = to })
      go [] = (zero, omega arith, refl)
      go (x ∷ laid) = let rest = go laid in let l = rest.1 in (suc rest.0, omega arith, rest.2)

  -- ---- the ranks of the next rule

  module _ (rule : ℕ) (begun : IsBegun p k cell choice ranks values (Rule rule ∷ others) from (to ∷ later))
      (one : (child : Cell) (trees others : List Tree) → AreFirst p child k trees → AreFirst p child k others → trees ≡ others)
      (list : List Entry) (are : AreEntries p k (record { rule = rule; from = from; to = to }) list) where
    next_rank : (entry : Entry) → IsRankedSplit p k cell entry → entry.choice ≡ choice
        → (rank : ℕ) × IsAt entry.ranks (length ranks) rank × (rank < length list)
    next_rank entry is same =
        let child : Cell = record { rule = rule; from = from; to = to } in
        let laid : placed p cell entry.choice.alt entry.choice.cuts ≡ begun.first ++ record { argument = Rule rule; from = from; to = to } ∷ place others to later =
        ap (λ (c : Choice). placed p cell c.alt c.cuts) same ∙ begun.laid in
        let found =
        finds p k begun.first child (place others to later) ranks values begun.ranked entry.ranks is.values
        (subst (λ spans. AreRankedValues p k spans entry.ranks is.values) laid is.are_values) in
        (found.0, found.2, rank_within p k one child list are found.0 found.1 found.3)

    pub begun_next : (rank : ℕ) (entry : Entry) → IsAt list rank entry
        → IsBegun p k cell choice (ranks ++ rank ∷ []) (values ++ entry.score ∷ []) others to later
    begun_next rank entry at =
        begun_rule rule begun rank entry.score (score_at p k (record { rule = rule; from = from; to = to }) list are rank entry at)

    module _ (number : ℕ) (old middle new : List Entry) (gone : IsGone p k cell choice ranks number old middle)
        (kept : (entry : Entry) → IsSettled (algebra_of p).goal k middle entry → IsSettled (algebra_of p).goal k new entry) where
      pub still_kept : (entry : Entry) → IsSettled (algebra_of p).goal k old entry → IsSettled (algebra_of p).goal k new entry
      still_kept entry settled = kept entry (gone.kept entry settled)

      -- the first split with the next rank is out: so are all with this rank or a greater one
      pub met_left : AreSettled p k cell choice (AreNotBelow (ranks ++ number ∷ [])) new
          → AreSettled p k cell choice (BeginWith ranks) new
      met_left out entry is same begins =
          let next = next_rank entry is same in
          ⊎_elim
          (λ less. kept entry (gone.met entry is same begins next.0 next.1 less))
          (λ more. out entry is same
          (not_below_more ranks entry.ranks number next.0 (begun_not_below ranks entry.ranks begins) next.1 more))
          (cases_lt next.0 number)

      pub out_left : number ≡ 0 → AreSettled p k cell choice (AreNotBelow (ranks ++ number ∷ [])) new
          → AreSettled p k cell choice (AreNotBelow ranks) new
      out_left none out entry is same above =
          let next = next_rank entry is same in
          out entry is same (not_below_more ranks entry.ranks number next.0 above next.1 (omega arith))

      pub gone_more : IsListing p k cell new → AreSettled p k cell choice (BeginWith (ranks ++ number ∷ [])) new
          → IsGone p k cell choice ranks (number + 1) old new
      gone_more listing met = record {
        listing = listing;
        kept = still_kept;
        met = λ entry is same begins rank at less. ⊎_elim
            (λ before. kept entry (gone.met entry is same begins rank at before))
            (λ here. met entry is same (begin_more ranks entry.ranks number begins
            (subst (λ n. IsAt entry.ranks (length ranks) n) (let e : rank ≡ number = omega arith in e) at)))
            (cases_lt rank number);
      }

    module _ (number : ℕ) (old new : List Entry) (gone : IsGone p k cell choice ranks number old new) where
      pub met_whole : length list ≤ number → AreSettled p k cell choice (BeginWith ranks) new
      met_whole all entry is same begins =
          let next = next_rank entry is same in
          gone.met entry is same begins next.0 next.1 (omega (arith, next.2))

      pub out_empty : length list ≡ 0 → AreSettled p k cell choice (AreNotBelow ranks) new
      out_empty none entry is same above = absurd (omega (arith, (next_rank entry is same).2))

-- ---- a token among the arguments

module _ (p : PosedProblem) (from to : ℕ) where
  pub token_matches : (token : Arg) → ((rule : ℕ) → token ≡ Rule rule → ⊥)
      → FitsSpan p (record { argument = token; from = from; to = to })
      → Matches p.grammar token (letters_between p.word from to)
  token_matches (Rule rule) none fits = absurd (none rule refl)
  token_matches token none fits = fits.1

all_contained : {X : Type 0} (P : X → Type 0) (xs : List X) (x : X) → AllByRecursion P xs → Contains xs x → P x
all_contained P [] x all (place, within, is) = absurd (omega arith)
all_contained P (y ∷ xs) x all (zero, within, is) = subst P is all.0
all_contained P (y ∷ xs) x all (suc place, within, is) = all_contained P xs x all.1 (place, omega arith, is)

placed_argument : (arguments : List Arg) (from : ℕ) (ends : List ℕ) (one : Placed) → Contains (place arguments from ends) one
    → Contains arguments one.argument
placed_argument [] from ends one (place, within, is) = absurd (omega arith)
placed_argument (argument ∷ arguments) from [] one (place, within, is) = absurd (omega arith)
placed_argument (argument ∷ arguments) from (to ∷ ends) one (zero, within, is) =
    (zero, omega arith, ap (λ (x : Placed). x.argument) is)
placed_argument (argument ∷ arguments) from (to ∷ ends) one (suc place, within, is) =
    let rest = placed_argument arguments to ends one (place, omega arith, is) in
    let l = rest.1 in
    (suc rest.0, omega arith, rest.2)

module _ (p : PosedProblem) (cell : Cell) (choice : Choice) (one : Placed)
    (there : Contains (placed p cell choice.alt choice.cuts) one) where
  pub argument_there : Contains (arguments_of p.grammar cell.rule choice.alt) one.argument
  argument_there =
      placed_argument (arguments_of p.grammar cell.rule choice.alt) cell.from (ends_by cell choice.cuts) one there

  pub argument_known : AllByRecursion (IsKnown p.grammar) (arguments_of p.grammar cell.rule choice.alt)
      → IsKnown p.grammar one.argument
  argument_known known =
      all_contained (IsKnown p.grammar) (arguments_of p.grammar cell.rule choice.alt) one.argument known argument_there

  pub argument_fits : IsViable p cell choice.alt choice.cuts → FitsSpan p one
  argument_fits viable = all_contained (FitsSpan p) (placed p cell choice.alt choice.cuts) one viable.fits there
