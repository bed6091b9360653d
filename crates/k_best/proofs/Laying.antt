-- The arguments of an alternative, laid one behind the other.
use Rattle.std.proofs.Common.{◌≡◌, ◌==◌, ℕ, suc, ◌+◌, ◌-◌, ◌<◌, ◌≤◌, ℤ, true, false, Result, Ok, Err, IfOk, List, [], ◌∷◌, ◌++◌, length, take, drop, slice_set, refl, sym, ap, subst, ◌∙◌, arith, ⊎_elim, append_assoc, length-append}
use Rattle.std.specs.List.{AllByRecursion}
use Rattle.std.proofs.lemmas.Bool.{cases_lt, false≢true}
use Rattle.std.proofs.lemmas.Bool.Decides.{nat_tests}
use Rattle.std.specs.declared.ops.Range.{Range}
use Rattle.std.proofs.lemmas.List.{drop-append-le, drop-drop, drop-set-lt, drop_at, length-drop, length-take-le, take-append-drop, take_more_set}
use Rattle.adp_model.specs.declared.grammar.Arg.{Arg}
use Rattle.adp_model.specs.declared.grammar.Arg.TheVariants.{Rule}
use Rattle.adp_model.specs.declared.cell.Cell.{Cell}
use Rattle.adp_model.specs.declared.cell.Choice.{Choice}
use Rattle.adp_model.specs.PosedProblem.{PosedProblem}
use Rattle.adp_model.specs.Parts.{algebra_of, arguments_of}
use Rattle.adp_model.specs.Splits.{Placed, FitsSpan, IsViable, place, placed}
use Rattle.first_trees.specs.Entries.{Entry}
use Rattle.first_trees.specs.RankedSplits.{AreRankedValues, HasRankedValue, IsRankedSplit}
use Rattle.viable_splits.specs.Placing.{ArePositions, Cover, on_span}
use Rattle.k_best.specs.GrowingLists.{no_ranks}
use Rattle.k_best.specs.Heads.{AreHeadedBy, IsLaid, IsTreeless}
use Rattle.k_best.specs.RankedRows.{IsListing}
use Rattle.k_best.specs.Settled.{IsSettled}
use Rattle.k_best.proofs.Told.{headed_kept}

-- ---- lists

all_behind : {X : Type 0} (P : X → Type 0) (xs ys : List X) → AllByRecursion P (xs ++ ys) → AllByRecursion P ys
all_behind P [] ys all = all
all_behind P (x ∷ xs) ys all = all_behind P xs ys all.1

all_both : {X : Type 0} (P : X → Type 0) (xs ys : List X) → AllByRecursion P xs → AllByRecursion P ys
    → AllByRecursion P (xs ++ ys)
all_both P [] ys all others = others
all_both P (x ∷ xs) ys all others = (all.0, all_both P xs ys all.1 others)

-- cuts that stand at one position
abbrev Stand : ℕ → List ℕ → Type 0
Stand to = AllByRecursion (λ cut. cut ≡ to)

stand_more : (to : ℕ) (xs : List ℕ) → Stand to xs → Stand to (xs ++ to ∷ [])
stand_more to [] all = (refl, tt)
stand_more to (x ∷ xs) all = (all.0, stand_more to xs all.1)

stand_before : (to : ℕ) (xs : List ℕ) → Stand to (xs ++ to ∷ []) → Stand to xs
stand_before to [] all = tt
stand_before to (x ∷ xs) all = (all.0, stand_before to xs all.1)

stand_later : (to : ℕ) (xs : List ℕ) → Stand to xs → Stand to (drop 1 xs)
stand_later to [] all = tt
stand_later to (x ∷ xs) all = all.1

stand_same : (to : ℕ) (xs ys : List ℕ) → Stand to xs → Stand to ys → length xs ≡ length ys → xs ≡ ys
stand_same to [] [] all others many = refl
stand_same to [] (y ∷ ys) all others many = absurd (omega arith)
stand_same to (x ∷ xs) [] all others many = absurd (omega arith)
stand_same to (x ∷ xs) (y ∷ ys) all others many =
    let first : x ≡ y = all.0 ∙ sym others.0 in
    let rest = stand_same to xs ys all.1 others.1 (omega arith) in
    λ i. first i ∷ rest i

place_last : (argument : Arg) (from to : ℕ) (xs : List ℕ) → Stand to xs
    → place (argument ∷ []) from (xs ++ to ∷ []) ≡ on_span argument from to ∷ []
place_last argument from to [] all = refl
place_last argument from to (x ∷ xs) all = ap (λ (end : ℕ). on_span argument from end ∷ []) all.0

-- arguments that are placed cover their letters
cover_of : (p : PosedProblem) (arguments : List Arg) (from to : ℕ) (ends : List ℕ) → 0 < length arguments
    → length arguments ≤ length ends → AllByRecursion (FitsSpan p) (place arguments from ends)
    → Stand to (drop (length arguments - 1) ends) → Cover p arguments from to
cover_of p [] from to ends some many fits closed = absurd (omega arith)
cover_of p (argument ∷ arguments) from to [] some many fits closed = absurd (omega arith)
cover_of p (argument ∷ []) from to (end ∷ ends) some many fits closed =
    (to, subst (λ n. FitsSpan p (on_span argument from n)) closed.0 fits.0, refl)
cover_of p (argument ∷ next ∷ arguments) from to (end ∷ ends) some many fits closed =
    let more : suc (suc (length arguments)) - 1 ≡ suc (length arguments) = omega arith in
    let fewer : suc (length arguments) - 1 ≡ length arguments = omega arith in
    let behind = subst (Stand to) (ap (λ n. drop n (end ∷ ends)) more ∙ sym (ap (λ n. drop n ends) fewer)) closed in
    (end, fits.0, cover_of p (next ∷ arguments) end to ends (omega arith) (omega (arith, many)) fits.1 behind)

-- ---- an argument without a tree

module _ (p : PosedProblem) (k : ℕ) where
  none_here : (argument : Arg) (from to : ℕ) (Others : List ℕ → List ℤ → Type 0) → IsTreeless p k (on_span argument from to)
      → (ranks : List ℕ) (values : List ℤ) → HasRankedValue p k (on_span argument from to) Others ranks values → ⊥
  none_here (Rule rule) from to Others none [] values has = has
  none_here (Rule rule) from to Others none (rank ∷ ranks) [] has = has
  none_here (Rule rule) from to Others none (rank ∷ ranks) (value ∷ values) has = none rank value has.0
  none_here token from to Others none ranks values has = none

  none_later : (argument : Arg) (from to : ℕ) (Others : List ℕ → List ℤ → Type 0)
      → ((ranks : List ℕ) (values : List ℤ) → Others ranks values → ⊥)
      → (ranks : List ℕ) (values : List ℤ) → HasRankedValue p k (on_span argument from to) Others ranks values → ⊥
  none_later (Rule rule) from to Others none [] values has = has
  none_later (Rule rule) from to Others none (rank ∷ ranks) [] has = has
  none_later (Rule rule) from to Others none (rank ∷ ranks) (value ∷ values) has = none ranks values has.1
  none_later token from to Others none ranks [] has = has
  none_later token from to Others none ranks (value ∷ values) has = none ranks values has.1

  none_among : (first : List Placed) (one : Placed) (rest : List Placed) → IsTreeless p k one
      → (ranks : List ℕ) (values : List ℤ) → AreRankedValues p k (first ++ one ∷ rest) ranks values → ⊥
  none_among [] one rest none ranks values are =
      none_here one.argument one.from one.to (AreRankedValues p k rest) none ranks values are
  none_among (x ∷ first) one rest none ranks values are =
      none_later x.argument x.from x.to (AreRankedValues p k (first ++ one ∷ rest)) (none_among first one rest none)
      ranks values are

-- ---- a viable split whose first arguments are laid so

module _ (p : PosedProblem) (cell : Cell) (alternative : ℕ) (cuts : List ℕ) (three : length cuts ≡ 3) (count : ℕ)
    (arguments : List Arg) (some : 0 < length arguments) (from : ℕ)
    (laid : IsLaid p cell alternative cuts count arguments from) where
  within : count ≤ length cuts
  within = omega (arith, laid.few, some, three)

  module _ (others : List ℕ) (viable : IsViable p cell alternative (take count cuts ++ others)) where
    others_many : count + length others ≡ 3
    others_many = omega (arith, viable.three, length-append (take count cuts) others, length-take-le count cuts within)

    fit_behind : AllByRecursion (FitsSpan p) (place arguments from (others ++ cell.to ∷ []))
    fit_behind =
        all_behind (FitsSpan p) laid.first (place arguments from (others ++ cell.to ∷ []))
        (subst (AllByRecursion (FitsSpan p)) (laid.laid others) viable.fits)

    closed_behind : Stand cell.to (drop (length arguments - 1) (others ++ cell.to ∷ []))
    closed_behind =
        let all : List ℕ = (take count cuts ++ others) ++ cell.to ∷ [] in
        let many : length (arguments_of p.grammar cell.rule alternative) - 1 ≡ count + (length arguments - 1) =
        omega (arith, laid.as_many, some) in
        let behind : drop count all ≡ others ++ cell.to ∷ [] =
        ap (drop count) (append_assoc (take count cuts) others (cell.to ∷ []))
        ∙ drop_at (take count cuts) (others ++ cell.to ∷ []) count (length-take-le count cuts within) in
        subst (Stand cell.to)
        (ap (λ n. drop n all) many ∙ sym (drop-drop (length arguments - 1) count all)
        ∙ ap (drop (length arguments - 1)) behind) viable.last

-- ---- the last argument

module _ (p : PosedProblem) (cell : Cell) (alternative : ℕ) (cuts : List ℕ) (three : length cuts ≡ 3) (count : ℕ)
    (argument : Arg) (from : ℕ) (laid : IsLaid p cell alternative cuts count (argument ∷ []) from) where
  some_last : 0 < length (argument ∷ [])
  some_last = omega arith

  within_last : count ≤ length cuts
  within_last = within p cell alternative cuts three count (argument ∷ []) some_last from laid

  pub last_viable : FitsSpan p (on_span argument from cell.to) → IsViable p cell alternative cuts
  last_viable fits =
      let last = place_last argument from cell.to (drop count cuts) laid.unlaid in
      let all : placed p cell alternative cuts ≡ laid.first ++ on_span argument from cell.to ∷ [] =
      ap (placed p cell alternative) (sym (take-append-drop count cuts)) ∙ laid.laid (drop count cuts)
      ∙ ap (λ them. laid.first ++ them) last in
      let many : length (arguments_of p.grammar cell.rule alternative) - 1 ≡ count = omega (arith, laid.as_many) in
      record {
        in_range = laid.in_range;
        allowed = laid.allowed;
        three = three;
        last = subst (Stand cell.to)
            (sym (ap (λ n. drop n (cuts ++ cell.to ∷ [])) many ∙ drop-append-le count cuts (cell.to ∷ []) within_last))
            (stand_more cell.to (drop count cuts) laid.unlaid);
        fits = subst (AllByRecursion (FitsSpan p)) (sym all)
            (all_both (FitsSpan p) laid.first (on_span argument from cell.to ∷ []) laid.fit (fits, tt));
      }

  module _ (others : List ℕ) (viable : IsViable p cell alternative (take count cuts ++ others)) where
    stand_last : Stand cell.to others
    stand_last =
        stand_before cell.to others
        (closed_behind p cell alternative cuts three count (argument ∷ []) some_last from laid others viable)

    pub last_fits : FitsSpan p (on_span argument from cell.to)
    last_fits =
        (subst (AllByRecursion (FitsSpan p)) (place_last argument from cell.to others stand_last)
        (fit_behind p cell alternative cuts three count (argument ∷ []) some_last from laid others viable)).0

    pub last_cuts : take count cuts ++ others ≡ cuts
    last_cuts =
        let many : length others ≡ length (drop count cuts) =
        omega (
          arith,
          length-drop count cuts,
          three,
          others_many p cell alternative cuts three count (argument ∷ []) some_last from laid others viable,
        ) in
        ap (λ them. take count cuts ++ them)
        (stand_same cell.to others (drop count cuts) stand_last laid.unlaid many) ∙ take-append-drop count cuts

  -- no split has these cuts, or it is this one
  pub none_last : (k : ℕ) (found : List Entry) → (FitsSpan p (on_span argument from cell.to) → ⊥)
      → AreHeadedBy p k cell alternative (take count cuts) found
  none_last k found not others entry is same =
      absurd (not (last_fits others (subst (λ (c : Choice). IsViable p cell c.alt c.cuts) same is.viable)))

  pub one_last : (k : ℕ) (entry : Entry) (others : List ℕ) → IsRankedSplit p k cell entry
      → entry.choice ≡ record { alt = alternative; cuts = take count cuts ++ others }
      → entry.choice ≡ record { alt = alternative; cuts = cuts }
  one_last k entry others is same =
      same ∙ ap (λ (them : List ℕ). record { alt = alternative; cuts = them })
      (last_cuts others (subst (λ (c : Choice). IsViable p cell c.alt c.cuts) same is.viable))

-- ---- an argument before others

-- the first of the further cuts of a split
pub record HasEnd (p : PosedProblem) (argument : Arg) (arguments : List Arg) (from to : ℕ) (others : List ℕ) : Type 0 where
  pub end : ℕ
  pub more : List ℕ
  pub are : others ≡ end ∷ more
  pub fits : FitsSpan p (on_span argument from end)
  pub covers : Cover p arguments end to

-- what is settled while the argument ends at one position after the other
pub record IsLaidTo (p : PosedProblem) (k : ℕ) (cell : Cell) (alternative : ℕ) (cuts : List ℕ) (start end : ℕ)
    (old new : List Entry) : Type 0 where
  pub listing : IsListing p k cell new
  pub kept : (entry : Entry) → IsSettled (algebra_of p).goal k old entry → IsSettled (algebra_of p).goal k new entry
  pub met : (place : ℕ) → start ≤ place → place < end → AreHeadedBy p k cell alternative (cuts ++ place ∷ []) new

module _ (p : PosedProblem) (k : ℕ) (cell : Cell) (alternative : ℕ) (cuts : List ℕ) (start end : ℕ) where
  pub laid_none : (found : List Entry) → IsListing p k cell found → IsLaidTo p k cell alternative cuts start start found found
  laid_none found listing = record {
    listing = listing;
    kept = λ entry settled. settled;
    met = λ place low less. absurd (omega arith);
  }

  pub laid_more : (old middle new : List Entry) → IsLaidTo p k cell alternative cuts start end old middle
      → IsListing p k cell new
      → ((entry : Entry) → IsSettled (algebra_of p).goal k middle entry → IsSettled (algebra_of p).goal k new entry)
      → AreHeadedBy p k cell alternative (cuts ++ end ∷ []) new
      → IsLaidTo p k cell alternative cuts start (end + 1) old new
  laid_more old middle new before listing kept here = record {
    listing = listing;
    kept = λ entry settled. kept entry (before.kept entry settled);
    met = λ place low less others entry is same. ⊎_elim
        (λ earlier. headed_kept p k cell no_ranks middle new kept entry (before.met place low earlier others entry is same))
        (λ behind. here others entry is
        (subst (λ (n : ℕ). entry.choice ≡ record { alt = alternative; cuts = (cuts ++ n ∷ []) ++ others })
        (let e : place ≡ end = omega (arith, less, behind) in e) same))
        (cases_lt place end);
  }

module _ (p : PosedProblem) (cell : Cell) (alternative : ℕ) (cuts : List ℕ) (three : length cuts ≡ 3) (count : ℕ)
    (argument : Arg) (arguments : List Arg) (some : 0 < length arguments) (from : ℕ)
    (laid : IsLaid p cell alternative cuts count (argument ∷ arguments) from) where
  some_first : 0 < length (argument ∷ arguments)
  some_first = omega arith

  pub laid_next : (end : ℕ) → FitsSpan p (on_span argument from end) → end ≤ cell.to
      → IsLaid p cell alternative (slice_set cuts count end) (count + 1) arguments end
  laid_next end fits low =
      let front = take_more_set cuts count end (omega (arith, laid.few, some, three)) in
      let one : List Placed = on_span argument from end ∷ [] in
      record {
        in_range = laid.in_range;
        allowed = laid.allowed;
        span = record { in_order = low; in_word = laid.span.in_word };
        known = laid.known.1;
        few = omega (arith, laid.few);
        as_many = omega (arith, laid.as_many);
        unlaid = subst (Stand cell.to)
            (drop-drop 1 count cuts ∙ sym (drop-set-lt (count + 1) cuts count end (omega arith)))
            (stand_later cell.to (drop count cuts) laid.unlaid);
        first = laid.first ++ one;
        fit = all_both (FitsSpan p) laid.first one laid.fit (fits, tt);
        laid = λ others. ap (λ them. placed p cell alternative (them ++ others)) front
            ∙ ap (placed p cell alternative) (append_assoc (take count cuts) (end ∷ []) others)
            ∙ laid.laid (end ∷ others)
            ∙ sym (append_assoc laid.first one (place arguments end (others ++ cell.to ∷ [])));
      }

  pub next_cuts : (end : ℕ) → take (count + 1) (slice_set cuts count end) ≡ take count cuts ++ end ∷ []
  next_cuts end = take_more_set cuts count end (omega (arith, laid.few, some, three))

  end_of : (others : List ℕ) → IsViable p cell alternative (take count cuts ++ others)
      → HasEnd p argument arguments from cell.to others
  end_of others viable =
      go others
      (others_many p cell alternative cuts three count (argument ∷ arguments) some_first from laid others viable)
      (fit_behind p cell alternative cuts three count (argument ∷ arguments) some_first from laid others viable)
      (closed_behind p cell alternative cuts three count (argument ∷ arguments) some_first from laid others viable)
    where
      go : (others : List ℕ) → count + length others ≡ 3
          → AllByRecursion (FitsSpan p) (place (argument ∷ arguments) from (others ++ cell.to ∷ []))
          → Stand cell.to (drop (length (argument ∷ arguments) - 1) (others ++ cell.to ∷ []))
          → HasEnd p argument arguments from cell.to others
      go [] many fits closed = absurd (omega (arith, many, laid.few, some))
      go (end ∷ more) many fits closed =
          let ends : List ℕ = more ++ cell.to ∷ [] in
          let fewer : length (argument ∷ arguments) - 1 ≡ suc (length arguments - 1) = omega (arith, some) in
          let behind : Stand cell.to (drop (length arguments - 1) ends) =
          subst (Stand cell.to) (ap (λ n. drop n (end ∷ ends)) fewer) closed in
          let room : length arguments ≤ length ends =
          omega (arith, length-append more (cell.to ∷ []), many, laid.few) in
          record {
            end = end;
            more = more;
            are = refl;
            fits = fits.0;
            covers = cover_of p arguments end cell.to ends some room fits.1 behind;
          }

  module _ (k : ℕ) where
    -- no ranked split lays an argument on a span of which it has no tree
    pub treeless : (end : ℕ) (found : List Entry) → IsTreeless p k (on_span argument from end)
        → AreHeadedBy p k cell alternative (take count cuts ++ end ∷ []) found
    treeless end found none others entry is same =
        let rest : List Placed = place arguments end (others ++ cell.to ∷ []) in
        let all : placed p cell entry.choice.alt entry.choice.cuts ≡ laid.first ++ on_span argument from end ∷ rest =
        ap (λ (c : Choice). placed p cell c.alt c.cuts) same
        ∙ ap (placed p cell alternative) (append_assoc (take count cuts) (end ∷ []) others)
        ∙ laid.laid (end ∷ others) in
        absurd (none_among p k laid.first (on_span argument from end) rest none entry.ranks is.values
        (subst (λ them. AreRankedValues p k them entry.ranks is.values) all is.are_values))

    pub laid_all : (ends : Range ℕ) → ArePositions p argument arguments from cell.to ends → (end : ℕ) → ends.end ≤ end
        → (old new : List Entry) → IsLaidTo p k cell alternative (take count cuts) ends.start end old new
        → AreHeadedBy p k cell alternative (take count cuts) new
    laid_all ends positions end all old new walked others entry is same =
        let one = end_of others (subst (λ (c : Choice). IsViable p cell c.alt c.cuts) same is.viable) in
        let among = positions.none_missed one.end one.fits one.covers in
        walked.met one.end among.0 (omega (arith, among.1, all)) one.more entry is
        (same ∙ ap (λ (them : List ℕ). record { alt = alternative; cuts = them })
        (ap (λ them. take count cuts ++ them) one.are ∙ sym (append_assoc (take count cuts) (one.end ∷ []) one.more)))

-- ---- what comes of a call

pub if_ok : {A E : Type 0} (result : Result A E) (P Q : A → Type 0) → ((value : A) → P value → Q value) → IfOk result P
    → IfOk result Q
if_ok (Ok value) P Q then it = then value it
if_ok (Err error) P Q then it = tt

pub nothing_left : (arguments : List Arg) → true ≡ (length arguments == 0) → arguments ≡ []
nothing_left [] e = refl
nothing_left (argument ∷ arguments) e =
    let not : (length (argument ∷ arguments) == 0) ≡ false = grind (arith, nat_tests) in
    absurd (false≢true (sym not ∙ sym e))

pub some_left : (arguments : List Arg) → false ≡ (length arguments == 0) → 0 < length arguments
some_left [] e = absurd (false≢true e)
some_left (argument ∷ arguments) e = omega arith
