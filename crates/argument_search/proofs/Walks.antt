-- Which argument a walk visits next: in the same split, in the next split of the alternative, or in a later
-- alternative.
use Rattle.std.proofs.Common.{◌≡◌, ℕ, ◌+◌, ◌-◌, ◌*◌, ◌%◌, ◌<◌, ◌≤◌, ◌⊎◌, inl, inr, true, Option, Some, None, List, [], ◌∷◌, ◌++◌, length, refl, sym, subst, ap, ◌∙◌, arith}
use Rattle.std.specs.Prelude.{MatchOption}
use Rattle.std.proofs.Math.Nat.{mod-eq_of_lt}
use Rattle.std.proofs.Math.Arith.{digits_mod}
use Rattle.std.proofs.lemmas.Bool.{cases_lt}
use Rattle.adp_model.specs.declared.cell.Cell.{Cell}
use Rattle.adp_model.specs.PosedProblem.{PosedProblem}
use Rattle.adp_model.specs.Parts.{alternatives_of, arguments_of}
use Rattle.adp_model.specs.Preference.{LexicographicallyLess}
use Rattle.adp_model.specs.Splits.{IsViable}
use Rattle.adp_model.specs.Walk.{ranks_of, IsVisitedBefore, IsFirstVisited, IsNextVisited}
use Rattle.memo_model.specs.declared.visit.Position.{Position}
use Rattle.memo_model.specs.declared.visit.Visit.{Visit}
use Rattle.adp_model.specs.SplitArguments.{SplitArgument, AsksFor, IsSplitArgument}
use Rattle.memo_model.specs.Visits.{turned_number, visited_at, is_before, is_behind, is_behind_position, argument_at}
use Rattle.memo_model.specs.Visits.{IsWalk}
use Rattle.argument_search.specs.Seeking.{AreAllNoted, AreNotedBehind, IsFirstLeft, IsNextLeft, IsNoneLeft, IsNoneSought}
use Rattle.argument_search.specs.Skipping.{IsReached}
use Rattle.argument_search.proofs.SeekSteps.{split_of}
use Rattle.argument_search.proofs.VisitOrder.{lex_from, less_from, lex_total}

-- ---- turned numbers

turned_before : (count first a : ℕ) → first < count → a < first → turned_number count first a ≡ a + count - first
turned_before count first a l m =
    let small : a + count - first < count = omega arith in
    mod-eq_of_lt small

turned_after : (count first a : ℕ) → first < count → first ≤ a → a < count → turned_number count first a ≡ a - first
turned_after count first a l m k =
    let parts : a + count - first ≡ 1 * count + (a - first) = omega arith in
    ap (λ n. n % count) parts ∙ digits_mod 1 (omega arith)

-- alternatives of one turned number are one
pub turned_same : (count first a b : ℕ) → first < count → a < count → b < count
    → turned_number count first a ≡ turned_number count first b → a ≡ b
turned_same count first a b l m k e =
    elim (cases_lt a first) [
      | inl x ↦ elim (cases_lt b first) [
        | inl y ↦ omega (arith, turned_before count first a l x, turned_before count first b l y)
        | inr y ↦ omega (arith, turned_before count first a l x, turned_after count first b l y k)
      ]
      | inr x ↦ elim (cases_lt b first) [
        | inl y ↦ omega (arith, turned_after count first a l x m, turned_before count first b l y)
        | inr y ↦ omega (arith, turned_after count first a l x m, turned_after count first b l y k)
      ]
    ]

-- ---- lists that end in a number

lex_front : (xs ys us vs : List ℕ) → LexicographicallyLess xs ys → LexicographicallyLess (xs ++ us) (ys ++ vs)
lex_front [] ys us vs l = absurd l
lex_front (x ∷ xs) [] us vs l = absurd l
lex_front (x ∷ xs) (y ∷ ys) us vs (inl l) = inl l
lex_front (x ∷ xs) (y ∷ ys) us vs (inr (e, l)) = inr (e, lex_front xs ys us vs l)

pub lex_end : (xs us vs : List ℕ) → LexicographicallyLess us vs → LexicographicallyLess (xs ++ us) (xs ++ vs)
lex_end [] us vs l = l
lex_end (x ∷ xs) us vs l = inr (refl, lex_end xs us vs l)

lex_split : (xs ys : List ℕ) (k n : ℕ) → length xs ≡ length ys → LexicographicallyLess (xs ++ k ∷ []) (ys ++ n ∷ [])
    → LexicographicallyLess xs ys ⊎ ((xs ≡ ys) × (k < n))
lex_split [] [] k n e (inl l) = inr (refl, l)
lex_split [] [] k n e (inr (f, l)) = absurd l
lex_split [] (y ∷ ys) k n e l = absurd (omega arith)
lex_split (x ∷ xs) [] k n e l = absurd (omega arith)
lex_split (x ∷ xs) (y ∷ ys) k n e (inl l) = inl (inl l)
lex_split (x ∷ xs) (y ∷ ys) k n e (inr (f, l)) = go (lex_split xs ys k n (omega arith) l)
  where
    go : LexicographicallyLess xs ys ⊎ ((xs ≡ ys) × (k < n)) → LexicographicallyLess (x ∷ xs) (y ∷ ys) ⊎
        ((x ∷ xs ≡ y ∷ ys) × (k < n))
    go (inl m) = inl (inr (f, m))
    go (inr (g, m)) = inr ((λ i. f i ∷ g i), m)

length_ranks : (cell : Cell) (turns cuts : List ℕ) → length turns ≡ length cuts
    → length (ranks_of cell turns cuts) ≡ length cuts
length_ranks cell [] [] e = refl
length_ranks cell [] (cut ∷ cuts) e = absurd (omega arith)
length_ranks cell (turn ∷ turns) [] e = absurd (omega arith)
length_ranks cell (turn ∷ turns) (cut ∷ cuts) e = omega (arith, length_ranks cell turns cuts (omega arith))

-- ---- a walk, where ranks tell viable cuts apart

module _ (p : PosedProblem) (Noted : Cell → Type 0) (visit : Visit) (walk : IsWalk p visit)
    (three : length visit.turns ≡ 3)
    (apart : (alternative : ℕ) (cuts others : List ℕ) → IsViable p visit.cell alternative cuts
    → IsViable p visit.cell alternative others
    → ranks_of visit.cell visit.turns cuts ≡ ranks_of visit.cell visit.turns others → cuts ≡ others) where
  abbrev count : ℕ
  count = length (alternatives_of p.grammar visit.cell.rule)

  abbrev it : ℕ → List ℕ → ℕ → SplitArgument
  it alternative cuts number = record { cell = visit.cell; alternative = alternative; cuts = cuts; number = number }

  abbrev turned : ℕ → ℕ
  turned alternative = turned_number count visit.first alternative

  abbrev ranks : List ℕ → List ℕ
  ranks cuts = ranks_of visit.cell visit.turns cuts

  same_turned : (alternative : ℕ) (cuts : List ℕ) (other : ℕ) (others : List ℕ) → IsViable p visit.cell alternative cuts
      → IsViable p visit.cell other others → turned alternative ≡ turned other → alternative ≡ other
  same_turned alternative cuts other others viable viable' e =
      turned_same count visit.first alternative other walk.first viable.in_range viable'.in_range e

  same_length : (alternative : ℕ) (cuts : List ℕ) (other : ℕ) (others : List ℕ) → IsViable p visit.cell alternative cuts
      → IsViable p visit.cell other others → length (ranks cuts) ≡ length (ranks others)
  same_length alternative cuts other others viable viable' =
      length_ranks visit.cell visit.turns cuts (three ∙ sym viable.three) ∙ viable.three ∙ sym viable'.three ∙ sym
      (length_ranks visit.cell visit.turns others (three ∙ sym viable'.three))

  -- ---- what comes before

  pub before_by_alternative : (a b : SplitArgument) → a.cell ≡ visit.cell → b.cell ≡ visit.cell
      → turned a.alternative < turned b.alternative → is_before p visit a b ≡ true
  before_by_alternative a b here here' l =
      let A : Cell → ℕ = λ c. turned_number (length (alternatives_of p.grammar c.rule)) visit.first a.alternative in
      let B : Cell → ℕ = λ c. turned_number (length (alternatives_of p.grammar c.rule)) visit.first b.alternative in
      let m : A a.cell < B b.cell =
      subst (λ c. A c < B b.cell) (sym here) (subst (λ c. A visit.cell < B c) (sym here') l) in
      less_from (visited_at p visit a) (visited_at p visit b) (inl m)

  before_by_cuts : (alternative : ℕ) (cuts others : List ℕ) (k n : ℕ)
      → IsVisitedBefore visit.cell visit.turns cuts others → is_before p visit (it alternative cuts k)
      (it alternative others n) ≡ true
  before_by_cuts alternative cuts others k n l =
      less_from (visited_at p visit (it alternative cuts k)) (visited_at p visit (it alternative others n))
      (inr (refl, lex_front (ranks cuts) (ranks others) (k ∷ []) (n ∷ []) l))

  before_by_number : (alternative : ℕ) (cuts : List ℕ) (k n : ℕ) → k < n → is_before p visit (it alternative cuts k)
      (it alternative cuts n) ≡ true
  before_by_number alternative cuts k n l =
      less_from (visited_at p visit (it alternative cuts k)) (visited_at p visit (it alternative cuts n))
      (inr (refl, lex_end (ranks cuts) (k ∷ []) (n ∷ []) (inl l)))

  -- ---- what the order tells

  -- a later alternative, later cuts of the same one, or a later argument of the same split
  abbrev Later : ℕ → List ℕ → ℕ → ℕ → List ℕ → ℕ → Type 0
  Later alternative cuts k other others n =
      (turned alternative < turned other)
      ⊎ (((alternative ≡ other) × IsVisitedBefore visit.cell visit.turns cuts others)
      ⊎ ((alternative ≡ other) × ((cuts ≡ others) × (k < n))))

  later : (alternative : ℕ) (cuts : List ℕ) (k other : ℕ) (others : List ℕ) (n : ℕ)
      → IsViable p visit.cell alternative cuts → IsViable p visit.cell other others
      → is_before p visit (it alternative cuts k) (it other others n) ≡ true → Later alternative cuts k other others n
  later alternative cuts k other others n viable viable' e =
      go (lex_from (visited_at p visit (it alternative cuts k)) (visited_at p visit (it other others n)) e)
    where
      inside : turned alternative ≡ turned other → LexicographicallyLess (ranks cuts) (ranks others) ⊎
          ((ranks cuts ≡ ranks others) × (k < n))
          → (turned alternative < turned other) ⊎
          (((alternative ≡ other) × IsVisitedBefore visit.cell visit.turns cuts others) ⊎
          ((alternative ≡ other) × ((cuts ≡ others) × (k < n))))
      inside f (inl l) = inr (inl (same_turned alternative cuts other others viable viable' f, l))
      inside f (inr (g, l)) =
          let same = same_turned alternative cuts other others viable viable' f in
          inr
          (inr (
            same,
            (apart other cuts others (subst (λ a. IsViable p visit.cell a cuts) same viable) viable' g, l),
          ))

      go : LexicographicallyLess (visited_at p visit (it alternative cuts k)) (visited_at p visit (it other others n))
          → (turned alternative < turned other) ⊎
          (((alternative ≡ other) × IsVisitedBefore visit.cell visit.turns cuts others) ⊎
          ((alternative ≡ other) × ((cuts ≡ others) × (k < n))))
      go (inl l) = inl l
      go (inr (f, l)) =
          inside f
          (lex_split (ranks cuts) (ranks others) k n (same_length alternative cuts other others viable viable') l)

  -- ---- the next argument of the same split

  module _ (at : Position) (stands : visit.at ≡ Some at) where
    behind_is : (a : SplitArgument) → is_behind p visit a ≡ is_before p visit (argument_at visit.cell at) a
    behind_is a = ap (λ o. is_behind_position p visit o a) stands

    here_viable : IsViable p visit.cell at.alternative at.cuts
    here_viable = (walk.at at stands).viable

    -- an argument behind the position, told by its parts
    parts : (a : SplitArgument) → a.cell ≡ visit.cell → a ≡ it a.alternative a.cuts a.number
    parts a here = λ i. record { cell = here i; alternative = a.alternative; cuts = a.cuts; number = a.number }

    abbrev next_number : Position
    next_number = record { alternative = at.alternative; cuts = at.cuts; number = at.number + 1 }

    pub next_in_split : at.number + 1 < length (arguments_of p.grammar visit.cell.rule at.alternative)
        → IsNextLeft p Noted visit (record { alternative = at.alternative; cuts = at.cuts; number = at.number + 1 })
    next_in_split more = record {
      is_argument = record { viable = here_viable; within = more };
      behind = behind_is (argument_at visit.cell next_number) ∙ before_by_number at.alternative at.cuts at.number
          (at.number + 1) (omega arith);
      next = λ a child here asks behind. inr (found a here (split_of p a child asks) (sym (behind_is a) ∙ behind));
    }
      where
        decide : (other : ℕ) (others : List ℕ) (n : ℕ) → IsViable p visit.cell other others
            → Later at.alternative at.cuts at.number other others n
            → (it other others n ≡ it at.alternative at.cuts (at.number + 1)) ⊎
            (is_before p visit (it at.alternative at.cuts (at.number + 1)) (it other others n) ≡ true)
        decide other others n viable (inl l) =
            inr (before_by_alternative (it at.alternative at.cuts (at.number + 1)) (it other others n) refl refl l)
        decide other others n viable (inr (inl (e, l))) =
            inr (subst (λ o. is_before p visit (it at.alternative at.cuts (at.number + 1)) (it o others n) ≡ true) e
            (before_by_cuts at.alternative at.cuts others (at.number + 1) n l))
        decide other others n viable (inr (inr (e, (f, l)))) =
            elim (cases_lt (at.number + 1) n) [
              | inl m ↦
                  inr
                  (subst (λ o. is_before p visit (it at.alternative at.cuts (at.number + 1)) (it o others n) ≡ true)
                  e
                  (subst (λ c. is_before p visit (it at.alternative at.cuts (at.number + 1))
                  (it at.alternative c n) ≡ true) f (before_by_number at.alternative at.cuts (at.number + 1) n m)))
              | inr m ↦ let same : n ≡ at.number + 1 = omega arith in inl (λ i. it (sym e i) (sym f i) (same i))
            ]

        found : (a : SplitArgument) → a.cell ≡ visit.cell → IsSplitArgument p a
            → is_before p visit (argument_at visit.cell at) a ≡ true
            →
            (a ≡ argument_at visit.cell
            (record { alternative = at.alternative; cuts = at.cuts; number = at.number + 1 })) ⊎
            (is_before p visit
            (argument_at visit.cell
            (record { alternative = at.alternative; cuts = at.cuts; number = at.number + 1 })) a ≡
            true)
        found a here is before =
            let e = parts a here in
            let viable : IsViable p visit.cell a.alternative a.cuts =
            subst (λ c. IsViable p c a.alternative a.cuts) here is.viable in
            let l = later at.alternative at.cuts at.number a.alternative a.cuts a.number here_viable viable
            (subst (λ x. is_before p visit (argument_at visit.cell at) x ≡ true) e before) in
            subst
            (λ x. (x ≡ argument_at visit.cell next_number) ⊎
            (is_before p visit (argument_at visit.cell next_number) x ≡ true)) (sym e)
            (decide a.alternative a.cuts a.number viable l)

    -- ---- the next split of the alternative

    -- it is the first argument with these cuts, or comes behind it
    abbrev Found : List ℕ → SplitArgument → Type 0
    Found cuts x = (x ≡ it at.alternative cuts 0) ⊎ (is_before p visit (it at.alternative cuts 0) x ≡ true)

    pub next_in_alternative : (cuts : List ℕ) → IsNextVisited p visit.cell at.alternative visit.turns at.cuts cuts
        → 0 < length (arguments_of p.grammar visit.cell.rule at.alternative)
        → length (arguments_of p.grammar visit.cell.rule at.alternative) ≤ at.number + 1
        → IsNextLeft p Noted visit (record { alternative = at.alternative; cuts = cuts; number = 0 })
    next_in_alternative cuts first some last = record {
      is_argument = record { viable = first.viable; within = some };
      behind =
          behind_is (it at.alternative cuts 0) ∙ before_by_cuts at.alternative at.cuts cuts at.number 0 first.behind;
      next = λ a child here asks behind. inr (found a here (split_of p a child asks) (sym (behind_is a) ∙ behind));
    }
      where
        by_number : (others : List ℕ) (n : ℕ) → cuts ≡ others → (0 < n) ⊎ (n ≤ 0)
            → Found cuts (it at.alternative others n)
        by_number others n e (inl l) =
            inr (subst (λ c. is_before p visit (it at.alternative cuts 0) (it at.alternative c n) ≡ true) e
            (before_by_number at.alternative cuts 0 n l))
        by_number others n e (inr l) = let zero_is : n ≡ 0 = omega arith in
            inl (λ i. it at.alternative (sym e i) (zero_is i))

        by_cuts : (others : List ℕ) (n : ℕ) → IsViable p visit.cell at.alternative others
            → IsVisitedBefore visit.cell visit.turns at.cuts others
            → LexicographicallyLess (ranks others) (ranks cuts) ⊎
            ((ranks others ≡ ranks cuts) ⊎ LexicographicallyLess (ranks cuts) (ranks others))
            → Found cuts (it at.alternative others n)
        by_cuts others n viable l (inl before) = absurd (first.next others viable l before)
        by_cuts others n viable l (inr (inl same)) =
            by_number others n (sym (apart at.alternative others cuts viable first.viable same)) (cases_lt 0 n)
        by_cuts others n viable l (inr (inr behind)) = inr (before_by_cuts at.alternative cuts others 0 n behind)

        decide : (other : ℕ) (others : List ℕ) (n : ℕ) → IsViable p visit.cell other others
            → n < length (arguments_of p.grammar visit.cell.rule other)
            → Later at.alternative at.cuts at.number other others n → Found cuts (it other others n)
        decide other others n viable within (inl l) =
            inr (before_by_alternative (it at.alternative cuts 0) (it other others n) refl refl l)
        decide other others n viable within (inr (inl (e, l))) =
            let viable' : IsViable p visit.cell at.alternative others = subst (λ o. IsViable p visit.cell o others)
            (sym e) viable in
            subst (λ o. Found cuts (it o others n)) e
            (by_cuts others n viable' l
            (lex_total (ranks others) (ranks cuts)
            (same_length at.alternative others at.alternative cuts viable' first.viable)))
        decide other others n viable within (inr (inr (e, (f, l)))) =
            let same : length (arguments_of p.grammar visit.cell.rule at.alternative) ≡ length
            (arguments_of p.grammar visit.cell.rule other) =
            ap (λ o. length (arguments_of p.grammar visit.cell.rule o)) e in
            absurd (omega arith)

        found : (a : SplitArgument) → a.cell ≡ visit.cell → IsSplitArgument p a
            → is_before p visit (argument_at visit.cell at) a ≡ true → Found cuts a
        found a here is before =
            let e = parts a here in
            let viable : IsViable p visit.cell a.alternative a.cuts =
            subst (λ c. IsViable p c a.alternative a.cuts) here is.viable in
            let within : a.number < length (arguments_of p.grammar visit.cell.rule a.alternative) =
            subst (λ (c : Cell). a.number < length (arguments_of p.grammar c.rule a.alternative)) here is.within in
            let l = later at.alternative at.cuts at.number a.alternative a.cuts a.number here_viable viable
            (subst (λ x. is_before p visit (argument_at visit.cell at) x ≡ true) e before) in
            subst (Found cuts) (sym e) (decide a.alternative a.cuts a.number viable within l)

    -- ---- along a line

    pub next_reached : (position : Position) → IsReached p Noted visit at position → IsNextLeft p Noted visit position
    next_reached position reached = record {
      is_argument = reached.is_argument;
      behind = behind_is (argument_at visit.cell position) ∙ reached.on;
      next = λ a child here asks behind. reached.next a child here asks (sym (behind_is a) ∙ behind);
    }

    -- ---- a later alternative

    -- behind the last argument of a split all are of later alternatives, but for those of later splits
    pub only_later : AreNotedBehind p Noted visit.cell at.alternative visit.turns at.cuts
        → length (arguments_of p.grammar visit.cell.rule at.alternative) ≤ at.number + 1
        → (a : SplitArgument) (child : Cell) → a.cell ≡ visit.cell → AsksFor p a child → is_behind p visit a ≡ true
        → Noted child ⊎ (turned at.alternative < turned a.alternative)
    only_later noted last a child here asks behind =
        let e = parts a here in
        go a.alternative a.cuts a.number (subst (λ x. AsksFor p x child) e asks)
        (split_of p (it a.alternative a.cuts a.number) child (subst (λ x. AsksFor p x child) e asks)).within
        (later at.alternative at.cuts at.number a.alternative a.cuts a.number here_viable
        (subst (λ x. AsksFor p x child) e asks).viable
        (subst (λ x. is_before p visit (argument_at visit.cell at) x ≡ true) e (sym (behind_is a) ∙ behind)))
      where
        go : (other : ℕ) (others : List ℕ) (n : ℕ) → AsksFor p (it other others n) child
            → n < length (arguments_of p.grammar visit.cell.rule other)
            → Later at.alternative at.cuts at.number other others n
            → Noted child ⊎ (turned at.alternative < turned other)
        go other others n asks within (inl l) = inr l
        go other others n asks within (inr (inl (e, l))) =
            inl (noted others n child l (subst (λ o. AsksFor p (it o others n) child) (sym e) asks))
        go other others n asks within (inr (inr (e, (f, l)))) =
            let same : length (arguments_of p.grammar visit.cell.rule at.alternative) ≡ length
            (arguments_of p.grammar visit.cell.rule other) =
            ap (λ o. length (arguments_of p.grammar visit.cell.rule o)) e in
            absurd (omega arith)

  -- ---- the first argument of an alternative, where the cells of the earlier ones are noted

  module _ (from : ℕ) (alternative : ℕ) (cuts : List ℕ)
      (first : IsFirstVisited p visit.cell alternative visit.turns cuts)
      (some : 0 < length (arguments_of p.grammar visit.cell.rule alternative))
      (within : from ≤ turned alternative)
      (noted_before : (argument : SplitArgument) (child : Cell) → argument.cell ≡ visit.cell
      → AsksFor p argument child → from ≤ turned argument.alternative
      → turned argument.alternative < turned alternative → Noted child) where
    abbrev At : SplitArgument → Type 0
    At x = (x ≡ it alternative cuts 0) ⊎ (is_before p visit (it alternative cuts 0) x ≡ true)

    at_number : (others : List ℕ) (n : ℕ) → cuts ≡ others → (0 < n) ⊎ (n ≤ 0) → At (it alternative others n)
    at_number others n e (inl l) =
        inr (subst (λ c. is_before p visit (it alternative cuts 0) (it alternative c n) ≡ true) e
        (before_by_number alternative cuts 0 n l))
    at_number others n e (inr l) = let zero_is : n ≡ 0 = omega arith in inl (λ i. it alternative (sym e i) (zero_is i))

    at_cuts : (others : List ℕ) (n : ℕ) → IsViable p visit.cell alternative others
        → LexicographicallyLess (ranks others) (ranks cuts) ⊎
        ((ranks others ≡ ranks cuts) ⊎ LexicographicallyLess (ranks cuts) (ranks others))
        → At (it alternative others n)
    at_cuts others n viable (inl before) = absurd (first.first others viable before)
    at_cuts others n viable (inr (inl same)) =
        at_number others n (sym (apart alternative others cuts viable first.viable same)) (cases_lt 0 n)
    at_cuts others n viable (inr (inr behind)) = inr (before_by_cuts alternative cuts others 0 n behind)

    at_alternative : (other : ℕ) (others : List ℕ) (n : ℕ) → IsViable p visit.cell other others → alternative ≡ other
        → At (it other others n)
    at_alternative other others n viable e =
        let viable' : IsViable p visit.cell alternative others = subst (λ o. IsViable p visit.cell o others)
        (sym e) viable in
        subst (λ o. At (it o others n)) e
        (at_cuts others n viable'
        (lex_total (ranks others) (ranks cuts)
        (same_length alternative others alternative cuts viable' first.viable)))

    pub first_from_is : IsFirstLeft p Noted visit from
        (record { alternative = alternative; cuts = cuts; number = 0 })
    first_from_is = record {
      is_argument = record { viable = first.viable; within = some };
      behind = within;
      first = λ a child here asks l. found a child here asks l;
    }
      where
        found : (a : SplitArgument) (child : Cell) → a.cell ≡ visit.cell → AsksFor p a child
            → from ≤ turned a.alternative → Noted child ⊎ At a
        found a child here asks l =
            let e : a ≡ it a.alternative a.cuts a.number =
            λ i. record { cell = here i; alternative = a.alternative; cuts = a.cuts; number = a.number } in
            let viable : IsViable p visit.cell a.alternative a.cuts =
            subst (λ c. IsViable p c a.alternative a.cuts) here asks.viable in
            elim (cases_lt (turned a.alternative) (turned alternative)) [
              | inl before ↦ inl (noted_before a child here asks l before)
              | inr after ↦ elim (cases_lt (turned alternative) (turned a.alternative)) [
                | inl behind ↦ inr (inr (before_by_alternative (it alternative cuts 0) a refl here behind))
                | inr no_behind ↦
                    let same : turned alternative ≡ turned a.alternative = omega arith in
                    inr
                    (subst At (sym e)
                    (at_alternative a.alternative a.cuts a.number viable
                    (same_turned alternative cuts a.alternative a.cuts first.viable viable same)))
              ]
            ]

  -- ---- from the position on to a later alternative

  pub next_later : (at position : Position) → visit.at ≡ Some at
      → AreNotedBehind p Noted visit.cell at.alternative visit.turns at.cuts
      → length (arguments_of p.grammar visit.cell.rule at.alternative) ≤ at.number + 1
      → IsFirstLeft p Noted visit (turned at.alternative + 1) position → IsNextLeft p Noted visit position
  next_later at position stands noted last first = record {
    is_argument = first.is_argument;
    behind = ap (λ o. is_behind_position p visit o (argument_at visit.cell position)) stands
        ∙ before_by_alternative (argument_at visit.cell at) (argument_at visit.cell position) refl refl
        (let l = first.behind in omega arith);
    next = λ a child here asks behind. elim (only_later at stands noted last a child here asks behind) [
      | inl known ↦ inl known
      | inr l ↦ first.first a child here asks (omega arith)
    ];
  }

  pub none_later : (at : Position) → visit.at ≡ Some at
      → AreNotedBehind p Noted visit.cell at.alternative visit.turns at.cuts
      → length (arguments_of p.grammar visit.cell.rule at.alternative) ≤ at.number + 1
      → IsNoneLeft p Noted visit (turned at.alternative + 1) → IsNoneSought p Noted visit
  none_later at stands noted last all_noted a child here asks behind =
      elim (only_later at stands noted last a child here asks behind) [
        | inl known ↦ known
        | inr l ↦ all_noted a child here asks (omega arith)
      ]

  -- one more alternative whose cells are noted
  pub noted_more : (from number alternative : ℕ) → turned alternative ≡ number → alternative < count
      → AreAllNoted p Noted visit.cell alternative
      → ((a : SplitArgument) (child : Cell) → a.cell ≡ visit.cell → AsksFor p a child → from ≤ turned a.alternative
      → turned a.alternative < number → Noted child)
      → (a : SplitArgument) (child : Cell) → a.cell ≡ visit.cell → AsksFor p a child → from ≤ turned a.alternative
      → turned a.alternative < number + 1 → Noted child
  noted_more from number alternative at known noted before a child here asks l m =
      elim (cases_lt (turned a.alternative) number) [
        | inl less ↦ before a child here asks l less
        | inr same ↦
            let it_is : a ≡ it a.alternative a.cuts a.number =
            λ i. record { cell = here i; alternative = a.alternative; cuts = a.cuts; number = a.number } in
            let asks' : AsksFor p (it a.alternative a.cuts a.number) child =
            subst (λ x. AsksFor p x child) it_is asks in
            let e : turned a.alternative ≡ turned alternative = omega arith in
            let f : a.alternative ≡ alternative =
            turned_same count visit.first a.alternative alternative walk.first asks'.viable.in_range known e in
            noted a.cuts a.number child (subst (λ o. AsksFor p (it o a.cuts a.number) child) f asks')
      ]

  -- what is found from a later alternative on
  pub later_from : (at : Position) → visit.at ≡ Some at
      → AreNotedBehind p Noted visit.cell at.alternative visit.turns at.cuts
      → length (arguments_of p.grammar visit.cell.rule at.alternative) ≤ at.number + 1
      → (found : Option Position) → MatchOption found (IsNoneLeft p Noted visit (turned at.alternative + 1))
      (IsFirstLeft p Noted visit (turned at.alternative + 1))
      → MatchOption found (IsNoneSought p Noted visit) (IsNextLeft p Noted visit)
  later_from at stands noted last None is = none_later at stands noted last is
  later_from at stands noted last (Some position) is = next_later at position stands noted last is
