-- The first alternative that gives the greatest score, one alternative after another.
use Rattle.std.proofs.Common.{◌≡◌, ℕ, ◌+◌, ◌<◌, ◌≤◌, ◌⊎◌, ℤ, ◌≤ℤ◌, ◌<ℤ◌, Option, Some, None, length, sym, ap, subst, ◌∙◌, inl, inr, arith}
use Rattle.std.proofs.lemmas.Bool.{cases_lt}
use Rattle.std.proofs.lemmas.Int.{ints}
use Rattle.adp_model.specs.declared.cell.Answer.{Answer}
use Rattle.adp_model.specs.declared.cell.Answer.TheVariants.{NoCandidate, Best}
use Rattle.adp_model.specs.declared.cell.Cell.{Cell}
use Rattle.adp_model.specs.PosedProblem.{PosedProblem, IsSpan}
use Rattle.adp_model.specs.Parts.{algebra_of, alternatives_of, arguments_of}
use Rattle.adp_model.specs.Answers.{IsAnswer}
use Rattle.adp_model.specs.Bellman.{HasBestScore, Bellman}
use Rattle.score_numbers.specs.Greatest.{IsGreatestOf}
use Rattle.score_numbers.specs.Turned.{turned}
use Rattle.cell_answers.specs.declared.filling.Best as declared
use Rattle.cell_answers.specs.CellBest.{IsBestOfFirst, IsCellBest, GiveNone, IsFirstGiving}
use Rattle.cell_answers.specs.Totals.{HasTurnedScore}
use Rattle.cell_answers.proofs.BestSplits.{not_greater}
use Rattle.cell_answers.proofs.Scoring.{turned_twice, better_or_same, not_better, scored_in, turned_in}

module _ (p : PosedProblem) (cell : Cell) (count : ℕ) where
  last_or_before : (P : ℕ → Type 0) (other : ℕ) → other < count + 1 → (other < count) ⊎ (count ≡ other)
  last_or_before P other l = elim (cases_lt other count) [ inl before ↦ inl before | inr behind ↦ inr (omega arith) ]

  at_count : (other : ℕ) (number : ℤ) → count ≡ other → HasTurnedScore p cell other number → HasTurnedScore p cell count number
  at_count other number same has = subst (λ n. HasTurnedScore p cell n number) (sym same) has

  pub none_more : GiveNone p cell count → IsGreatestOf (HasTurnedScore p cell count) None → GiveNone p cell (count + 1)
  none_more none here other number l has =
      elim (last_or_before (λ n. Unit {0}) other l) [ inl before ↦ none other number before has | inr same ↦ here number (at_count other number same has) ]

  pub first_one : (score : ℤ) → GiveNone p cell count → IsGreatestOf (HasTurnedScore p cell count) (Some score) → IsFirstGiving p cell (count + 1) score count
  first_one score none here = record {
    before = omega arith;
    gives = here.0;
    greatest = λ other number l has. elim (last_or_before (λ n. Unit {0}) other l) [
      | inl before ↦ absurd (none other number before has)
      | inr same ↦ here.1 number
          (at_count other number same has)
    ];
    first = λ other l has. none other score l has;
  }

  module _ (best : ℤ) (alternative : ℕ) (is : IsFirstGiving p cell count best alternative) where
    pub kept_without : IsGreatestOf (HasTurnedScore p cell count) None → IsFirstGiving p cell (count + 1) best alternative
    kept_without none = record {
      before = omega (arith, is.before);
      gives = is.gives;
      greatest = λ other number l has. elim (last_or_before (λ n. Unit {0}) other l) [
        | inl before ↦ is.greatest other number before has
        | inr
            same ↦ absurd (none number (at_count other number same has))
      ];
      first = is.first;
    }

    pub kept : (score : ℤ) → IsGreatestOf (HasTurnedScore p cell count) (Some score) → score ≤ℤ best → IsFirstGiving p cell (count + 1) best alternative
    kept score here low = record {
      before = omega (arith, is.before);
      gives = is.gives;
      greatest = λ other number l has. elim (last_or_before (λ n. Unit {0}) other l) [
        | inl before ↦ is.greatest other number before has
        | inr same ↦ let m = here.1 number (at_count other number same has) in omega (arith, ints)
      ];
      first = is.first;
    }

    pub taken : (score : ℤ) → IsGreatestOf (HasTurnedScore p cell count) (Some score) → best <ℤ score → IsFirstGiving p cell (count + 1) score count
    taken score here more = record {
      before = omega arith;
      gives = here.0;
      greatest = λ other number l has. elim (last_or_before (λ n. Unit {0}) other l) [
        | inl before ↦ let m = is.greatest other number before has in omega (arith, ints)
        | inr same ↦ here.1 number (at_count other number same has)
      ];
      first = λ other l has. absurd (let m = is.greatest other score l has in omega (arith, ints));
    }

-- alternatives that give nothing may be passed over
pub passed_over : (p : PosedProblem) (cell : Cell) (count next : ℕ) (best : Option declared.Best) → count ≤ next
    → ((other : ℕ) → count ≤ other → other < next → IsGreatestOf (HasTurnedScore p cell other) None)
    → IsBestOfFirst p cell count best → IsBestOfFirst p cell next best
passed_over p cell count next None ahead none given = λ other number l has.
    elim (cases_lt other count) [ inl early ↦ given other number early has | inr late ↦ none other late l number has ]
passed_over p cell count next (Some best) ahead none given = record {
  before = omega (arith, given.before);
  gives = given.gives;
  greatest = λ other number l has. elim (cases_lt other count)
      [ inl early ↦ given.greatest other number early has | inr late ↦ absurd (none other late l number has) ];
  first = given.first;
}

-- nothing more changes nothing
pub best_kept : (p : PosedProblem) (cell : Cell) (count : ℕ) (best : Option declared.Best)
    → IsBestOfFirst p cell count best → IsGreatestOf (HasTurnedScore p cell count) None
    → IsBestOfFirst p cell (count + 1) best
best_kept p cell count None none here = none_more p cell count none here
best_kept p cell count (Some best) is none = kept_without p cell count best.score best.alt is none

-- ---- of all alternatives

module _ (p : PosedProblem) (bellman : Bellman p) (cell : Cell) (span : IsSpan p.word cell.from cell.to)
    (some : (alternative : ℕ) → alternative < length (alternatives_of p.grammar cell.rule) → 1 ≤ length (arguments_of p.grammar cell.rule alternative))
    (few : (alternative : ℕ) → length (arguments_of p.grammar cell.rule alternative) ≤ 4) where
  none_at : (answer : Answer) → IsAnswer p cell answer → GiveNone p cell (length (alternatives_of p.grammar cell.rule)) → IsAnswer p cell NoCandidate
  none_at NoCandidate is none = is
  none_at (Best score choice) is none =
      let split = (bellman.only cell (Best score choice) span is).1 in
      absurd (none choice.alt (turned (algebra_of p).goal score) split.viable.in_range (scored_in p bellman cell span some few score choice split))

  pub none_given : GiveNone p cell (length (alternatives_of p.grammar cell.rule)) → IsAnswer p cell NoCandidate
  none_given none = let answer = bellman.answered cell span in none_at answer.0 answer.1 none

  module _ (score : ℤ) (alternative : ℕ) (is : IsFirstGiving p cell (length (alternatives_of p.grammar cell.rule)) score alternative) where
    best_at : (answer : Answer) → IsAnswer p cell answer → IsCellBest p cell (turned (algebra_of p).goal score) alternative
    best_at NoCandidate none =
        let split = turned_in p bellman cell span some few score alternative is.before is.gives in
        absurd (bellman.only cell NoCandidate span none (turned (algebra_of p).goal score) (record { alt = alternative; cuts = split.0 }) tt split.1)
    best_at (Best best choice) answer =
        let goal = (algebra_of p).goal in
        let first = bellman.only cell (Best best choice) span answer in
        let split = turned_in p bellman cell span some few score alternative is.before is.gives in
        let has = scored_in p bellman cell span some few best choice first.1 in
        let low = is.greatest choice.alt (turned goal best) first.1.viable.in_range has in
        let l : turned goal best ≤ℤ turned goal (turned goal score) = subst (λ it. turned goal best ≤ℤ it) (sym (turned_twice goal score)) low in
        let same : best ≡ turned goal score = better_or_same goal best (turned goal score)
        (not_better goal best (turned goal score) l)
        (λ better. first.2 (turned goal score) (record { alt = alternative; cuts = split.0 }) tt split.1
        (inl better)) in
        let number : turned goal best ≡ score = ap (turned goal) same ∙ turned_twice goal score in
        let alt_is : choice.alt ≡ alternative = elim (cases_lt choice.alt alternative) [
          | inl earlier ↦ absurd (is.first choice.alt earlier (subst (HasTurnedScore p cell choice.alt) number has))
          | inr later ↦ elim (cases_lt alternative choice.alt) [
            | inl before ↦ absurd (first.2 (turned goal score) (record { alt = alternative; cuts = split.0 }) tt split.1 (inr (sym same, inl before)))
            | inr behind ↦ omega arith
          ]
        ] in
        let A : ℤ → ℕ → Type 0 = λ it alt. IsAnswer p cell (Best it (record { alt = alt; cuts = choice.cuts })) in
        (choice.cuts, subst (λ it. A it alternative) same (subst (λ alt. A best alt) alt_is answer))

    pub best_given : IsCellBest p cell (turned (algebra_of p).goal score) alternative
    best_given = let answer = bellman.answered cell span in best_at answer.0 answer.1

-- ---- where the best score is known

module _ (p : PosedProblem) (bellman : Bellman p) (cell : Cell) (span : IsSpan p.word cell.from cell.to)
    (some : (alternative : ℕ) → alternative < length (alternatives_of p.grammar cell.rule) → 1 ≤ length (arguments_of p.grammar cell.rule alternative))
    (few : (alternative : ℕ) → length (arguments_of p.grammar cell.rule alternative) ≤ 4) (best : ℤ) (has_best : HasBestScore p cell best) where
  abbrev sought : ℤ
  sought = turned (algebra_of p).goal best

  -- no alternative gives more than it
  not_more : (alternative : ℕ) (number : ℤ) → alternative < length (alternatives_of p.grammar cell.rule)
      → HasTurnedScore p cell alternative number → number ≤ℤ sought
  not_more alternative number in_range has =
      let split = turned_in p bellman cell span some few number alternative in_range has in
      let first = bellman.only cell (Best best has_best.0) span has_best.1 in
      not_greater p bellman cell span some few has_best.0.alt first.1.viable.in_range best (has_best.0.cuts, has_best.1) number
      (λ better. first.2 (turned (algebra_of p).goal number) (record { alt = alternative; cuts = split.0 }) tt split.1 (inl better))

  -- an alternative whose greatest is another score doesn't give it
  pub gives_other : (alternative : ℕ) (greatest : Option ℤ) → alternative < length (alternatives_of p.grammar cell.rule)
      → IsGreatestOf (HasTurnedScore p cell alternative) greatest → (greatest ≡ Some sought → ⊥) → HasTurnedScore p cell alternative sought → ⊥
  gives_other alternative None in_range none differs has = none sought has
  gives_other alternative (Some greatest) in_range it differs has =
      let most = not_more alternative greatest in_range it.0 in
      let least = it.1 sought has in
      let same : greatest ≡ sought = omega (arith, ints) in
      differs (ap Some same)

  abbrev NoneBefore : ℕ → Type 0
  NoneBefore count = (other : ℕ) → other < count → HasTurnedScore p cell other sought → ⊥

  pub none_further : (count : ℕ) → NoneBefore count → (HasTurnedScore p cell count sought → ⊥) → NoneBefore (count + 1)
  none_further count none here other l has = elim (last_or_before p cell count (λ n. Unit {0}) other l) [
    | inl before ↦ none other before has
    | inr same ↦ here (at_count p cell count other sought same has)
  ]

  -- an alternative that gives it, or is the last one, is the first that gives it, where none before it does
  pub first_is : (count : ℕ) → count < length (alternatives_of p.grammar cell.rule) → NoneBefore count
      → HasTurnedScore p cell count sought ⊎ (length (alternatives_of p.grammar cell.rule) ≡ count + 1) → IsCellBest p cell best count
  first_is count in_range none last =
      let choice = has_best.0 in
      let first = bellman.only cell (Best best choice) span has_best.1 in
      let has = scored_in p bellman cell span some few best choice first.1 in
      let goal = (algebra_of p).goal in
      let alt_is : choice.alt ≡ count = elim (cases_lt choice.alt count) [
        | inl earlier ↦ absurd (none choice.alt earlier has)
        | inr later ↦ elim last [
          | inl gives ↦ elim (cases_lt count choice.alt) [
            | inl before ↦
                let split = turned_in p bellman cell span some few sought count in_range gives in
                absurd (first.2 (turned goal sought) (record { alt = count; cuts = split.0 }) tt split.1 (inr (turned_twice goal best, inl before)))
            | inr behind ↦ omega arith
          ]
          | inr is ↦ let l = first.1.viable.in_range in omega arith
        ]
      ] in
      (choice.cuts, subst (λ alt. IsAnswer p cell (Best best (record { alt = alt; cuts = choice.cuts }))) alt_is has_best.1)
