-- The splits of a cell by the first alternative that gives its best score: which cuts are those of the cell's answer.
use Rattle.std.proofs.Common.{ℕ, ◌-◌, ◌<◌, ◌≤◌, ◌⊎◌, ℤ, ◌≤ℤ◌, ◌<ℤ◌, Some, List, length, subst, inl, inr, arith}
use Rattle.std.proofs.lemmas.Int.{ints}
use Rattle.adp_model.specs.declared.grammar.Goal.{Goal}
use Rattle.adp_model.specs.declared.grammar.Goal.TheVariants.{Least, Greatest}
use Rattle.adp_model.specs.declared.cell.Answer.TheVariants.{Best}
use Rattle.adp_model.specs.declared.cell.Cell.{Cell}
use Rattle.adp_model.specs.declared.cell.Choice.{Choice}
use Rattle.adp_model.specs.PosedProblem.{PosedProblem, IsSpan}
use Rattle.adp_model.specs.Lengths.{AllowsLength}
use Rattle.adp_model.specs.Parts.{algebra_of, alternative_at, alternatives_of, arguments_of}
use Rattle.adp_model.specs.Preference.{LexicographicallyLess}
use Rattle.adp_model.specs.Scores.{IsBetter}
use Rattle.adp_model.specs.FirstSplit.{IsScoredSplit, SplitPrecedes}
use Rattle.adp_model.specs.Answers.{IsAnswer}
use Rattle.adp_model.specs.Bellman.{HasBestScore, Bellman}
use Rattle.score_numbers.specs.Greatest.{IsGreatestOf}
use Rattle.score_numbers.specs.Turned.{turned}
use Rattle.cell_answers.specs.CellBest.{IsCellBest}
use Rattle.cell_answers.specs.Totals.{HasLaidScore, HasTurnedScore}
use Rattle.cell_answers.proofs.Scoring.{scored_in, turned_in}

module _ (p : PosedProblem) (bellman : Bellman p) (cell : Cell) (span : IsSpan p.word cell.from cell.to)
    (some : (alternative : ℕ) → alternative < length (alternatives_of p.grammar cell.rule) → 1 ≤ length (arguments_of p.grammar cell.rule alternative))
    (few : (alternative : ℕ) → length (arguments_of p.grammar cell.rule alternative) ≤ 4)
    (alternative : ℕ) (in_range : alternative < length (alternatives_of p.grammar cell.rule))
    (best : ℤ) (given : IsCellBest p cell best alternative) where
  abbrev goal : Goal
  goal = (algebra_of p).goal

  abbrev Scored : ℤ → List ℕ → Type 0
  Scored score cuts = IsScoredSplit p (HasBestScore p) cell score (record { alt = alternative; cuts = cuts })

  pub first_split : Scored best given.0
      × ((score : ℤ) (other : Choice) → IsScoredSplit p (HasBestScore p) cell score other
      → SplitPrecedes goal score other best (record { alt = alternative; cuts = given.0 }) → ⊥)
  first_split =
      let it = bellman.only cell (Best best (record { alt = alternative; cuts = given.0 })) span given.1 in
      (it.1, λ score other scored precedes. it.2 score other tt scored precedes)

  pub not_greater : (number : ℤ) → (IsBetter goal (turned goal number) best → ⊥) → number ≤ℤ turned goal best
  not_greater number none = by goal number best none
    where
      order : (x y : ℤ) → (x <ℤ y) ⊎ (y ≤ℤ x)
      order x y = grind (arith, ints)

      by : (goal : Goal) (number best : ℤ) → (IsBetter goal (turned goal number) best → ⊥) → number ≤ℤ turned goal best
      by Least number best none = elim (order (turned Least number) best) [ inl l ↦ absurd (none l) | inr m ↦ omega (arith, ints) ]
      by Greatest number best none = elim (order best number) [ inl l ↦ absurd (none l) | inr m ↦ m ]

  pub best_gives : HasTurnedScore p cell alternative (turned goal best)
  best_gives = scored_in p bellman cell span some few best (record { alt = alternative; cuts = given.0 }) first_split.0

  -- the alternative allows the cell's length
  pub best_allowed : AllowsLength (alternative_at p.grammar cell.rule alternative) (cell.to - cell.from)
  best_allowed = first_split.0.viable.allowed

  -- the best score, turned, is the greatest of the alternative's
  pub score_greatest : IsGreatestOf (HasLaidScore p cell alternative) (Some (turned goal best))
  score_greatest = (
    best_gives.1,
    λ number has.
        let split = turned_in p bellman cell span some few number alternative in_range (best_allowed, has) in
        not_greater number (λ better. first_split.1 (turned goal number) (record { alt = alternative; cuts = split.0 }) split.1 (inl better)),
  )

  -- cuts with the best score, before which no others have it, are those of the answer
  pub answer_by_cuts : (cuts : List ℕ) → Scored best cuts → ((others : List ℕ) → Scored best others → LexicographicallyLess others cuts → ⊥)
      → IsAnswer p cell (Best best (record { alt = alternative; cuts = cuts }))
  answer_by_cuts cuts scored first =
      bellman.first cell (Best best (record { alt = alternative; cuts = cuts })) span
      (tt, scored, λ score other counts has precedes. none score other has precedes)
    where
      none : (score : ℤ) (other : Choice) → IsScoredSplit p (HasBestScore p) cell score other
          → SplitPrecedes goal score other best (record { alt = alternative; cuts = cuts }) → ⊥
      none score other has (inl better) = first_split.1 score other has (inl better)
      none score other has (inr (same, inl earlier)) = first_split.1 score other has (inr (same, inl earlier))
      none score other has (inr (same, inr (alt_is, less))) =
          let S : ℤ → ℕ → Type 0 = λ score alt. IsScoredSplit p (HasBestScore p) cell score (record { alt = alt; cuts = other.cuts }) in
          let here : S best alternative = subst (λ alt. S best alt) alt_is (subst (λ score. S score other.alt) same has) in
          first other.cuts here less
