-- The lines of the demanded cells, each with its best score, are right.
use Rattle.std.proofs.Common.{◌≡◌, ℕ, zero, suc, ◌<◌, ◌≤◌, inl, Bool, true, false, ◌==◌, ◌&&◌, cond, ℤ, Option, Some, None, IsSome, List, [], ◌∷◌, length, map, nat_abs, refl, ap, subst, ◌∙◌, arith, Contains}
use Rattle.std.proofs.lemmas.Bool.Decides.{nat_tests}
use Rattle.adp_model.specs.declared.cell.Answer.{Answer}
use Rattle.adp_model.specs.declared.cell.Answer.TheVariants.{NoCandidate, Best}
use Rattle.adp_model.specs.declared.cell.Cell.{Cell}
use Rattle.adp_model.specs.declared.cell.Choice.{Choice}
use Rattle.adp_model.specs.PosedProblem.{PosedProblem, IsSpan}
use Rattle.adp_model.specs.Parts.{algebra_of, term_of}
use Rattle.adp_model.specs.Terms.{magnitude}
use Rattle.adp_model.specs.Tree.{Tree}
use Rattle.adp_model.specs.Derivation.{Derives}
use Rattle.adp_model.specs.Scores.{score_of, IsBetter}
use Rattle.adp_model.specs.Preference.{IsPreferred}
use Rattle.adp_model.specs.Answers.{IsAnswer}
use Rattle.adp_model.specs.Bellman.{HasBestScore, Bellman}
use Rattle.adp_model.specs.Splits.{placed, IsViable}
use Rattle.adp_model.specs.Demand.{IsDemandedChild}
use Rattle.adp_model.specs.FirstSplit.{AreArgumentValues}
use Rattle.adp_model.specs.ProblemFields.{greatest_score}
use Rattle.table_certificate.specs.CertificateLines.{LineForm}
use Rattle.table_certificate.specs.LocalCertificate.{same_cell, said_of, HasLine, SaysScore, IsBestSaid, AreLowSplits}
use Rattle.table_certificate.specs.BestScores.{IsBestScore}
use Rattle.table_certificate.specs.WrittenCertificate.{cell_forms, AreBest}
use Rattle.table_certificate.proofs.BlockForms.{same_cell-is}
use Rattle.table_certificate.proofs.RightScores.{IsAnswerScore, AreArgumentValues-map, IsValue-map, IsScoredSplit-map, IsBetter_apart, answer_score, unlike, some_is}

-- ---- the lines

some_injective : {X : Type 0} (a b : X) → Some a ≡ Some b → a ≡ b
some_injective a b e = cc

none_some : {X : Type 0} (a : X) → None ≡ Some a → ⊥
none_some a e = cc

none_below : (n : ℕ) → n < 0 → ⊥
none_below n h = omega arith

lower : (k n : ℕ) → suc k < suc n → k < n
lower k n h = omega arith

not_both : (b : Bool) → b ≡ true → b ≡ false → ⊥
not_both b e h = cc

same_numbers : (a b c : ℕ) → (a == a) && (b == b) && (c == c) ≡ true
same_numbers a b c = grind (arith, nat_tests)

itself : (cell : Cell) → same_cell cell cell ≡ true
itself cell = same_numbers cell.rule cell.from cell.to

apart : (first cell : Cell) → same_cell first cell ≡ false → first ≡ cell → ⊥
apart first cell e h = not_both (same_cell cell cell) (itself cell) (subst (λ x. same_cell x cell ≡ false) h e)

-- what the lines say of a cell is its best score
pub said_best : (p : PosedProblem) (cells : List Cell) (scores : List (Option ℤ)) → AreBest p cells scores
    → (cell : Cell) (score : Option ℤ) → said_of (cell_forms cells scores) cell ≡ Some score
    → IsBestScore p cell score
said_best p [] scores best cell score e = absurd (none_some score e)
said_best p (first ∷ cells) [] best cell score e = absurd best
said_best p (first ∷ cells) (said ∷ scores) best cell score e = by (same_cell first cell) refl e (said_best p cells scores best.1 cell score)
  where
    by : (same : Bool) → same_cell first cell ≡ same
        → cond same (Some said) (said_of (cell_forms cells scores) cell) ≡ Some score
        → (said_of (cell_forms cells scores) cell ≡ Some score → IsBestScore p cell score) → IsBestScore p cell score
    by true same here later =
        let scores_are : said ≡ score = some_injective said score here in
        subst (λ x. IsBestScore p x score) (same_cell-is first cell same) (subst (λ x. IsBestScore p first x) scores_are best.0)
    by false same there later = later there

pub length-cell_forms : (p : PosedProblem) (cells : List Cell) (scores : List (Option ℤ)) → AreBest p cells scores
    → length (cell_forms cells scores) ≡ length cells
length-cell_forms p [] scores best = refl
length-cell_forms p (cell ∷ cells) [] best = absurd best
length-cell_forms p (cell ∷ cells) (score ∷ scores) best = ap suc (length-cell_forms p cells scores best.1)

-- each of the cells has a line
pub listed_lines : (p : PosedProblem) (cells : List Cell) (scores : List (Option ℤ)) → AreBest p cells scores
    → (cell : Cell) → Contains cells cell → HasLine (cell_forms cells scores) cell
listed_lines p [] scores best cell found = absurd (none_below found.0 found.1)
listed_lines p (first ∷ cells) [] best cell found = absurd best
listed_lines p (first ∷ cells) (said ∷ scores) best cell found = by (same_cell first cell) refl found (listed_lines p cells scores best.1 cell)
  where
    by : (same : Bool) → same_cell first cell ≡ same → Contains (first ∷ cells) cell
        → (Contains cells cell → HasLine (cell_forms cells scores) cell)
        → IsSome (cond same (Some said) (said_of (cell_forms cells scores) cell))
    by true same place later = refl
    by false same (zero, low, is) later = absurd (apart first cell same is)
    by false same (suc k, low, is) later = later (k, lower k (length cells) low, is)

-- ---- a best score is that of the answer

module _ (p : PosedProblem) (bellman : Bellman p)
    (unique : (cell : Cell) (a b : Answer) → IsAnswer p cell a → IsAnswer p cell b → a ≡ b)
    (preferred_best : (cell : Cell) (t u : Tree) → IsPreferred p cell t → Derives p cell u → IsBetter (algebra_of p).goal (score_of p u) (score_of p t) → ⊥) where
  answer_of_best : (cell : Cell) (score : Option ℤ) → IsBestScore p cell score → (answer : Answer)
      → IsAnswer p cell answer → IsAnswerScore p cell score
  answer_of_best cell None none answer answered = none
  answer_of_best cell (Some score) best NoCandidate none = absurd (none best.0.0 best.0.1)
  answer_of_best cell (Some score) best (Best other choice) answered =
      let tree : Tree = answered.0 in
      let mine : score ≡ score_of p best.0.0 = best.0.2 in
      let no_better = preferred_best cell tree best.0.0 answered.1 best.0.1 in
      let worse : IsBetter (algebra_of p).goal other score → ⊥ = λ better. best.1 tree answered.1.derived (subst (λ x. IsBetter (algebra_of p).goal x score) answered.2 better) in
      let better : IsBetter (algebra_of p).goal score other → ⊥ = λ h. no_better (subst (λ x. IsBetter (algebra_of p).goal x (score_of p tree)) mine (subst (λ x. IsBetter
      (algebra_of p).goal score x) answered.2 h)) in
      let same : other ≡ score = IsBetter_apart (algebra_of p).goal other score worse better in
      (choice, subst (λ x. IsAnswer p cell (Best x choice)) same answered)

  pub answered_best : (cell : Cell) (score : Option ℤ) → IsSpan p.word cell.from cell.to → IsBestScore p cell score
      → IsAnswerScore p cell score
  answered_best cell score span best =
      let answer = bellman.answered cell span in
      answer_of_best cell score best answer.0 answer.1

  -- a score is that of the answer, so any answer's score is this one
  told : (cell : Cell) (said : Option ℤ) (score : ℤ) → IsAnswerScore p cell said → HasBestScore p cell score
      → said ≡ Some score
  told cell None score none best = absurd (unlike score best.0 (unique cell NoCandidate (Best score best.0) none best.1))
  told cell (Some said) score mine best = ap (λ x. Some x) (answer_score said score mine.0 best.0 (unique cell (Best said mine.0) (Best score best.0) mine.1 best.1))

  -- ---- what lines say that say best scores of the cell's demanded children

  module _ (lines : List LineForm) (cell : Cell) (span : IsSpan p.word cell.from cell.to)
      (spans : (child : Cell) → IsDemandedChild p cell child → IsSpan p.word child.from child.to)
      (saids : (child : Cell) → IsDemandedChild p cell child → (score : Option ℤ) → said_of lines child ≡ Some score → IsBestScore p child score)
      (children : (child : Cell) → IsDemandedChild p cell child → HasLine lines child) where
    down : (child : Cell) → IsDemandedChild p cell child → (value : ℤ) → SaysScore lines child value
        → HasBestScore p child value
    down child demanded value says = answered_best child (Some value) (spans child demanded) (saids child demanded (Some value) says)

    up : (child : Cell) → IsDemandedChild p cell child → (value : ℤ) → HasBestScore p child value
        → SaysScore lines child value
    up child demanded value best =
        let found = some_is (said_of lines child) (children child demanded) in
        found.1 ∙ ap (λ x. Some x) (told child found.0 value (answered_best child found.0 (spans child demanded) (saids child demanded found.0 found.1)) best)

    pub best_said : (score : Option ℤ) → IsBestScore p cell score → IsBestSaid p lines cell score
    best_said None none = λ score choice split.
        bellman.only cell NoCandidate span none score choice tt (IsScoredSplit-map p (SaysScore lines) (HasBestScore p) cell score choice down split)
    best_said (Some score) best =
        let answer = answered_best cell (Some score) span best in
        let first = bellman.only cell (Best score answer.0) span answer.1 in (
          (answer.0, IsScoredSplit-map p (HasBestScore p) (SaysScore lines) cell score answer.0 up first.1),
          λ other choice split better. first.2 other choice tt (IsScoredSplit-map p (SaysScore lines) (HasBestScore p) cell other choice down split) (inl better),
        )

    pub low_said : ((choice : Choice) (values : List ℤ) → IsViable p cell choice.alt choice.cuts → AreArgumentValues p (HasBestScore p) (placed p cell choice.alt choice.cuts) values → magnitude
        (term_of p cell.rule choice.alt) (map nat_abs values) ≤ greatest_score)
        → AreLowSplits p lines cell
    low_said low choice values viable are =
        low choice values viable (AreArgumentValues-map p (SaysScore lines) (HasBestScore p) (placed p cell choice.alt choice.cuts) values
        (λ argument found value. IsValue-map p (SaysScore lines) (HasBestScore p) argument.argument argument.from argument.to value
        (λ rule e. down (record { rule = rule; from = argument.from; to = argument.to })
        (choice.alt, choice.cuts, viable, subst (λ x. Contains (placed p cell choice.alt choice.cuts) (record { argument = x; from = argument.from; to = argument.to })) e found) value)) are)
