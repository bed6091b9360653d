-- The words of an answer fit.
use Rattle.std.proofs.Common.{◌≡◌, ℕ, ◌≤◌, nat_abs, Option, List, [], ◌∷◌, length, All, ap, arith}
use Rattle.std.specs.List.{AllByRecursion}
use Rattle.std.proofs.lemmas.List.Elements.{All-cons, All-nil}
use Rattle.adp_model.specs.declared.cell.Answer.{Answer}
use Rattle.adp_model.specs.declared.cell.Answer.TheVariants.{NoCandidate, Best}
use Rattle.adp_model.specs.declared.cell.Cell.{Cell}
use Rattle.adp_model.specs.PosedProblem.{PosedProblem, IsSpan}
use Rattle.adp_model.specs.ProblemFields.{IsAdmissible, most_letters}
use Rattle.adp_model.specs.Answers.{IsAnswer}
use Rattle.adp_model.specs.Bellman.{Bellman}
use Rattle.adp_model.specs.Bounds.{IsScoreBound}
use Rattle.adp_model.specs.Cells.{IsCounted}
use Rattle.adp_model.specs.Checks.{IsChecked}
use Rattle.adp_model.specs.Derivation.{Derives}
use Rattle.adp_model.specs.Parts.{alternatives_of}
use Rattle.adp_model.specs.Scores.{score_of}
use Rattle.adp_model.specs.Splits.{IsViable}
use Rattle.adp_model.specs.Tree.{Tree}
use Rattle.memo_table.specs.AnswerWords.{HasAnswerWords}

low_cuts : (from to : ℕ) (cuts : List ℕ) → to ≤ 4000 → AllByRecursion (λ cut. (from ≤ cut) × (cut ≤ to)) cuts
    → All (λ cut. cut ≤ 4000) cuts
low_cuts from to [] low within = All-nil (λ (cut : ℕ). cut ≤ 4000)
low_cuts from to (cut ∷ cuts) low within =
    All-cons (λ (c : ℕ). c ≤ 4000) cut cuts (let h = within.0.1 in omega arith) (low_cuts from to cuts low within.1)

pub answer_fits : (p : PosedProblem) → IsAdmissible p → (cell : Cell) (answer : Answer)
    → IsCounted p.grammar (length p.word) cell → IsAnswer p cell answer → Bellman p
    → ((p : PosedProblem) (least : List ℕ) (greatest : List (Option ℕ)) (ranks : List ℕ)
    → IsChecked p.grammar p.algebra least greatest ranks → length p.word ≤ most_letters
    → (number : ℕ) → IsScoreBound p.grammar p.algebra (length p.word) number
    → (cell : Cell) (tree : Tree) → Derives p cell tree → nat_abs (score_of p tree) ≤ number)
    → ((alternative : ℕ) (cuts : List ℕ) → cell.from ≤ cell.to → IsViable p cell alternative cuts
    → AllByRecursion (λ cut. (cell.from ≤ cut) × (cut ≤ cell.to)) cuts)
    → length (alternatives_of p.grammar cell.rule) ≤ 64 → HasAnswerWords answer
answer_fits p admissible cell NoCandidate counted right bellman scores cuts few = tt
answer_fits p admissible cell (Best score choice) counted right bellman scores cuts few =
    let span : IsSpan p.word cell.from cell.to = record { in_order = counted.in_order; in_word = counted.in_word } in
    let viable = (bellman.only cell (Best score choice) span right).1.viable in
    let limits = admissible.limits in
    let bound = limits.scores in
    let score_low = scores p admissible.least admissible.greatest admissible.ranks admissible.checked limits.letters
    bound.0 bound.1 cell right.0 right.1.derived in
    let same : nat_abs score ≡ nat_abs (score_of p right.0) = ap nat_abs right.2 in
    let most = bound.2 in
    let alternative = viable.in_range in
    let letters = limits.letters in
    let in_word = counted.in_word in (
      omega arith,
      (
        omega arith,
        (
          viable.three,
          low_cuts cell.from cell.to choice.cuts (omega arith) (cuts choice.alt choice.cuts counted.in_order viable),
        ),
      ),
    )
