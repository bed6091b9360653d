-- Where each line of a block is right, its scores are the best: by induction on a height that falls from a cell to its
-- demanded children, by Bellman's principle.
use Rattle.std.proofs.Common.{◌≡◌, ℕ, zero, suc, ◌<◌, inl, ℤ, Option, Some, None, IsSome, List, [], ◌∷◌, length, refl, ap, subst, ◌∙◌, arith, Contains}
use Rattle.std.proofs.lemmas.Int.{ints}
use Rattle.adp_model.specs.declared.cell.Answer.{Answer}
use Rattle.adp_model.specs.declared.cell.Answer.TheVariants.{NoCandidate, Best}
use Rattle.adp_model.specs.declared.cell.Cell.{Cell}
use Rattle.adp_model.specs.declared.cell.Choice.{Choice}
use Rattle.adp_model.specs.declared.grammar.Arg.{Arg}
use Rattle.adp_model.specs.declared.grammar.Arg.TheVariants.{Rule}
use Rattle.adp_model.specs.declared.grammar.Goal.{Goal}
use Rattle.adp_model.specs.declared.grammar.Goal.TheVariants.{Least, Greatest}
use Rattle.adp_model.specs.PosedProblem.{PosedProblem}
use Rattle.adp_model.specs.Parts.{algebra_of}
use Rattle.adp_model.specs.Scores.{IsBetter}
use Rattle.adp_model.specs.Answers.{HasNoTree, IsAnswer}
use Rattle.adp_model.specs.Bellman.{HasBestScore, Bellman}
use Rattle.adp_model.specs.Splits.{Placed, placed}
use Rattle.adp_model.specs.Demand.{IsDemandedChild}
use Rattle.adp_model.specs.FirstSplit.{IsValue, AreArgumentValues, IsScoredSplit}
use Rattle.table_certificate.specs.CertificateLines.{LineForm}
use Rattle.table_certificate.specs.LocalCertificate.{said_of, HasLine, SaysScore, IsRightCellLine}

-- the score is that of the cell's answer
abbrev pub IsAnswerScore : PosedProblem → Cell → Option ℤ → Type 0
IsAnswerScore p cell None = HasNoTree p cell
IsAnswerScore p cell (Some score) = HasBestScore p cell score

pub first_place : (n : ℕ) → 0 < suc n
first_place n = omega arith

pub next_place : (k n : ℕ) → k < n → suc k < suc n
next_place k n h = omega arith

none_below : (n : ℕ) → n < 0 → ⊥
none_below n h = omega arith

one_above : (n : ℕ) → n < suc n
one_above n = omega arith

-- ---- values at other scores

pub AreArgumentValues-map : (p : PosedProblem) (Has Has' : Cell → ℤ → Type 0) (arguments : List Placed) (values : List ℤ)
    → ((argument : Placed) → Contains arguments argument → (value : ℤ) → IsValue p Has argument value → IsValue p Has' argument value)
    → AreArgumentValues p Has arguments values → AreArgumentValues p Has' arguments values
AreArgumentValues-map p Has Has' [] [] step h = tt
AreArgumentValues-map p Has Has' [] (value ∷ values) step h = absurd h
AreArgumentValues-map p Has Has' (argument ∷ arguments) [] step h = absurd h
AreArgumentValues-map p Has Has' (argument ∷ arguments) (value ∷ values) step h = (
  step argument (zero, first_place (length arguments), refl) value h.0,
  AreArgumentValues-map p Has Has' arguments values (λ other found. step other (suc found.0, next_place found.0 (length arguments) found.1, found.2)) h.1,
)

pub IsValue-map : (p : PosedProblem) (Has Has' : Cell → ℤ → Type 0) (argument : Arg) (from to : ℕ) (value : ℤ)
    → ((rule : ℕ) → argument ≡ Rule rule → Has (record { rule = rule; from = from; to = to }) value → Has' (record { rule = rule; from = from; to = to }) value)
    → IsValue p Has (record { argument = argument; from = from; to = to }) value
    → IsValue p Has' (record { argument = argument; from = from; to = to }) value
IsValue-map p Has Has' (Rule rule) from to value step h = step rule refl h
IsValue-map p Has Has' token from to value step h = h

-- scores of the demanded children are all that a split's own score depends on
pub IsScoredSplit-map : (p : PosedProblem) (Has Has' : Cell → ℤ → Type 0) (cell : Cell) (score : ℤ) (choice : Choice)
    → ((child : Cell) → IsDemandedChild p cell child → (value : ℤ) → Has child value → Has' child value)
    → IsScoredSplit p Has cell score choice → IsScoredSplit p Has' cell score choice
IsScoredSplit-map p Has Has' cell score choice step split = record {
  viable = split.viable;
  values = split.values;
  are_values = AreArgumentValues-map p Has Has' (placed p cell choice.alt choice.cuts) split.values
      (λ argument found value. IsValue-map p Has Has' argument.argument argument.from argument.to value
      (λ rule e. step (record { rule = rule; from = argument.from; to = argument.to })
      (choice.alt, choice.cuts, split.viable, subst (λ x. Contains (placed p cell choice.alt choice.cuts) (record { argument = x; from = argument.from; to = argument.to })) e found) value))
      split.are_values;
  scored = split.scored;
}

-- ---- the induction

pub IsBetter_apart : (goal : Goal) (a b : ℤ) → (IsBetter goal a b → ⊥) → (IsBetter goal b a → ⊥) → a ≡ b
IsBetter_apart Least a b h k = grind (arith, ints)
IsBetter_apart Greatest a b h k = grind (arith, ints)

pub answer_score : (a b : ℤ) (c d : Choice) → Best a c ≡ Best b d → a ≡ b
answer_score a b c d e = cc

pub unlike : (score : ℤ) (choice : Choice) → NoCandidate ≡ Best score choice → ⊥
unlike score choice e = cc

pub some_is : (said : Option (Option ℤ)) → IsSome said → (score : Option ℤ) × (said ≡ Some score)
some_is None h = cc
some_is (Some score) h = (score, refl)

lt_down : (a b c : ℕ) → a < b → b < suc c → a < c
lt_down a b c h k = omega arith

module _ (p : PosedProblem) (height : Cell → ℕ) (bellman : Bellman p)
    (falls : (cell child : Cell) → IsDemandedChild p cell child → height child < height cell)
    (unique : (cell : Cell) (a b : Answer) → IsAnswer p cell a → IsAnswer p cell b → a ≡ b) (lines : List LineForm)
    (right : (cell : Cell) (score : Option ℤ) → said_of lines cell ≡ Some score → (earlier : Option Cell) × IsRightCellLine p lines earlier cell score) where
  -- all lines of cells below a height say the best scores
  abbrev AreBelow : ℕ → Type 0
  AreBelow bound = (cell : Cell) (score : Option ℤ) → height cell < bound → said_of lines cell ≡ Some score → IsAnswerScore p cell score

  -- a score is that of the answer, so any answer's score is this one
  told : (cell : Cell) (said : Option ℤ) (score : ℤ) → IsAnswerScore p cell said → HasBestScore p cell score
      → said ≡ Some score
  told cell None score none best = absurd (unlike score best.0 (unique cell NoCandidate (Best score best.0) none best.1))
  told cell (Some said) score mine best = ap (λ x. Some x) (answer_score said score mine.0 best.0 (unique cell (Best said mine.0) (Best score best.0) mine.1 best.1))

  module _ (bound : ℕ) (below : AreBelow bound) (cell : Cell) (low : height cell < suc bound) where
    lower : (child : Cell) → IsDemandedChild p cell child → height child < bound
    lower child demanded = lt_down (height child) (height cell) bound (falls cell child demanded) low

    -- what a child is said to have it has
    down : (child : Cell) → IsDemandedChild p cell child → (value : ℤ) → SaysScore lines child value
        → HasBestScore p child value
    down child demanded value says = below child (Some value) (lower child demanded) says

    -- what a child has it is said to have, where it has a line
    up : ((child : Cell) → IsDemandedChild p cell child → HasLine lines child) → (child : Cell)
        → IsDemandedChild p cell child → (value : ℤ) → HasBestScore p child value → SaysScore lines child value
    up children child demanded value best =
        let found = some_is (said_of lines child) (children child demanded) in
        found.1 ∙ ap (λ x. Some x) (told child found.0 value (below child found.0 (lower child demanded) found.1) best)

    decide : (score : Option ℤ) (earlier : Option Cell) → IsRightCellLine p lines earlier cell score
        → (answer : Answer) → IsAnswer p cell answer → IsAnswerScore p cell score
    decide None earlier line NoCandidate answered = answered
    decide None earlier line (Best score choice) answered =
        let first = bellman.only cell (Best score choice) line.in_word answered in
        absurd (line.best score choice (IsScoredSplit-map p (HasBestScore p) (SaysScore lines) cell score choice (up line.children) first.1))
    decide (Some score) earlier line NoCandidate answered =
        let none = bellman.only cell NoCandidate line.in_word answered in
        absurd (none score line.best.0.0 tt (IsScoredSplit-map p (SaysScore lines) (HasBestScore p) cell score line.best.0.0 down line.best.0.1))
    decide (Some score) earlier line (Best other choice) answered =
        let first = bellman.only cell (Best other choice) line.in_word answered in
        let mine = IsScoredSplit-map p (SaysScore lines) (HasBestScore p) cell score line.best.0.0 down line.best.0.1 in
        let theirs = IsScoredSplit-map p (HasBestScore p) (SaysScore lines) cell other choice (up line.children) first.1 in
        let same : other ≡ score = IsBetter_apart (algebra_of p).goal other score (line.best.1 other choice theirs) (λ better. first.2 score line.best.0.0 tt mine (inl better)) in
        (choice, subst (λ x. IsAnswer p cell (Best x choice)) same answered)

    one_more : (score : Option ℤ) → said_of lines cell ≡ Some score → IsAnswerScore p cell score
    one_more score says =
        let line = right cell score says in
        let answer = bellman.answered cell line.1.in_word in
        decide score line.0 line.1 answer.0 answer.1

  all_below : (bound : ℕ) → AreBelow bound
  all_below zero cell score low says = absurd (none_below (height cell) low)
  all_below (suc bound) cell score low says = one_more bound (all_below bound) cell low score says

  -- each line says the score of its cell's answer
  pub right_scores : (cell : Cell) (score : Option ℤ) → said_of lines cell ≡ Some score → IsAnswerScore p cell score
  right_scores cell score says = all_below (suc (height cell)) cell score (one_above (height cell)) says
