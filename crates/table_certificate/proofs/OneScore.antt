-- A cell has one best score, and a word one block of a certificate; each is there where the word is admitted.
use Rattle.std.proofs.Common.{◌≡◌, ℕ, ℤ, Option, Some, None, IsTrue, List, [], ◌∷◌, ◌++◌, length, Contains, refl, sym, ap, ap₂, subst, ◌∙◌, arith}
use Rattle.std.proofs.lemmas.List.Elements.{Contains-append_left, Contains-append_right}
use Rattle.adp_model.specs.declared.cell.Answer.{Answer}
use Rattle.adp_model.specs.declared.cell.Answer.TheVariants.{NoCandidate, Best}
use Rattle.adp_model.specs.declared.cell.Cell.{Cell}
use Rattle.adp_model.specs.PosedProblem.{PosedProblem, IsSpan, axiom_cell}
use Rattle.adp_model.specs.Parts.{algebra_of}
use Rattle.adp_model.specs.Tree.{Tree}
use Rattle.adp_model.specs.Derivation.{Derives}
use Rattle.adp_model.specs.Scores.{score_of, IsBetter}
use Rattle.adp_model.specs.Preference.{IsPreferred}
use Rattle.adp_model.specs.Answers.{IsAnswer}
use Rattle.adp_model.specs.Bellman.{Bellman}
use Rattle.adp_model.specs.Cells.{IsCounted}
use Rattle.adp_model.specs.Demand.{IsDemanded, AreDemanded}
use Rattle.adp_model.specs.ProblemFields.{IsAdmissible}
use Rattle.adp_model.specs.Report.{line}
use Rattle.adp_model.specs.WellFormed.{is_well_formed}
use Rattle.table_certificate.specs.BestScores.{IsBestScore}
use Rattle.table_certificate.specs.ScoreReports.{score_lines, IsScoreReport}
use Rattle.table_certificate.specs.WrittenCertificate.{cell_text, word_text, AreCellLines, IsCertificate}
use Rattle.table_certificate.proofs.RightScores.{IsBetter_apart}

-- ---- one

best_unique : (p : PosedProblem) (cell : Cell) (a b : Option ℤ) → IsBestScore p cell a → IsBestScore p cell b → a ≡ b
best_unique p cell None None h k = refl
best_unique p cell None (Some b) h k = absurd (h k.0.0 k.0.1)
best_unique p cell (Some a) None h k = absurd (k h.0.0 h.0.1)
best_unique p cell (Some a) (Some b) h k =
    ap Some (IsBetter_apart (algebra_of p).goal a b
    (λ better. k.1 h.0.0 h.0.1 (subst (λ s. IsBetter (algebra_of p).goal s b) h.0.2 better))
    (λ better. h.1 k.0.0 k.0.1 (subst (λ s. IsBetter (algebra_of p).goal s a) k.0.2 better)))

lines_unique : (p : PosedProblem) (cells : List Cell) (a b : List ℕ) → AreCellLines p cells a → AreCellLines p cells b
    → a ≡ b
lines_unique p [] a b h k = h ∙ sym k
lines_unique p (cell ∷ cells) a b (score, others, best, more, is) (score', others', best', more', is') =
    is
    ∙ ap₂ (λ s rest. line (cell_text p.grammar cell s) ++ rest) (best_unique p cell score score' best best')
    (lines_unique p cells others others' more more')
    ∙ sym is'

pub certificate_unique : ((p : PosedProblem) (a b : List Cell) → AreDemanded p a → AreDemanded p b → a ≡ b)
    → (number : ℕ) (p : PosedProblem) (a b : List ℕ) → IsCertificate number p a → IsCertificate number p b → a ≡ b
certificate_unique one number p a b (cells, lines, demanded, are, is) (cells', lines', demanded', are', is') =
    let same : cells ≡ cells' = one p cells cells' demanded demanded' in
    let rest : lines ≡ lines' =
    lines_unique p cells' lines lines' (subst (λ (cs : List Cell). AreCellLines p cs lines) same are) are' in
    is ∙ ap₂ (λ (cs : List Cell) more. line (word_text number (length cs)) ++ more) same rest ∙ sym is'

pub score_report_unique : (number : ℕ) (p : PosedProblem) (a b : List ℕ) → IsScoreReport number p a
    → IsScoreReport number p b → a ≡ b
score_report_unique number p a b (score, best, is) (score', best', is') =
    is ∙ ap (score_lines number) (best_unique p (axiom_cell p) score score' best best') ∙ sym is'

-- ---- and there

-- what best scores rest on
pub record AreLaws : Type 0 where
  pub bellman : (p : PosedProblem) → IsAdmissible p → Bellman p
  pub best : (p : PosedProblem) (cell : Cell) (t u : Tree) → IsPreferred p cell t → Derives p cell u
      → IsBetter (algebra_of p).goal (score_of p u) (score_of p t) → ⊥

module _ (laws : AreLaws) (p : PosedProblem) (admissible : IsAdmissible p) where
  score_of_answer : (cell : Cell) (answer : Answer) → IsAnswer p cell answer
      → (score : Option ℤ) × IsBestScore p cell score
  score_of_answer cell NoCandidate none = (None, none)
  score_of_answer cell (Best score choice) (tree, preferred, valued, chosen) = (
    Some score,
    (
      (tree, preferred.derived, valued),
      λ other derived better. laws.best p cell tree other preferred derived
          (subst (λ s. IsBetter (algebra_of p).goal (score_of p other) s) valued better),
    ),
  )

  score_exists : (cell : Cell) → IsSpan p.word cell.from cell.to → (score : Option ℤ) × IsBestScore p cell score
  score_exists cell span =
      let answered = (laws.bellman p admissible).answered cell span in
      score_of_answer cell answered.0 answered.1

  pub score_report_exists : (number : ℕ) → (report : List ℕ) × IsScoreReport number p report
  score_report_exists number =
      let found = score_exists (axiom_cell p) (record { in_order = omega arith; in_word = omega arith }) in
      (score_lines number found.0, (found.0, found.1, refl))

  lines_exist : (cells : List Cell)
      → ((cell : Cell) → Contains cells cell → (score : Option ℤ) × IsBestScore p cell score)
      → (text : List ℕ) × AreCellLines p cells text
  lines_exist [] each = ([], refl)
  lines_exist (cell ∷ cells) each =
      let here = each cell (Contains-append_left (cell ∷ []) cells cell (0, omega arith, refl)) in
      let rest = lines_exist cells (λ other inside. each other (Contains-append_right (cell ∷ []) cells other inside)) in
      (line (cell_text p.grammar cell here.0) ++ rest.0, (here.0, rest.0, here.1, rest.1, refl))

  pub certificate_exists : ((p : PosedProblem) → IsTrue (is_well_formed p.grammar) → (cell : Cell) → IsDemanded p cell
      → IsCounted p.grammar (length p.word) cell)
      → (cells : List Cell) → AreDemanded p cells → (number : ℕ) → (text : List ℕ) × IsCertificate number p text
  certificate_exists counted cells demanded number =
      let lines = lines_exist cells (λ cell inside.
      let there = counted p admissible.checked.well_formed cell (demanded.each cell inside) in
      score_exists cell (record { in_order = there.in_order; in_word = there.in_word })) in
      (line (word_text number (length cells)) ++ lines.0, (cells, lines.0, demanded, lines.1, refl))
