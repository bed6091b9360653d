-- Written blocks, read: what is written as a certificate has the forms of one.
use Rattle.std.proofs.Common.{◌≡◌, ℕ, suc, ◌+◌, ◌^◌, ◌<◌, ◌≤◌, ◌++◌, ℤ, nat_abs, IsTrue, Option, Some, None, All, List, [], ◌∷◌, length, refl, sym, ap, subst, ◌∙◌, arith, append_assoc, le_trans, Contains}
use Rattle.std.proofs.lemmas.List.Elements.{All-head, All-tail, Contains-append_right}
use Rattle.adp_model.specs.declared.cell.Cell.{Cell}
use Rattle.adp_model.specs.declared.grammar.Grammar.{Grammar}
use Rattle.adp_model.specs.PosedProblem.{PosedProblem}
use Rattle.adp_model.specs.Parts.{rule_at}
use Rattle.adp_model.specs.Tree.{Tree}
use Rattle.adp_model.specs.Derivation.{Derives}
use Rattle.adp_model.specs.Report.{line}
use Rattle.adp_model.specs.Scores.{score_of}
use Rattle.adp_model.specs.Bounds.{IsScoreBound}
use Rattle.adp_model.specs.Cells.{IsCellBound, IsCounted}
use Rattle.adp_model.specs.Checks.{IsChecked}
use Rattle.adp_model.specs.Demand.{AreDemanded, IsDemanded, IsDemandedCount}
use Rattle.adp_model.specs.ProblemFields.{IsAdmissible, greatest_score, most_letters}
use Rattle.adp_model.specs.WellFormed.{is_name, is_well_formed}
use Rattle.table_certificate.specs.BestScores.{IsBestScore}
use Rattle.table_certificate.specs.CertificateLines.{LineForm, CertLine, WordLine, CellLine, forms_of}
use Rattle.table_certificate.specs.WrittenCertificate.{AreBest, AreBlockForms, AreCellLines, AreCertificates, IsWritten, block_forms, cell_forms, cell_text, word_text}
use Rattle.table_certificate.proofs.ReadLines.{IsSmallCell, cell_form, cert_form, word_form}
use Rattle.table_certificate.proofs.WrittenNumbers.{IsLowScore}

-- the laws that this rests on
pub record AreLaws : Type 0 where
  pub counted : (p : PosedProblem) → IsTrue (is_well_formed p.grammar) → (cell : Cell) → IsDemanded p cell
      → IsCounted p.grammar (length p.word) cell
  pub few : (p : PosedProblem) (count bound : ℕ) → IsTrue (is_well_formed p.grammar) → IsDemandedCount p count
      → IsCellBound p.grammar (length p.word) bound → count ≤ bound
  pub bounded : (p : PosedProblem) (least : List ℕ) (greatest : List (Option ℕ)) (ranks : List ℕ)
      → IsChecked p.grammar p.algebra least greatest ranks → length p.word ≤ most_letters → (number : ℕ)
      → IsScoreBound p.grammar p.algebra (length p.word) number → (cell : Cell) (tree : Tree) → Derives p cell tree
      → nat_abs (score_of p tree) ≤ number
  pub names : (grammar : Grammar) → IsTrue (is_well_formed grammar) → (rule : ℕ) → rule < length grammar.rules
      → IsTrue (is_name (rule_at grammar rule).name)

-- the forms of lines of cells, with their best scores
pub record AreReadLines (p : PosedProblem) (cells : List Cell) (text : List ℕ) : Type 0 where
  pub scores : List (Option ℤ)
  pub best : AreBest p cells scores
  pub forms : (behind : List ℕ) → forms_of p.grammar (text ++ behind) ≡ cell_forms cells scores ++ forms_of p.grammar behind

module _ (laws : AreLaws) where
  low_score : (p : PosedProblem) → IsAdmissible p → (cell : Cell) (score : Option ℤ) → IsBestScore p cell score
      → IsLowScore score
  low_score p admissible cell None best = tt
  low_score p admissible cell (Some score) best =
      let found = best.0 in
      let low : nat_abs (score_of p found.0) ≤ greatest_score =
      le_trans (laws.bounded p admissible.least admissible.greatest admissible.ranks admissible.checked admissible.limits.letters
      admissible.limits.scores.0 admissible.limits.scores.1 cell found.0 found.1) admissible.limits.scores.2 in
      subst (λ s. nat_abs s ≤ greatest_score) (sym found.2) low

  small_cell : (p : PosedProblem) → IsAdmissible p → (cell : Cell) → IsDemanded p cell → IsSmallCell p.grammar cell
  small_cell p admissible cell demanded =
      let counted = laws.counted p admissible.checked.well_formed cell demanded in
      let short : length p.word ≤ most_letters = admissible.limits.letters in
      record {
        rule = counted.rule;
        from = omega (arith, counted.in_order, counted.in_word, short);
        to = omega (arith, counted.in_word, short);
      }

  pub read_lines : (p : PosedProblem) → IsAdmissible p → (cells : List Cell) (text : List ℕ)
      → ((cell : Cell) → Contains cells cell → IsDemanded p cell) → AreCellLines p cells text → AreReadLines p cells text
  read_lines p admissible [] text demanded none = record {
    scores = [];
    best = refl;
    forms = λ behind. ap (λ (x : List ℕ). forms_of p.grammar (x ++ behind)) none;
  }
  read_lines p admissible (cell ∷ cells) text demanded (score, others, best, lines, is) =
      let rest = read_lines p admissible cells others (λ other found. demanded other (Contains-append_right (cell ∷ []) cells other found)) lines in
      record {
        scores = score ∷ rest.scores;
        best = (best, rest.best);
        forms = λ behind.
            ap (λ (x : List ℕ). forms_of p.grammar (x ++ behind)) is
            ∙ ap (forms_of p.grammar) (append_assoc (line (cell_text p.grammar cell score)) others behind)
            ∙ cell_form p.grammar admissible.checked.well_formed (laws.names p.grammar admissible.checked.well_formed) cell
            (small_cell p admissible cell (demanded cell (0, omega arith, refl))) score (low_score p admissible cell score best) (others ++ behind)
            ∙ ap (λ (forms : List LineForm). CellLine cell score ∷ forms) (rest.forms behind);
      }

  -- there are few demanded cells
  few_cells : (p : PosedProblem) → IsAdmissible p → (cells : List Cell) → AreDemanded p cells → length cells < 2 ^ 64
  few_cells p admissible cells demanded =
      let within : length cells ≤ admissible.limits.cells.0 =
      laws.few p (length cells) admissible.limits.cells.0 admissible.checked.well_formed (cells, demanded, refl) admissible.limits.cells.1 in
      omega (arith, within, admissible.limits.cells.2)

  pub read_block : (p : PosedProblem) → IsAdmissible p → (number : ℕ) → number < 2 ^ 64 → (cells : List Cell) (lines : List ℕ)
      → AreDemanded p cells → (read : AreReadLines p cells lines) → (behind : List ℕ)
      → forms_of p.grammar ((line (word_text number (length cells)) ++ lines) ++ behind) ≡ block_forms number cells read.scores ++ forms_of p.grammar behind
  read_block p admissible number small cells lines demanded read behind =
      ap (forms_of p.grammar) (append_assoc (line (word_text number (length cells))) lines behind)
      ∙ word_form p.grammar number (length cells) (lines ++ behind) small (few_cells p admissible cells demanded)
      ∙ ap (λ (forms : List LineForm). WordLine number (length cells) ∷ forms) (read.forms behind)

  read_blocks : (grammar : Grammar) (number : ℕ) (problems : List PosedProblem) (text : List ℕ) → All IsAdmissible problems
      → All (λ p. p.grammar ≡ grammar) problems → number + length problems ≤ 2 ^ 64 → AreCertificates number problems text
      → AreBlockForms number problems (forms_of grammar text)
  read_blocks grammar number [] text all same few none = ap (forms_of grammar) none
  read_blocks grammar number (p ∷ problems) text all same few (block, others, (cells, lines, demanded, are, block_is), behind, is) =
      let admissible = All-head IsAdmissible p problems all in
      let read = read_lines p admissible cells lines demanded.each are in
      let known : p.grammar ≡ grammar = All-head (λ q. q.grammar ≡ grammar) p problems same in
      let next : number + 1 ≡ suc number = omega arith in (
        cells,
        read.scores,
        forms_of grammar others,
        demanded,
        read.best,
        read_blocks grammar (suc number) problems others (All-tail IsAdmissible p problems all) (All-tail (λ q. q.grammar ≡ grammar) p problems same)
            (omega arith) (subst (λ n. AreCertificates n problems others) next behind),
        ap (forms_of grammar) is ∙ ap (λ (x : List ℕ). forms_of grammar (x ++ others)) block_is
            ∙ subst (λ g. forms_of g ((line (word_text number (length cells)) ++ lines) ++ others) ≡ block_forms number cells read.scores ++ forms_of g others) known
            (read_block p admissible number (omega arith) cells lines demanded read others),
      )

  -- the forms of a written certificate: the line `cert`, and the blocks
  pub written_forms : (grammar : Grammar) (problems : List PosedProblem) (text : List ℕ) → All IsAdmissible problems
      → All (λ p. p.grammar ≡ grammar) problems → length problems < 2 ^ 64 → IsWritten problems text
      → (forms : List LineForm) × AreBlockForms 1 problems forms × (forms_of grammar text ≡ CertLine ∷ forms)
  written_forms grammar problems text all same few (blocks, are, is) = (
    forms_of grammar blocks,
    read_blocks grammar 1 problems blocks all same (omega arith) are,
    ap (forms_of grammar) is ∙ cert_form grammar blocks,
  )
