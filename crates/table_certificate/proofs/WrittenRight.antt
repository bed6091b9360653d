-- What is written of a word is right: its head, and each line of a demanded cell.
use Rattle.std.proofs.Common.{◌≡◌, ℕ, ◌+◌, ◌<◌, ◌≤◌, ◌++◌, ℤ, Option, Some, IfSome, IsTrue, List, [], ◌∷◌, length, refl, sym, arith, Contains, length-append, le_trans}
use Rattle.adp_model.specs.declared.cell.Answer.{Answer}
use Rattle.adp_model.specs.declared.cell.Cell.{Cell}
use Rattle.adp_model.specs.declared.grammar.Grammar.{Grammar}
use Rattle.adp_model.specs.PosedProblem.{PosedProblem, IsSpan, axiom_cell}
use Rattle.adp_model.specs.Parts.{algebra_of, alternatives_of, arguments_of}
use Rattle.adp_model.specs.Tree.{Tree, end_of}
use Rattle.adp_model.specs.Derivation.{Derives}
use Rattle.adp_model.specs.Scores.{score_of, root_magnitude, IsBetter}
use Rattle.adp_model.specs.Preference.{IsPreferred}
use Rattle.adp_model.specs.Answers.{IsAnswer}
use Rattle.adp_model.specs.Bellman.{Bellman}
use Rattle.adp_model.specs.Cells.{CellPrecedes, IsCounted}
use Rattle.adp_model.specs.Checks.{IsChecked}
use Rattle.adp_model.specs.Demand.{IsDemandedChild, IsDemanded, Axiom, Child, AreDemanded}
use Rattle.adp_model.specs.ProblemFields.{most_letters, IsAdmissible}
use Rattle.adp_model.specs.Bounds.{IsScoreBound}
use Rattle.adp_model.specs.Splits.{ends_by}
use Rattle.adp_model.specs.WellFormed.{is_well_formed}
use Rattle.table_certificate.specs.CertificateLines.{LineForm}
use Rattle.table_certificate.specs.LocalCertificate.{said_of, HasLine, IsRightCellLine, IsRightWordLine}
use Rattle.table_certificate.specs.BestScores.{IsBestScore}
use Rattle.table_certificate.specs.WrittenCertificate.{cell_forms, AreBest}
use Rattle.table_certificate.proofs.BestTrees.{split_within}
use Rattle.table_certificate.proofs.RightLines.{said_best, listed_lines, length-cell_forms, best_said, low_said}

-- the laws that this rests on
pub record AreLaws : Type 0 where
  pub bellman : (p : PosedProblem) → IsAdmissible p → Bellman p
  pub unique : (p : PosedProblem) (cell : Cell) (a b : Answer) → IsTrue (is_well_formed p.grammar) → IsAnswer p cell a
      → IsAnswer p cell b → a ≡ b
  pub best : (p : PosedProblem) (cell : Cell) (t u : Tree) → IsPreferred p cell t → Derives p cell u
      → IsBetter (algebra_of p).goal (score_of p u) (score_of p t) → ⊥
  pub counted : (p : PosedProblem) → IsTrue (is_well_formed p.grammar) → (cell : Cell) → IsDemanded p cell
      → IsCounted p.grammar (length p.word) cell
  pub ends : (p : PosedProblem) (cell : Cell) (tree : Tree) → Derives p cell tree → end_of tree ≡ cell.to
  pub bounded : (p : PosedProblem) (least : List ℕ) (greatest : List (Option ℕ)) (ranks : List ℕ)
      → IsChecked p.grammar p.algebra least greatest ranks → length p.word ≤ most_letters → (number : ℕ)
      → IsScoreBound p.grammar p.algebra (length p.word) number → (cell : Cell) (tree : Tree) → Derives p cell tree
      → root_magnitude p tree ≤ number
  pub few : (grammar : Grammar) → IsTrue (is_well_formed grammar) → (rule alternative : ℕ)
      → length (arguments_of grammar rule alternative) ≤ 4
  pub some : (grammar : Grammar) → IsTrue (is_well_formed grammar) → (rule alternative : ℕ)
      → alternative < length (alternatives_of grammar rule) → 1 ≤ length (arguments_of grammar rule alternative)

four_ends : (cell : Cell) (cuts : List ℕ) → length cuts ≡ 3 → 4 ≤ length (ends_by cell cuts)
four_ends cell cuts three = let long : length (cuts ++ cell.to ∷ []) ≡ length cuts + 1 = length-append cuts (cell.to ∷ []) in omega arith

-- the line of a demanded cell says its best score, and those of its demanded children theirs
module _ (laws : AreLaws) (p : PosedProblem) (admissible : IsAdmissible p) (lines : List LineForm) (cell : Cell)
    (here : IsDemanded p cell)
    (saids : (child : Cell) → IsDemandedChild p cell child → (score : Option ℤ) → said_of lines child ≡ Some score → IsBestScore p child score)
    (children : (child : Cell) → IsDemandedChild p cell child → HasLine lines child) where
  pub cell_over_best : (score : Option ℤ) (earlier : Option Cell) → IsBestScore p cell score
      → IfSome earlier (λ before. CellPrecedes before cell) → IsRightCellLine p lines earlier cell score
  cell_over_best score earlier good order = record {
    in_word = span;
    in_sizes = (laws.counted p well_formed cell here).size;
    in_order = order;
    children = children;
    best = best_said p (laws.bellman p admissible) unique (laws.best p) lines cell span spans saids children score good;
    low = low_said p (laws.bellman p admissible) unique (laws.best p) lines cell span spans saids children
        (λ choice values viable are. le_trans
        (split_within p (laws.ends p) admissible.limits.scores.0
        (laws.bounded p admissible.least admissible.greatest admissible.ranks admissible.checked admissible.limits.letters admissible.limits.scores.0 admissible.limits.scores.1)
        cell span choice values
        (laws.some p.grammar well_formed cell.rule choice.alt viable.in_range)
        (le_trans (laws.few p.grammar well_formed cell.rule choice.alt) (four_ends cell choice.cuts viable.three))
        viable are)
        admissible.limits.scores.2);
  }
    where
      well_formed : IsTrue (is_well_formed p.grammar)
      well_formed = admissible.checked.well_formed

      span_of : (cell : Cell) → IsDemanded p cell → IsSpan p.word cell.from cell.to
      span_of cell h = let counted = laws.counted p well_formed cell h in record { in_order = counted.in_order; in_word = counted.in_word }

      span : IsSpan p.word cell.from cell.to
      span = span_of cell here

      unique : (cell : Cell) (a b : Answer) → IsAnswer p cell a → IsAnswer p cell b → a ≡ b
      unique other a b = laws.unique p other a b well_formed

      spans : (child : Cell) → IsDemandedChild p cell child → IsSpan p.word child.from child.to
      spans child h = span_of child (Child cell child here h)

module _ (laws : AreLaws) (p : PosedProblem) (admissible : IsAdmissible p) (cells : List Cell)
    (demanded : AreDemanded p cells) (scores : List (Option ℤ)) (best : AreBest p cells scores) where
  has_line : (cell : Cell) → IsDemanded p cell → HasLine (cell_forms cells scores) cell
  has_line cell h = listed_lines p cells scores best cell (demanded.all cell h)

  pub right_cell : (cell : Cell) (score : Option ℤ) (earlier : Option Cell) → Contains cells cell
      → IsBestScore p cell score → IfSome earlier (λ before. CellPrecedes before cell)
      → IsRightCellLine p (cell_forms cells scores) earlier cell score
  right_cell cell score earlier listed good order =
      let here : IsDemanded p cell = demanded.each cell listed in
      cell_over_best laws p admissible (cell_forms cells scores) cell here (λ child h. said_best p cells scores best child)
      (λ child h. has_line child (Child cell child here h)) score earlier good order

  pub right_head : (number : ℕ) → IsRightWordLine p (cell_forms cells scores) number number (length cells)
  right_head number = record {
    numbered = refl;
    counted = sym (length-cell_forms p cells scores best);
    axiom_line = λ within. has_line (axiom_cell p) (Axiom within);
  }
