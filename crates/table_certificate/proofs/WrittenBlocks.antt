-- A block that is what is written of its word is right.
use Rattle.std.proofs.Common.{◌≡◌, ℕ, ◌+◌, ◌-◌, ◌^◌, ◌<◌, ◌≤◌, ℤ, Option, Some, None, IfSome, List, ◌++◌, length, take, drop, take-append-drop, length-append, true, nat_eq, IsSome, unwrap_or, le_trans, refl, sym, ap, subst, ◌∙◌, arith, Contains}
use lib.Pointwise.{pointwise, bytes_decides}
use Rattle.adp_model.specs.declared.cell.Cell.{Cell}
use Rattle.adp_model.specs.declared.grammar.Goal.{Goal}
use Rattle.adp_model.specs.PosedProblem.{PosedProblem, axiom_cell}
use Rattle.adp_model.specs.Parts.{algebra_of}
use Rattle.adp_model.specs.Scores.{IsBetter}
use Rattle.adp_model.specs.Cells.{CellPrecedes, IsCellBound, IsCounted}
use Rattle.adp_model.specs.Demand.{AreDemanded, Axiom, IsDemanded, IsDemandedCount}
use Rattle.adp_model.specs.ProblemFields.{IsAdmissible, most_cells}
use Rattle.adp_model.specs.Sizes.{IsWithinSizes}
use Rattle.table_certificate.specs.BestScores.{IsBestScore}
use Rattle.table_certificate.specs.BlockLines.{AreRightFurther, IsAtHead, IsRightBlock}
use Rattle.table_certificate.specs.CertificateLines.{CellLine, forms_of}
use Rattle.table_certificate.specs.LocalCertificate.{IsRightCellLine, IsRightWordLine, IsTold, last_cell, said_of}
use Rattle.table_certificate.specs.WrittenCertificate.{AreBest, IsCertificate, cell_forms, word_text}
use Rattle.table_certificate.proofs.LongTexts.{long_block}
use Rattle.table_certificate.proofs.ReadBlocks.{AreLaws as AreReadLaws, AreReadLines, read_block, read_lines}
use Rattle.table_certificate.proofs.RightLines.{length-cell_forms, listed_lines, said_best}
use Rattle.table_certificate.proofs.RightScores.{IsBetter_apart, some_is}
use Rattle.table_certificate.proofs.WrittenForms.{line_order, rising, up_to_block_end}
use Rattle.table_certificate.proofs.WrittenLocal.{IsLineOf, line_of}

-- the laws that this rests on
pub record AreLaws : Type 0 where
  pub read : AreReadLaws
  pub count : (p : PosedProblem) (a b : ℕ) → IsDemandedCount p a → IsDemandedCount p b → a ≡ b
  pub heads : (p : PosedProblem) → IsAdmissible p → (cells : List Cell) → AreDemanded p cells
      → (scores : List (Option ℤ)) → AreBest p cells scores
      → (number : ℕ) → IsRightWordLine p (cell_forms cells scores) number number (length cells)
  pub cells : (p : PosedProblem) → IsAdmissible p → (cells : List Cell) → AreDemanded p cells
      → (scores : List (Option ℤ)) → AreBest p cells scores
      → (cell : Cell) (score : Option ℤ) (earlier : Option Cell) → Contains cells cell → IsBestScore p cell score
      → IfSome earlier (λ before. CellPrecedes before cell)
      → IsRightCellLine p (cell_forms cells scores) earlier cell score

-- a cell has one best score
same_best : (p : PosedProblem) (cell : Cell) (a b : Option ℤ) → IsBestScore p cell a → IsBestScore p cell b → a ≡ b
same_best p cell None None none other = refl
same_best p cell None (Some score) none best = absurd (none best.0.0 best.0.1)
same_best p cell (Some score) None best none = absurd (none best.0.0 best.0.1)
same_best p cell (Some one) (Some other) best least =
    let goal : Goal = (algebra_of p).goal in
    let no_better : IsBetter goal one other → ⊥ = λ h. least.1 best.0.0 best.0.1 (subst (λ x. IsBetter goal x other) best.0.2 h) in
    let no_worse : IsBetter goal other one → ⊥ = λ h. best.1 least.0.0 least.0.1 (subst (λ x. IsBetter goal x one) least.0.2 h) in
    ap (λ x. Some x) (IsBetter_apart goal one other no_better no_worse)

module _ (laws : AreLaws) (p : PosedProblem) (admissible : IsAdmissible p) (cells : List Cell)
    (demanded : AreDemanded p cells) (scores : List (Option ℤ)) (best : AreBest p cells scores) where
  right_further : AreRightFurther p (cell_forms cells scores)
  right_further place low =
      let long : length (cell_forms cells scores) ≡ length cells = length-cell_forms p cells scores best in
      let line : IsLineOf p cells scores place = line_of p cells scores best place (omega arith) in (
        CellLine line.cell line.score,
        line.stands,
        λ number. laws.cells p admissible cells demanded scores best line.cell line.score
            (last_cell None (take place (cell_forms cells scores))) line.listed line.best
            (line_order None cells scores place line.cell line.score (rising cells demanded.in_order) line.stands),
      )

  right_told : (value : Option ℤ)
      → (IsWithinSizes p.grammar p.grammar.axiom (length p.word) → IsBestScore p (axiom_cell p) value)
      → ((IsWithinSizes p.grammar p.grammar.axiom (length p.word) → ⊥) → value ≡ None)
      → IsTold p (cell_forms cells scores) value
  right_told value within outside = record {
    said = λ inside.
        let found = some_is (said_of (cell_forms cells scores) (axiom_cell p)) (listed_lines p cells scores best (axiom_cell p) (demanded.all (axiom_cell p) (Axiom inside))) in
        found.1 ∙ ap (λ x. Some x) (same_best p (axiom_cell p) found.0 value (said_best p cells scores best (axiom_cell p) found.0 found.1) (within inside));
    outside = outside;
  }

pub written_is_right : AreLaws → (p : PosedProblem) → IsAdmissible p → (number : ℕ) → number < 2 ^ 64 → (block text behind : List ℕ)
    → IsCertificate number p block → text ≡ block ++ behind → IsAtHead p.grammar behind → (value : Option ℤ)
    → (IsWithinSizes p.grammar p.grammar.axiom (length p.word) → IsBestScore p (axiom_cell p) value)
    → ((IsWithinSizes p.grammar p.grammar.axiom (length p.word) → ⊥) → value ≡ None) → (count : ℕ) → IsDemandedCount p count
    → IsRightBlock p number text value (count + 1) behind
written_is_right laws p admissible number small block text behind (cells, lines, demanded, are, block_is) is head value within outside count counted =
    let read : AreReadLines p cells lines = read_lines laws.read p admissible cells lines demanded.each are in
    let many : count ≡ length cells = laws.count p count (length cells) counted (cells, demanded, refl) in
    let long : length (cell_forms cells read.scores) ≡ length cells = length-cell_forms p cells read.scores read.best in
    let bytes : length cells < length block = long_block p cells lines block (word_text number (length cells)) are block_is in
    let all : length text ≡ length block + length behind = ap length is ∙ length-append block behind in
    record {
      lines = cell_forms cells read.scores;
      number = number;
      cells = length cells;
      begins = record {
        forms =
            ap (forms_of p.grammar) is ∙ ap (λ (x : List ℕ). forms_of p.grammar (x ++ behind)) block_is
            ∙ read_block laws.read p admissible number small cells lines demanded read behind;
        headless = up_to_block_end cells read.scores (forms_of p.grammar behind) head;
        ends = head;
      };
      head = laws.heads p admissible cells demanded read.scores read.best number;
      further = right_further laws p admissible cells demanded read.scores read.best;
      told = right_told laws p admissible cells demanded read.scores read.best value within outside;
      counted = omega arith;
      fewer = omega arith;
    }

-- ---- what the code finds

pub parted_text : (block text behind : List ℕ) → pointwise nat_eq (take (length block) text) block ≡ true
    → behind ≡ drop (length block) text → text ≡ block ++ behind
parted_text block text behind same is =
    sym (take-append-drop (length block) text)
    ∙ ap (λ (x : List ℕ). x ++ drop (length block) text) ((bytes_decides (take (length block) text) block).0 same)
    ∙ ap (λ (x : List ℕ). block ++ x) (sym is)

-- what is told of the axiom's cell is its best score, where it is demanded
pub word_best : (p : PosedProblem) (told : Option (Option ℤ)) (value : Option ℤ) → IfSome told (IsBestScore p (axiom_cell p))
    → (IsDemanded p (axiom_cell p) → IsSome told) → value ≡ unwrap_or told None
    → IsWithinSizes p.grammar p.grammar.axiom (length p.word) → IsBestScore p (axiom_cell p) value
word_best p None value best some is within = absurd (nothing None refl (some (Axiom within)))
  where
    nothing : (x : Option (Option ℤ)) → x ≡ None → IsSome x → ⊥
    nothing None e h = cc
    nothing (Some y) e h = cc
word_best p (Some score) value best some is within = subst (IsBestScore p (axiom_cell p)) (sym is) best

-- and none where the word's length lies outside the axiom's sizes
pub word_none : (p : PosedProblem) → ((cell : Cell) → IsDemanded p cell → IsCounted p.grammar (length p.word) cell)
    → (told : Option (Option ℤ)) (value : Option ℤ) → (IsSome told → IsDemanded p (axiom_cell p)) → value ≡ unwrap_or told None
    → (IsWithinSizes p.grammar p.grammar.axiom (length p.word) → ⊥) → value ≡ None
word_none p counted None value only is outside = is
word_none p counted (Some score) value only is outside =
    let whole : length p.word - 0 ≡ length p.word = omega arith in
    absurd (outside (subst (IsWithinSizes p.grammar p.grammar.axiom) whole (counted (axiom_cell p) (only refl)).size))

-- the demanded cells are few
pub few_demanded : (p : PosedProblem) → IsAdmissible p
    → ((count bound : ℕ) → IsDemandedCount p count → IsCellBound p.grammar (length p.word) bound → count ≤ bound)
    → (count : ℕ) → IsDemandedCount p count → count ≤ most_cells
few_demanded p admissible within count counted =
    le_trans (within count admissible.limits.cells.0 counted admissible.limits.cells.1) admissible.limits.cells.2
