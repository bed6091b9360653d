-- Lines of cells, written one by one.
use Rattle.std.proofs.Common.{◌≡◌, ℕ, ◌+◌, ◌<◌, ℤ, Option, List, [], ◌∷◌, ◌++◌, length, take, get_or, append_assoc, append-nil, take_all, le_refl, refl, sym, ap, subst, ◌∙◌}
use Rattle.std.proofs.lemmas.List.{take_more}
use Rattle.adp_model.specs.declared.cell.Cell.{Cell}
use Rattle.adp_model.specs.PosedProblem.{PosedProblem}
use Rattle.adp_model.specs.Report.{line}
use Rattle.table_certificate.specs.BestScores.{IsBestScore}
use Rattle.adp_model.specs.Demand.{AreDemanded}
use Rattle.table_certificate.specs.WrittenCertificate.{cell_text, word_text, AreCellLines, IsCertificate}

pub AreCellLines-push : (p : PosedProblem) (cells : List Cell) (text : List ℕ) (cell : Cell) (score : Option ℤ) → AreCellLines p cells text → IsBestScore p cell score → AreCellLines p (cells ++ cell ∷ []) (text ++ line (cell_text p.grammar cell score))
AreCellLines-push p [] text cell score none best =
    (score, [], best, refl, ap (λ (x : List ℕ). x ++ line (cell_text p.grammar cell score)) none ∙ sym (append-nil (line (cell_text p.grammar cell score))))
AreCellLines-push p (first ∷ cells) text cell score (said, others, good, lines, is) best =
    let last : List ℕ = line (cell_text p.grammar cell score) in (
      said,
      others ++ last,
      good,
      AreCellLines-push p cells others cell score lines best,
      ap (λ (x : List ℕ). x ++ last) is ∙ append_assoc (line (cell_text p.grammar first said)) others last,
    )

-- the head of a block is written, and the lines of so many cells
pub record AreBegun (p : PosedProblem) (number : ℕ) (cells : List Cell) (count : ℕ) (text : List ℕ) : Type 0 where
  pub lines : List ℕ
  pub are : AreCellLines p (take count cells) lines
  pub is : text ≡ line (word_text number (length cells)) ++ lines

pub one_more_line : (p : PosedProblem) (number : ℕ) (cells : List Cell) (count : ℕ) (text after : List ℕ) (cell : Cell) (score : Option ℤ) → AreBegun p number cells count text → count < length cells → get_or cells count cell ≡ cell → IsBestScore p cell score → after ≡ text ++ line (cell_text p.grammar cell score) → AreBegun p number cells (count + 1) after
one_more_line p number cells count text after cell score begun low here best is =
    let last : List ℕ = line (cell_text p.grammar cell score) in
    let longer : take (count + 1) cells ≡ take count cells ++ cell ∷ [] =
    take_more cells count cell low ∙ ap (λ x. take count cells ++ x ∷ []) here in
    record {
      lines = begun.lines ++ last;
      are = subst (λ x. AreCellLines p x (begun.lines ++ last)) (sym longer) (AreCellLines-push p (take count cells) begun.lines cell score begun.are best);
      is = is ∙ ap (λ (x : List ℕ). x ++ last) begun.is ∙ append_assoc (line (word_text number (length cells))) begun.lines last;
    }

pub none_written : (p : PosedProblem) (number : ℕ) (cells : List Cell) (text : List ℕ) → text ≡ line (word_text number (length cells)) → AreBegun p number cells 0 text
none_written p number cells text is = record {
  lines = [];
  are = refl;
  is = is ∙ sym (append-nil (line (word_text number (length cells))));
}

pub all_written : (p : PosedProblem) (number : ℕ) (cells : List Cell) (text : List ℕ) → AreDemanded p cells → AreBegun p number cells (length cells) text → IsCertificate number p text
all_written p number cells text demanded begun =
    (cells, begun.lines, demanded, subst (λ x. AreCellLines p x begun.lines) (take_all (length cells) cells (le_refl (length cells))) begun.are, begun.is)
