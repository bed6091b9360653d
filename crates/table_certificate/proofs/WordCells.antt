-- The cell of a line, by its numbers.
use Rattle.std.proofs.Common.{◌≡◌, ℕ, ◌-◌, ◌<◌, ◌≤◌, ◌↔◌, ◌^◌, ℤ, Bool, IsTrue, Option, IfSome, List, length, sym, subst, ◌∙◌, arith}
use Rattle.adp_model.specs.declared.cell.Cell.{Cell}
use Rattle.adp_model.specs.PosedProblem.{PosedProblem}
use Rattle.adp_model.specs.Parts.{algebra_of}
use Rattle.adp_model.specs.Cells.{CellPrecedes}
use Rattle.adp_model.specs.Sizes.{IsWithinSizes}
use Rattle.table_certificate.specs.declared.claims.Claims.{Claims}
use Rattle.table_certificate.specs.CertificateLines.{LineForm}
use Rattle.table_certificate.specs.LocalCertificate.{IsRightCellLine}
use Rattle.table_certificate.specs.Claims.{Tell, claimed}
use Rattle.table_certificate.specs.KeptForms.{kept}
use Rattle.table_certificate.specs.BlockLines.{IsBestOrNot, IsInWord, LiesInWord}
use Rattle.table_certificate.specs.SplitVerdicts.{HasSplitVerdict, IsJudged}
use Rattle.table_certificate.proofs.JudgedCells.{AreFitting, line_score, right_line}
use Rattle.table_certificate.proofs.KeptNumbers.{kept_exact, kept_low}

module _ (p : PosedProblem) (rule from to : ℕ) (exact : Cell) (short : length p.word ≤ 4000) (same : rule ≡ exact.rule)
    (begins : from ≡ kept exact.from) (ends : to ≡ kept exact.to) where
  pub lies_there : LiesInWord p rule from to → (record { rule = rule; from = from; to = to } ≡ exact) × IsInWord p exact
  lies_there lies =
      let starts : from ≡ exact.from = sym (kept_exact exact.from from begins (omega (arith, lies.0, lies.1, short))) in
      let stops : to ≡ exact.to = sym (kept_exact exact.to to ends (omega (arith, lies.1, short))) in
      let path : record { rule = rule; from = from; to = to } ≡ exact = λ i. record { rule = same i; from = starts i; to = stops i } in (
        path,
        record {
          span = record { in_order = omega (arith, lies.0, starts, stops); in_word = omega (arith, lies.1, stops) };
          sizes = subst (λ (x : Cell). IsWithinSizes p.grammar x.rule (x.to - x.from)) path lies.2;
        },
      )

  pub lies_not : (LiesInWord p rule from to → ⊥) → IsInWord p exact → ⊥
  lies_not not inside =
      let starts : from ≡ exact.from = begins ∙ kept_low exact.from (omega (arith, inside.span.in_order, inside.span.in_word, short)) in
      let stops : to ≡ exact.to = ends ∙ kept_low exact.to (omega (arith, inside.span.in_word, short)) in
      let path : exact ≡ record { rule = rule; from = from; to = to } = λ i. record { rule = sym same i; from = sym starts i; to = sym stops i } in
      not (
        omega (arith, inside.span.in_order, starts, stops),
        omega (arith, inside.span.in_word, stops),
        subst (λ (x : Cell). IsWithinSizes p.grammar x.rule (x.to - x.from)) path inside.sizes,
      )

-- the line is right exactly where its score is found the best
pub right_or_not : (p : PosedProblem) (claims : Claims) (block : List LineForm) (earlier : Option Cell) (cell : Cell) (score : Option ℤ)
    → AreFitting p cell → Tell claims block → length p.word < 2 ^ 16 → IsInWord p cell
    → IfSome earlier (λ before. CellPrecedes before cell) → (told : Bool) → IsBestOrNot p (claimed claims) cell score told
    → IsTrue told ↔ IsRightCellLine p block earlier cell score
right_or_not p claims block earlier cell score fitting tells short inside order told best = (
  λ is. right_line p block cell fitting claims tells short earlier score inside order
      (subst (IsJudged (algebra_of p).goal (HasSplitVerdict p (claimed claims) cell)) (best.told_is.0 is) best.judged),
  λ right. best.told_is.1 (line_score p block cell fitting claims tells short earlier score best.verdict right best.judged),
)
