-- The line of a demanded cell whose demanded children are said to have their best scores.
use Rattle.std.proofs.Common.{◌≡◌, ◌↔◌, ◌≤◌, ℤ, Option, Some, IsSome, IfSome, List, length, refl, sym, subst, ◌∙◌, arith}
use Rattle.std.proofs.lemmas.Option.{same_Some}
use Rattle.adp_model.specs.declared.cell.Cell.{Cell}
use Rattle.adp_model.specs.PosedProblem.{PosedProblem}
use Rattle.adp_model.specs.Cells.{CellPrecedes, IsCounted}
use Rattle.adp_model.specs.Demand.{IsDemanded, IsDemandedChild}
use Rattle.adp_model.specs.ProblemFields.{IsAdmissible}
use Rattle.table_certificate.specs.declared.claims.Claims.{Claims}
use Rattle.cell_tables.specs.Noted.{Notes}
use Rattle.table_certificate.specs.CertificateLines.{LineForm}
use Rattle.table_certificate.specs.LocalCertificate.{said_of, HasLine, IsRightCellLine}
use Rattle.table_certificate.specs.BestScores.{IsBestScore}
use Rattle.table_certificate.specs.Claims.{Tell, claimed}
use Rattle.table_certificate.specs.KnownScores.{AreChildrenSaidBest, AreSaidBest, IsSettled}
use Rattle.table_certificate.proofs.JudgedCells.{AreFitting, best_unique}
use Rattle.table_certificate.proofs.WrittenRight.{AreLaws, cell_over_best}

module _ (laws : AreLaws) (p : PosedProblem) (admissible : IsAdmissible p) (lines : List LineForm) (cell : Cell)
    (here : IsDemanded p cell) (said : AreChildrenSaidBest p (said_of lines) cell) where
  saids : (child : Cell) → IsDemandedChild p cell child → (score : Option ℤ) → said_of lines child ≡ Some score
      → IsBestScore p child score
  saids child demanded score says =
      let found = said child demanded in
      subst (IsBestScore p child) (same_Some found.score score (sym found.says ∙ says)) found.best

  children : (child : Cell) → IsDemandedChild p cell child → HasLine lines child
  children child demanded = subst (λ (x : Option (Option ℤ)). IsSome x) (sym (said child demanded).says) refl

  fitting : AreFitting p cell
  fitting = record {
    some = λ alternative. laws.some p.grammar admissible.checked.well_formed cell.rule alternative;
    few = λ alternative. laws.few p.grammar admissible.checked.well_formed cell.rule alternative;
  }

  -- it is right exactly where it says the best score
  pub settled_line : (best score : Option ℤ) (earlier : Option Cell) → IsBestScore p cell best
      → IfSome earlier (λ before. CellPrecedes before cell) → (score ≡ best) ↔ IsRightCellLine p lines earlier cell score
  settled_line best score earlier good order =
      let right = cell_over_best laws p admissible lines cell here saids children best earlier good order in (
        λ same. subst (IsRightCellLine p lines earlier cell) (sym same) right,
        λ line. best_unique p lines cell fitting score best line.best right.best,
      )

-- what is noted is said by the lines
pub children_said : (p : PosedProblem) (claims : Claims) (lines : List LineForm) (notes : Notes) → Tell claims lines
    → length p.word ≤ 4000
    → ((cell : Cell) → IsDemanded p cell → IsCounted p.grammar (length p.word) cell)
    → AreSaidBest p (claimed claims) notes → (cell : Cell) (best : Option ℤ) → IsSettled p notes cell best
    → AreChildrenSaidBest p (said_of lines) cell
children_said p claims lines notes tells short counted are cell best settled = λ child demanded.
    let noted = are child (settled.children child demanded) in
    let there = counted child noted.demanded in
    let told = tells child (record { begins = omega (arith, there.in_order, there.in_word, short); ends = omega (arith, there.in_word, short) }) in
    record { demanded = noted.demanded; score = noted.score; says = sym told ∙ noted.says; best = noted.best }
