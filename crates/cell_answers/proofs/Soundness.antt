-- What the laws on bounds of scores and on answers tell of best scores, and that low numbers fit.
use Rattle.std.proofs.Common.{◌≡◌, ℕ, ◌≤◌, ℤ, ◌+ℤ◌, ◌*ℤ◌, IsTrue, List, ◌∷◌, nat_abs, FitsSigned, w64, to_z, of_z, sym, ap, subst, ◌∙◌, arith}
use Rattle.std.proofs.lemmas.Int.{to_z-of_z, fits_signed_from_abs}
use Rattle.adp_model.specs.declared.cell.Answer.{Answer}
use Rattle.adp_model.specs.declared.cell.Cell.{Cell}
use Rattle.adp_model.specs.PosedProblem.{PosedProblem}
use Rattle.adp_model.specs.ProblemFields.{greatest_score, IsAdmissible}
use Rattle.adp_model.specs.Answers.{IsAnswer}
use Rattle.adp_model.specs.WellFormed.{is_well_formed}
use Rattle.adp_model.specs.declared.grammar.Arg.{Arg}
use Rattle.adp_model.specs.Splits.{AtRule, FitsSpan}
use Rattle.adp_model.specs.FirstSplit.{IsValue}
use Rattle.adp_model.specs.Bellman.{HasBestScore}
use Rattle.viable_splits.specs.Placing.{on_span}
use Rattle.cell_tables.specs.Tables.{Table}
use Rattle.cell_answers.specs.Entries.{HasEntry}
use Rattle.cell_answers.specs.Totals.{HasTotal}
use Rattle.cell_answers.proofs.Bounding.{AreBounded, best_within}
use Rattle.cell_answers.proofs.FirstEnds.{AreLaid, AreSound, parts_low}
use Rattle.cell_answers.proofs.Scoring.{one_score}

-- a cell has one answer
abbrev pub IsAnsweredOnce : PosedProblem → Type 0
IsAnsweredOnce p = (cell : Cell) (a b : Answer) → IsTrue (is_well_formed p.grammar) → IsAnswer p cell a → IsAnswer p cell b → a ≡ b

pub sound_of : (p : PosedProblem) → IsAdmissible p → AreBounded p → IsAnsweredOnce p → AreSound p
sound_of p admissible bounded once = record {
  within = best_within p admissible bounded;
  one = one_score p (λ cell a b. once cell a b admissible.checked.well_formed);
}

-- where the problem that was read is this one
pub sound_by : (read p : PosedProblem) → read ≡ p → IsAdmissible read → AreBounded p → IsAnsweredOnce p → AreSound p
sound_by read p same admissible bounded once = sound_of p (subst (λ q. IsAdmissible q) same admissible) bounded once

pub fits_below : (z : ℤ) → nat_abs z ≤ greatest_score → FitsSigned w64 z
fits_below z below = fits_signed_from_abs w64 z (omega arith)

-- the product of the first argument, a total of the others, and both together fit
pub parts_fit : (p : PosedProblem) (table : Table ℤ) (argument : Arg) (others : List Arg) (factor : ℤ)
    (factors : List ℤ) (from to : ℕ) → AreLaid p table (argument ∷ others) (factor ∷ factors) from to → (end : ℕ)
    → FitsSpan p (on_span argument from end) → AreSound p → (value : ℤ)
    → (AtRule (HasEntry table) (on_span argument from end)
    → IsValue p (HasBestScore p) (on_span argument from end) value)
    → (rest : ℤ) → HasTotal p (HasBestScore p) others factors end to rest
    → FitsSigned w64 (factor *ℤ value) × FitsSigned w64 rest × FitsSigned w64 ((factor *ℤ value) +ℤ rest)
parts_fit p table argument others factor factors from to laid end fits sound value told rest total =
    let low = parts_low p table argument others factor factors from to laid end fits sound value told rest total in
    (fits_below (factor *ℤ value) low.0, fits_below rest low.1, fits_below ((factor *ℤ value) +ℤ rest) low.2)

-- numbers are the same where their bits are
pub same_bits : (a b : ℤ) → FitsSigned w64 a → FitsSigned w64 b → of_z w64 a ≡ of_z w64 b → a ≡ b
same_bits a b fits_a fits_b same = sym (to_z-of_z w64 a fits_a) ∙ ap (to_z w64) same ∙ to_z-of_z w64 b fits_b
