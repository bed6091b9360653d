-- What straight arguments demand ends where they end.
use Rattle.std.proofs.Common.{◌≡◌, ℕ, zero, suc, ◌-◌, List, [], ◌∷◌, ◌++◌, length, drop, refl, sym, ap, subst, ◌∙◌, arith}
use Rattle.std.specs.List.{AllByRecursion, Contains}
use Rattle.adp_model.specs.declared.grammar.Arg.{Arg}
use Rattle.adp_model.specs.declared.grammar.Arg.TheVariants.{Rule, Literal, Letter, Run}
use Rattle.adp_model.specs.declared.cell.Cell.{Cell}
use Rattle.adp_model.specs.PosedProblem.{PosedProblem}
use Rattle.adp_model.specs.Parts.{arguments_of}
use Rattle.adp_model.specs.Splits.{Placed, place}
use Rattle.adp_model.specs.Demand.{IsDemanded, IsDemandedChild, Axiom, Child}
use Rattle.viable_splits.specs.Placing.{on_span}
use Rattle.suffix_cells.specs.Straight.{AreStraight, IsStraight}

abbrev AllEnd : ℕ → List ℕ → Type 0
AllEnd to ends = AllByRecursion (λ boundary. boundary ≡ to) ends

-- nothing but the last of straight arguments is a rule
module _ (rule begin end to : ℕ) where
  abbrev It : Placed
  It = on_span (Rule rule) begin end

  ends_last : (argument : Arg) (others : List Arg) (from : ℕ) (ends : List ℕ) → IsStraight (argument ∷ others)
      → AllEnd to (drop (length others) ends) → Contains (place (argument ∷ others) from ends) It → end ≡ to
  ends_last argument others from [] straight last (k, within, is) = absurd (omega arith)
  ends_last (Rule other) [] from (at ∷ ends) straight last (zero, within, is) = sym (ap (λ (placed : Placed). placed.to) is) ∙ last.0
  ends_last (Rule other) [] from (at ∷ ends) straight last (suc k, within, is) = absurd (omega arith)
  ends_last (Rule other) (next ∷ others) from (at ∷ ends) straight last stands = absurd (omega arith)
  ends_last (Literal text) others from (at ∷ ends) straight last (zero, within, is) =
      let same : Literal text ≡ Rule rule = ap (λ (placed : Placed). placed.argument) is in absurd cc
  ends_last (Literal text) [] from (at ∷ ends) straight last (suc k, within, is) = absurd (omega arith)
  ends_last (Literal text) (next ∷ others) from (at ∷ ends) straight last (suc k, within, is) =
      ends_last next others at ends straight last (k, omega arith, is)
  ends_last (Letter class) others from (at ∷ ends) straight last (zero, within, is) =
      let same : Letter class ≡ Rule rule = ap (λ (placed : Placed). placed.argument) is in absurd cc
  ends_last (Letter class) [] from (at ∷ ends) straight last (suc k, within, is) = absurd (omega arith)
  ends_last (Letter class) (next ∷ others) from (at ∷ ends) straight last (suc k, within, is) =
      ends_last next others at ends straight last (k, omega arith, is)
  ends_last (Run class low high) others from (at ∷ ends) straight last stands = absurd straight

  all_end : (arguments : List Arg) (from : ℕ) (ends : List ℕ) → IsStraight arguments → AllEnd to (drop (length arguments - 1) ends)
      → Contains (place arguments from ends) It → end ≡ to
  all_end [] from ends straight last (k, within, is) = absurd (omega arith)
  all_end (argument ∷ others) from ends straight last stands =
      let fewer : suc (length others) - 1 ≡ length others = omega arith in
      let A : ℕ → Type 0 = λ n. AllEnd to (drop n ends) in
      ends_last argument others from ends straight (subst A fewer last) stands

-- a demanded child of a cell ends where the cell ends
pub child_ends : (p : PosedProblem) → AreStraight p → (cell child : Cell) → IsDemandedChild p cell child → child.to ≡ cell.to
child_ends p straight cell child (alternative, cuts, viable, stands) =
    all_end child.rule child.from child.to cell.to (arguments_of p.grammar cell.rule alternative) cell.from (cuts ++ cell.to ∷ [])
    (straight cell.rule alternative viable.in_range) viable.last stands

pub ends_with_word : (p : PosedProblem) → AreStraight p → (cell : Cell) → IsDemanded p cell → cell.to ≡ length p.word
ends_with_word p straight it (Axiom sizes) = refl
ends_with_word p straight it (Child cell child demanded is) = child_ends p straight cell child is ∙ ends_with_word p straight cell demanded
