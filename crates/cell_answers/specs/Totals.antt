-- What arguments that are laid one behind the other add to the value of a term, and the greatest that they can add.
use Rattle.std.specs.Prelude.{◌≡◌, ℕ, ◌-◌, ◌≤◌, ℤ, nat_abs, List, [], ◌∷◌, length, map}
use Rattle.std.specs.List.{AllByRecursion, Contains}
use Rattle.adp_model.specs.declared.grammar.Arg.{Arg}
use Rattle.adp_model.specs.declared.cell.Cell.{Cell}
use Rattle.adp_model.specs.PosedProblem.{PosedProblem}
use Rattle.adp_model.specs.Lengths.{AllowsLength}
use Rattle.adp_model.specs.Parts.{algebra_of, alternative_at, arguments_of, term_of}
use Rattle.adp_model.specs.Tokens.{letters_between, token_value}
use Rattle.adp_model.specs.WellFormed.{IsKnown}
use Rattle.adp_model.specs.Terms.{weighted_sum, weighted_total, term_value}
use Rattle.adp_model.specs.Bounds.{AreScoreBounds}
use Rattle.adp_model.specs.ProblemFields.{greatest_score}
use Rattle.adp_model.specs.Splits.{FitsSpan}
use Rattle.adp_model.specs.FirstSplit.{IsValue}
use Rattle.adp_model.specs.Bellman.{HasBestScore}
use Rattle.viable_splits.specs.Placing.{on_span}
use Rattle.score_numbers.specs.Turned.{turned}

-- the arguments may have the letters from `from` to `to` with these values, the cells of rules their scores
abbrev pub HaveValues : PosedProblem → (Cell → ℤ → Type 0) → List Arg → ℕ → ℕ → List ℤ → Type 0
HaveValues p HasScore [] from to [] = from ≡ to
HaveValues p HasScore [] from to (value ∷ values) = ⊥
HaveValues p HasScore (argument ∷ arguments) from to [] = ⊥
HaveValues p HasScore (argument ∷ arguments) from to (value ∷ values) =
    (end : ℕ) × FitsSpan p (on_span argument from end) × IsValue p HasScore (on_span argument from end) value
    × HaveValues p HasScore arguments end to values

-- they may have them so that each factor times its value, added up, is the total
abbrev pub HasTotal : PosedProblem → (Cell → ℤ → Type 0) → List Arg → List ℤ → ℕ → ℕ → ℤ → Type 0
HasTotal p HasScore arguments factors from to total =
    (values : List ℤ) × HaveValues p HasScore arguments from to values × (total ≡ weighted_sum factors values)

-- the number is within the score bound of the cell's rule at the cell's length
abbrev pub IsWithinBound : PosedProblem → Cell → ℤ → Type 0
IsWithinBound p cell number =
    (bound : ℕ → ℕ → ℕ) → AreScoreBounds p.grammar p.algebra bound
    → nat_abs number ≤ bound cell.rule (cell.to - cell.from)

-- whatever scores within their bounds the cells of rules have, no part of a total is greater than the greatest score
abbrev pub AreLow : PosedProblem → List Arg → List ℤ → ℕ → ℕ → Type 0
AreLow p arguments factors from to =
    (values : List ℤ) → HaveValues p (IsWithinBound p) arguments from to values
    → weighted_total factors (map nat_abs values) ≤ greatest_score

-- the number is what the alternative's term comes to, turned, where its arguments are laid along the cell and their
-- cells have their best scores
abbrev pub HasLaidScore : PosedProblem → Cell → ℕ → ℤ → Type 0
HasLaidScore p cell alternative number =
    (values : List ℤ)
    × HaveValues p (HasBestScore p) (arguments_of p.grammar cell.rule alternative) cell.from cell.to values
    × (number ≡ turned (algebra_of p).goal (term_value (term_of p cell.rule alternative) values))

-- the score of a split of the cell by the alternative, which allows the cell's length, at the best scores of its
-- arguments' cells, turned
abbrev pub HasTurnedScore : PosedProblem → Cell → ℕ → ℤ → Type 0
HasTurnedScore p cell alternative number =
    AllowsLength (alternative_at p.grammar cell.rule alternative) (cell.to - cell.from)
    × HasLaidScore p cell alternative number

-- arguments of an alternative, each with the factor of its value; what tokens are worth keeps the greatest score
pub record AreWeighted (p : PosedProblem) (arguments : List Arg) (factors : List ℤ) : Type 0 where
  pub known : AllByRecursion (IsKnown p.grammar) arguments
  pub few : length arguments ≤ 4
  pub factors_each : length factors ≡ length arguments
  pub tokens_low : (token : Arg) (from to : ℕ) → Contains arguments token → FitsSpan p (on_span token from to)
      → nat_abs (token_value p.grammar token (letters_between p.word from to)) ≤ greatest_score
