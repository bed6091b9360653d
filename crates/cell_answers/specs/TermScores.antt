-- What a term comes to at the values of arguments that are laid one behind the other, turned, and the first ends with
-- which it comes to a number.
use Rattle.std.specs.Prelude.{◌≡◌, ℕ, ◌+◌, ◌≤◌, ℤ, nat_abs, List, [], ◌∷◌, ◌++◌, length, map, take}
use Rattle.std.specs.List.{AllByRecursion, Contains}
use Rattle.adp_model.specs.declared.grammar.Arg.{Arg}
use Rattle.adp_model.specs.declared.grammar.Term.{Term}
use Rattle.adp_model.specs.PosedProblem.{PosedProblem}
use Rattle.adp_model.specs.Bounds.{IsScoreBound}
use Rattle.adp_model.specs.Parts.{algebra_of}
use Rattle.adp_model.specs.Preference.{LexicographicallyLess}
use Rattle.adp_model.specs.Tokens.{letters_between, token_value}
use Rattle.adp_model.specs.WellFormed.{IsKnown}
use Rattle.adp_model.specs.Terms.{magnitude, term_value}
use Rattle.adp_model.specs.ProblemFields.{greatest_score}
use Rattle.adp_model.specs.Splits.{FitsSpan}
use Rattle.adp_model.specs.FirstSplit.{IsValue}
use Rattle.adp_model.specs.Bellman.{HasBestScore}
use Rattle.viable_splits.specs.Placing.{on_span}
use Rattle.score_numbers.specs.Turned.{turned}
use Rattle.term_values.specs.Values.{HasValues}
use Rattle.cell_answers.specs.declared.by_term.FirstValues.{FirstValues}
use Rattle.cell_answers.specs.Totals.{HaveValues, IsWithinBound}

-- the values that are laid
abbrev pub first_values : FirstValues → List ℤ
first_values first = take first.count first.values

-- the arguments may have the letters from `from` to `to` so that the term comes to this number, turned, at the values
-- before and then theirs
abbrev pub HasTermScore : PosedProblem → Term → List ℤ → List Arg → ℕ → ℕ → ℤ → Type 0
HasTermScore p term before arguments from to number =
    (values : List ℤ) × HaveValues p (HasBestScore p) arguments from to values
    × (number ≡ turned (algebra_of p).goal (term_value term (before ++ values)))

-- arguments of a term behind those whose values stand before: whatever scores within their bounds the cells of rules
-- have, no part of the term is greater than the greatest score, nor than the word's score bound, and what tokens are
-- worth keeps the greatest score too
pub record AreTermArguments (p : PosedProblem) (term : Term) (before : List ℤ) (arguments : List Arg) (from to : ℕ)
    : Type 0 where
  pub known : AllByRecursion (IsKnown p.grammar) arguments
  pub few : length before + length arguments ≤ 4
  pub there : HasValues (length before + length arguments) term
  pub tokens_low : (token : Arg) (from to : ℕ) → Contains arguments token → FitsSpan p (on_span token from to)
      → nat_abs (token_value p.grammar token (letters_between p.word from to)) ≤ greatest_score
  pub low : (values : List ℤ) → HaveValues p (IsWithinBound p) arguments from to values
      → magnitude term (map nat_abs (before ++ values)) ≤ greatest_score
  pub bounded : (number : ℕ) (values : List ℤ) → IsScoreBound p.grammar p.algebra (length p.word) number
      → HaveValues p (IsWithinBound p) arguments from to values
      → magnitude term (map nat_abs (before ++ values)) ≤ number

-- the arguments may have the letters from `from` to `to` with these values, each up to its own of the ends; ends that
-- are left over stand at `to`
abbrev pub HaveValuesBy : PosedProblem → List Arg → ℕ → ℕ → List ℤ → List ℕ → Type 0
HaveValuesBy p [] from to [] ends = (from ≡ to) × AllByRecursion (λ end. end ≡ to) ends
HaveValuesBy p [] from to (value ∷ values) ends = ⊥
HaveValuesBy p (argument ∷ arguments) from to [] ends = ⊥
HaveValuesBy p (argument ∷ arguments) from to (value ∷ values) [] = ⊥
HaveValuesBy p (argument ∷ arguments) from to (value ∷ values) (end ∷ ends) =
    FitsSpan p (on_span argument from end) × IsValue p (HasBestScore p) (on_span argument from end) value
    × HaveValuesBy p arguments end to values ends

-- with these ends the term comes to this number, turned
abbrev pub HasTermScoreBy : PosedProblem → Term → List ℤ → List Arg → ℕ → ℕ → ℤ → List ℕ → Type 0
HasTermScoreBy p term before arguments from to number ends =
    (values : List ℤ) × HaveValuesBy p arguments from to values ends
    × (number ≡ turned (algebra_of p).goal (term_value term (before ++ values)))

-- the first ends with which it does
pub record AreFirstTermEnds (p : PosedProblem) (term : Term) (before : List ℤ) (arguments : List Arg) (from to : ℕ)
    (number : ℤ) (ends : List ℕ) : Type 0 where
  pub have : HasTermScoreBy p term before arguments from to number ends
  pub first : (others : List ℕ) → HasTermScoreBy p term before arguments from to number others
      → LexicographicallyLess others ends → ⊥
