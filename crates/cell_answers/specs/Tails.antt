-- The tails of alternatives: their last arguments, laid from one position of the word up to another.
use Rattle.std.specs.Prelude.{◌≡◌, ℕ, ℤ, Option, IfSome, List, ◌++◌, length}
use Rattle.adp_model.specs.declared.grammar.Arg.{Arg}
use Rattle.adp_model.specs.PosedProblem.{PosedProblem}
use Rattle.adp_model.specs.Parts.{arguments_of}
use Rattle.adp_model.specs.Bellman.{HasBestScore}
use Rattle.split_lines.specs.Kept.{IsScoredBy}
use Rattle.score_numbers.specs.Greatest.{IsGreatestOf}
use Rattle.cell_answers.specs.declared.filling.Owner.{Owner}
use Rattle.cell_answers.specs.declared.tails.Tail.{Tail}
use Rattle.cell_answers.specs.Totals.{HasTotal}

-- the tail is these arguments, and these are their factors in a sum that scores the alternative
pub record IsTail (p : PosedProblem) (tail : Tail) (arguments : List Arg) (factors : List ℤ) : Type 0 where
  pub before : List Arg
  pub factors_before : List ℤ
  pub constant : ℤ
  pub arguments_are : arguments_of p.grammar tail.rule tail.alt ≡ before ++ arguments
  pub count : length arguments ≡ tail.count
  pub each : length factors ≡ length arguments
  pub scored : IsScoredBy p tail.rule tail.alt constant (factors_before ++ factors)

-- at best scores this is the greatest total that the tail has between the two positions, or it has none
abbrev pub IsTailTotal : PosedProblem → Tail → ℕ → ℕ → Option ℤ → Type 0
IsTailTotal p tail from to total =
    (arguments : List Arg) (factors : List ℤ) → IsTail p tail arguments factors
    → IsGreatestOf (HasTotal p (HasBestScore p) arguments factors from to) total

-- the last so many arguments of the alternative
abbrev pub tail_with : Owner → ℕ → Tail
tail_with owner count = record { rule = owner.rule; alt = owner.alt; count = count }

-- if an owner is told, it is an alternative whose last arguments these are
abbrev pub IsOwner : PosedProblem → Option Owner → List Arg → List ℤ → Type 0
IsOwner p owner arguments factors = IfSome owner (λ it. IsTail p (tail_with it (length arguments)) arguments factors)
