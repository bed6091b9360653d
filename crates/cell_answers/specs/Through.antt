-- Totals of laid arguments where the first one ends at a given position.
use Rattle.std.specs.Prelude.{◌≡◌, ℕ, ◌+◌, ℤ, ◌+ℤ◌, ◌*ℤ◌, List}
use Rattle.adp_model.specs.declared.grammar.Arg.{Arg}
use Rattle.adp_model.specs.declared.cell.Cell.{Cell}
use Rattle.adp_model.specs.PosedProblem.{PosedProblem}
use Rattle.adp_model.specs.Splits.{FitsSpan}
use Rattle.adp_model.specs.FirstSplit.{IsValue}
use Rattle.adp_model.specs.Bellman.{HasBestScore}
use Rattle.viable_splits.specs.Placing.{on_span}
use Rattle.cell_answers.specs.declared.opened.OpenedLine.{OpenedLine}
use Rattle.cell_answers.specs.Totals.{HasTotal}

-- the totals of arguments whose first one ends here
pub record HasTotalAt (p : PosedProblem) (HasScore : Cell → ℤ → Type 0) (argument : Arg) (arguments : List Arg)
    (factor : ℤ) (factors : List ℤ) (from end to : ℕ) (total : ℤ) : Type 0 where
  pub fits : FitsSpan p (on_span argument from end)
  pub value : ℤ
  pub is_value : IsValue p HasScore (on_span argument from end) value
  pub others : ℤ
  pub have_others : HasTotal p HasScore arguments factors end to others
  pub is : total ≡ ((factor *ℤ value) +ℤ others)

-- the first argument ends at the position, so many letters lie between, and the second one ends at `last`
pub record HasTotalThrough (p : PosedProblem) (HasScore : Cell → ℤ → Type 0) (first : Arg) (middle : List Arg)
    (second : Arg) (first_factor : ℤ) (middle_factors : List ℤ) (second_factor : ℤ) (from letters last position : ℕ)
    (total : ℤ) : Type 0 where
  pub value : ℤ
  pub is_value : IsValue p HasScore (on_span first from position) value
  pub between : ℤ
  pub has_between : HasTotal p HasScore middle middle_factors position (position + letters) between
  pub other : ℤ
  pub is_other : IsValue p HasScore (on_span second (position + letters) last) other
  pub is : total ≡ (((first_factor *ℤ value) +ℤ between) +ℤ (second_factor *ℤ other))

-- the arguments of an opened line up to its second one of open length have this total where the boundary stands at the
-- position
abbrev pub HasLineTotal : PosedProblem → OpenedLine → ℕ → ℤ → Type 0
HasLineTotal p line position = HasTotalThrough p (HasBestScore p) line.arguments.first.now line.arguments.middle.now
    line.arguments.second.now line.arguments.first_factor line.arguments.middle_factors.now
    line.arguments.second_factor line.from line.boundary.letters line.boundary.last position
