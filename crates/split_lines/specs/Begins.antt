-- Where an argument may begin.
use Rattle.std.specs.Prelude.{ℕ, ◌+◌, ◌<◌, ◌≤◌, ◌↔◌}
use Rattle.std.specs.declared.ops.Range.{Range}
use Rattle.adp_model.specs.declared.grammar.Arg.{Arg}
use Rattle.adp_model.specs.PosedProblem.{PosedProblem}
use Rattle.adp_model.specs.Splits.{FitsSpan}
use Rattle.viable_splits.specs.Placing.{on_span}

-- the range has the positions, from `first` on, at which the argument may begin that ends at `to`
pub record AreStarts (p : PosedProblem) (argument : Arg) (first to : ℕ) (starts : Range ℕ) : Type 0 where
  pub exact : (from : ℕ) → first ≤ from
      → FitsSpan p (on_span argument from to) ↔ ((starts.start ≤ from) × (from < starts.end))
  pub from_first : first ≤ starts.start
  pub before : starts.end ≤ to + 1
