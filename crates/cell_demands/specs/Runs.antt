-- Runs of ends of an argument, with others behind it.
use Rattle.std.specs.Prelude.{◌⊎◌, ℕ, ◌<◌, ◌≤◌, List}
use Rattle.adp_model.specs.declared.cell.Cell.{Cell}
use Rattle.adp_model.specs.declared.grammar.Arg.{Arg}
use Rattle.adp_model.specs.PosedProblem.{PosedProblem}
use Rattle.adp_model.specs.Splits.{FitsSpan}
use Rattle.viable_splits.specs.Placing.{on_span, Cover}
use Rattle.split_lines.specs.Laid.{Demands, IsCellOf}

-- the argument may end at a place from `low` on and before `high`, so that the others have the letters behind it
abbrev pub CoversBelow : PosedProblem → Arg → List Arg → ℕ → ℕ → ℕ → ℕ → Type 0
CoversBelow p argument others from to low high =
    (end : ℕ) × (low ≤ end) × (end < high) × FitsSpan p (on_span argument from end) × Cover p others end to

-- so that they demand the cell
abbrev pub DemandsBelow : PosedProblem → Arg → List Arg → ℕ → ℕ → ℕ → ℕ → Cell → Type 0
DemandsBelow p argument others from to low high cell =
    (end : ℕ) × (low ≤ end) × (end < high) × FitsSpan p (on_span argument from end)
    × ((IsCellOf argument from end cell × Cover p others end to) ⊎ Demands p others end to cell)
