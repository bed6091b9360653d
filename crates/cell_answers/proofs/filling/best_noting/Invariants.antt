use Rattle.std.proofs.Common.{◌≡◌, ◌-◌, ◌≤◌, length}
use Rattle.cell_answers.specs.CellBest.{IsBestOfFirst}
use Rattle.cell_answers.proofs.filling.best_noting.Given as goal

-- the best of what the first alternatives give
abbrev pub invariant-loop-number : goal.invariant-loop-number
invariant-loop-number l = record {
  within : l.number ≤ length l.candidates.alternatives.now;
  same : l.tails ≡ l.lines;
  best : IsBestOfFirst l.lines l.cell l.number l.best;
}

abbrev pub decreases-loop-number : goal.decreases-loop-number
decreases-loop-number l = length l.candidates.alternatives.now - l.number
