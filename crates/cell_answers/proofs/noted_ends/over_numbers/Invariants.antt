use Rattle.std.proofs.Common.{◌+◌}
use Rattle.cell_answers.specs.NotedEnds.{HasTotalBefore}
use Rattle.score_numbers.specs.Greatest.{IsGreatestOf}
use Rattle.cell_answers.proofs.noted_ends.over_numbers.Given as goal

-- the greatest of the totals whose first argument ends before this position
abbrev pub invariant-loop-number : goal.invariant-loop-number
invariant-loop-number g l =
    IsGreatestOf (HasTotalBefore l.lines l.laid (l.reached.end + l.number)) l.greatest
