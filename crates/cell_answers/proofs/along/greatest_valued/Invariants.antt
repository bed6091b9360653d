use Rattle.std.proofs.Common.{get_or}
use Rattle.cell_answers.specs.Through.{HasLineTotal}
use Rattle.score_numbers.specs.Greatest.{IsGreatestOf}
use Rattle.cell_answers.proofs.Greatest.{HasBefore}
use Rattle.cell_answers.proofs.along.greatest_valued.Given as goal

-- the greatest of the totals through the first positions
abbrev pub invariant-loop-position : goal.invariant-loop-position
invariant-loop-position l =
    IsGreatestOf (HasBefore (λ number. HasLineTotal l.lines l.line (get_or l.line.boundary.positions.now number 0)) l.position-index) l.greatest
