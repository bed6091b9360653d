use Rattle.row_scores.specs.RowNumbers.{IsInRow}
use Rattle.row_scores.proofs.StepLoops.{IsStepped}
use Rattle.row_scores.proofs.steps.step.Given as goal

-- raised by the steps from the positions before this one
abbrev pub invariant-loop-position : goal.invariant-loop-position
invariant-loop-position g l =
    IsStepped l.fn.known.lines.now g.N.RowNumber.width (IsInRow g.N.RowNumber.value l.fn.known.table.now) l.fn.argument l.fn.factor l.fn.reached
    l.fn.next l.next l.position
