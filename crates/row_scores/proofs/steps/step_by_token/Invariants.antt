use Rattle.row_scores.specs.RowNumbers.{IsInRow}
use Rattle.row_scores.proofs.TokenSteps.{IsStepped}
use Rattle.row_scores.proofs.steps.step_by_token.Given as goal

-- raised by the steps to the ends before this one
abbrev pub invariant-loop-end : goal.invariant-loop-end
invariant-loop-end g l =
    IsStepped l.fn.known.lines.now g.N.RowNumber.width (IsInRow g.N.RowNumber.value l.fn.known.table.now) l.fn.token l.fn.factor l.fn.position
    (g.N.RowNumber.value l.fn.number) l.fn.next l.next l.end
