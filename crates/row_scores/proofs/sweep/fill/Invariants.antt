use Rattle.row_scores.specs.RowRules.{IsClearRoom}
use Rattle.row_scores.specs.Sweeps.{AreFilled, IsFromStart}
use Rattle.row_scores.proofs.sweep.fill.Given as goal

-- the starts so far are filled
abbrev pub invariant-loop-from : goal.invariant-loop-from
invariant-loop-from g l = record {
  clear : IsClearRoom l.fn.lines g.N.RowNumber.width l.room;
  filled : AreFilled g.N.RowNumber.width g.N.RowNumber.value l.fn.lines l.table (IsFromStart l.from);
}
