use Rattle.row_scores.specs.RowRules.{IsClearRoom, numbers_of}
use Rattle.row_scores.specs.Sweeps.{AreFilled, IsBeforeRow}
use Rattle.row_scores.proofs.sweep.fill_start.Given as goal

-- the rows so far are filled
abbrev pub invariant-loop-rule : goal.invariant-loop-rule
invariant-loop-rule g l = record {
  clear : IsClearRoom l.fn.lines g.N.RowNumber.width l.room;
  filled : AreFilled g.N.RowNumber.width g.N.RowNumber.value l.fn.lines l.table (IsBeforeRow (numbers_of l.fn.rules) l.from l.rule-index);
}
