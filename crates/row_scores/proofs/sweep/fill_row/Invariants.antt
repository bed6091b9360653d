use Rattle.row_scores.specs.RowRules.{IsRoom, IsRowOf}
use Rattle.row_scores.proofs.RowSweeps.{AreEndsFilled}
use Rattle.row_scores.proofs.sweep.fill_row.Given as goal

-- the row of the alternatives so far
abbrev pub invariant-loop-alternative : goal.invariant-loop-alternative
invariant-loop-alternative g l = record {
  is_room : IsRoom l.fn.lines g.N.RowNumber.width l.room;
  row : IsRowOf l.fn.lines g.N.RowNumber.width l.fn.rule.rule l.from l.alternative-index l.room.row;
}

abbrev pub invariant-loop-to : goal.invariant-loop-to
invariant-loop-to g l = AreEndsFilled g.N.RowNumber.width g.N.RowNumber.value l.fn.lines l.fn.rule.rule l.from l.fn.table l.table l.to
