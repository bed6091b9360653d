use Rattle.cell_demands.specs.Rows.{IsRoomFor}
use Rattle.seq_reference.specs.Sweeping.{AreSweptInRows, IsBeforeStart}
use Rattle.seq_reference.proofs.row_marks.marks_by_rows.Given as goal

abbrev pub invariant-loop-from : goal.invariant-loop-from
invariant-loop-from l = record {
  room : IsRoomFor l.lines l.room;
  swept : AreSweptInRows l.lines l.marks (IsBeforeStart l.from);
}
