use Rattle.cell_demands.specs.Rows.{IsRoomFor}
use Rattle.seq_reference.specs.Sweeping.{AreSweptInRows, IsBehindRow}
use Rattle.seq_reference.proofs.row_marks.settle_rows.Given as goal

abbrev pub invariant-loop-number : goal.invariant-loop-number
invariant-loop-number l = record {
  room : IsRoomFor l.lines l.room;
  swept : AreSweptInRows l.lines l.marks (IsBehindRow l.order l.from l.number);
}
