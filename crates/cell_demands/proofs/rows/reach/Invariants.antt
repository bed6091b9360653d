use Rattle.std.proofs.Common.{◌-◌, ◌<◌, ◌≤◌}
use Rattle.cell_demands.specs.PlaceBits.{HasBit, HaveBitsToo}
use Rattle.cell_demands.specs.Rows.{IsReachedBy}
use Rattle.cell_demands.proofs.RowMarks.{IsBefore}
use Rattle.cell_demands.proofs.rows.reach.Given as goal

abbrev pub invariant-loop-from : goal.invariant-loop-from
invariant-loop-from l = record {
  from_first : l.reached.first ≤ l.from;
  within : l.from ≤ l.reached.past;
  set : l.from < l.reached.past → HasBit l.reached.bits.now l.from;
  ends : HaveBitsToo l.initial.next l.next (IsReachedBy l.lines l.argument (IsBefore l.reached l.from));
}

abbrev pub decreases-loop-from : goal.decreases-loop-from
decreases-loop-from l = l.reached.past - l.from
