use Rattle.std.proofs.Common.{◌-◌, ◌<◌, ◌≤◌}
use Rattle.cell_demands.specs.PlaceBits.{HasBit, HaveBitsToo}
use Rattle.cell_demands.specs.Rows.{AreMarkedInRows, GoesOn, IsAmong, IsBetween}
use Rattle.cell_demands.proofs.RowMarks.{IsBefore}
use Rattle.cell_demands.proofs.rows.mark_between.Given as goal

abbrev pub invariant-loop-from : goal.invariant-loop-from
invariant-loop-from l = record {
  from_first : l.reached.first ≤ l.from;
  within : l.from ≤ l.reached.past;
  set : l.from < l.reached.past → HasBit l.reached.bits.now l.from;
  leads : HaveBitsToo l.initial.leads l.leads
      (λ at. IsBefore l.reached l.from at × GoesOn l.lines l.argument (IsAmong l.behind) at);
  marked : AreMarkedInRows l.initial.marks l.marks
      (IsBetween l.lines l.argument (IsBefore l.reached l.from) (IsAmong l.behind));
}

abbrev pub decreases-loop-from : goal.decreases-loop-from
decreases-loop-from l = l.reached.past - l.from
