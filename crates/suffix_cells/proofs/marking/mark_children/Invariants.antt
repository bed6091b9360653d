use Rattle.std.proofs.Common.{◌≡◌, ◌-◌, ◌≤◌, length}
use Rattle.cell_demands.specs.Rows.{AreMarkedInRows}
use Rattle.cell_demands.proofs.LineDemands.{DemandsByFirst}
use Rattle.suffix_cells.proofs.marking.mark_children.Given as goal

abbrev pub invariant-loop-number : goal.invariant-loop-number
invariant-loop-number l = record {
  within : l.number ≤ length l.candidates.alternatives.now;
  marked : AreMarkedInRows l.initial.visits.marks l.visits.marks (DemandsByFirst l.lines l.cell l.number);
  order : l.visits.order ≡ l.initial.visits.order;
}

abbrev pub decreases-loop-number : goal.decreases-loop-number
decreases-loop-number l = length l.candidates.alternatives.now - l.number
