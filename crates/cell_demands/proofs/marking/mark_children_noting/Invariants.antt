use Rattle.std.proofs.Common.{◌-◌, ◌≤◌, length}
use Rattle.cell_tables.specs.Marks.{AreMarkedFrom}
use Rattle.cell_demands.specs.TailNotes.{AreTrue}
use Rattle.cell_demands.proofs.LineDemands.{DemandsByFirst}
use Rattle.cell_demands.proofs.marking.mark_children_noting.Given as goal

abbrev pub invariant-loop-number : goal.invariant-loop-number
invariant-loop-number l = record {
  within : l.number ≤ length l.candidates.alternatives.now;
  marked : AreMarkedFrom l.cell.from l.initial.marks l.marks (DemandsByFirst l.lines l.cell l.number);
  noted : AreTrue l.lines l.marks l.tails;
}

abbrev pub decreases-loop-number : goal.decreases-loop-number
decreases-loop-number l = length l.candidates.alternatives.now - l.number
