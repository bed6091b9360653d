use Rattle.std.proofs.Common.{◌↔◌, ◌+◌, ◌-◌, ◌*◌, ◌≤◌, IsTrue, length}
use Rattle.cell_tables.specs.Marks.{AreMarkedFrom}
use Rattle.cell_demands.specs.Runs.{CoversBelow, DemandsBelow}
use Rattle.cell_demands.specs.TailNotes.{AreTrue}
use Rattle.cell_demands.proofs.marking.+arguments.Given as goal

abbrev pub decreases-mark_arguments : goal.decreases-mark_arguments
decreases-mark_arguments l = 3 * length l.arguments.now

abbrev pub decreases-mark_tail : goal.decreases-mark_tail
decreases-mark_tail l = 3 * length l.arguments.now + 1

abbrev pub decreases-mark_by_ends : goal.decreases-mark_by_ends
decreases-mark_by_ends l = 3 * length l.others.now + 2

abbrev pub invariant-mark_by_ends-loop-end : goal.invariant-mark_by_ends-loop-end
invariant-mark_by_ends-loop-end l = record {
  above : l.ends.start ≤ l.end;
  laid : IsTrue l.is_laid ↔ CoversBelow l.lines l.argument l.others l.from l.to l.ends.start l.end;
  marked : AreMarkedFrom l.begin l.fn.marks l.marks
      (DemandsBelow l.lines l.argument l.others l.from l.to l.ends.start l.end);
  noted : AreTrue l.lines l.marks l.tails;
}

abbrev pub decreases-mark_by_ends-loop-end : goal.decreases-mark_by_ends-loop-end
decreases-mark_by_ends-loop-end l = l.ends.end - l.end
