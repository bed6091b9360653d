use Rattle.seq_reference.specs.Sweeping.{AreSwept, IsBeforeStart}
use Rattle.seq_reference.proofs.demand.marks_by_cells.Given as goal

abbrev pub invariant-loop-from : goal.invariant-loop-from
invariant-loop-from l = AreSwept l.lines l.marks (IsBeforeStart l.from)
