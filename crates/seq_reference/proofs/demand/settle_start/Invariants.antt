use Rattle.seq_reference.specs.Sweeping.{AreGathered, AreSwept, IsBeforeEnd}
use Rattle.seq_reference.proofs.demand.settle_start.Given as goal

abbrev pub invariant-loop-to : goal.invariant-loop-to
invariant-loop-to l = record {
  gathered : AreGathered l.marks l.from;
  swept : AreSwept l.lines l.marks (IsBeforeEnd l.from l.behind);
}

abbrev pub decreases-loop-to : goal.decreases-loop-to
decreases-loop-to l = l.behind
