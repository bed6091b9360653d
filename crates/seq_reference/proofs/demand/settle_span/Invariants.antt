use Rattle.seq_reference.specs.Sweeping.{AreGathered, AreSwept, IsBeforeRule}
use Rattle.seq_reference.proofs.demand.settle_span.Given as goal

abbrev pub invariant-loop-number : goal.invariant-loop-number
invariant-loop-number l = record {
  gathered : AreGathered l.marks l.from;
  swept : AreSwept l.lines l.marks (IsBeforeRule l.rules l.from l.to l.number);
}
