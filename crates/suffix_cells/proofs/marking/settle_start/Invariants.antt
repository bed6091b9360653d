use Rattle.std.proofs.Common.{◌≡◌}
use Rattle.suffix_cells.specs.Sweeping.{AreSwept, IsBeforeNumber}
use Rattle.suffix_cells.proofs.marking.settle_start.Given as goal

abbrev pub invariant-loop-number : goal.invariant-loop-number
invariant-loop-number l = record {
  order : l.visits.order ≡ l.initial.visits.order;
  swept : AreSwept l.lines l.visits.marks (IsBeforeNumber l.initial.visits.order l.from l.below);
}

abbrev pub decreases-loop-number : goal.decreases-loop-number
decreases-loop-number l = l.below
