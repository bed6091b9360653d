use Rattle.std.proofs.Common.{◌≡◌}
use Rattle.suffix_cells.specs.Sweeping.{AreSwept, IsBeforeStart}
use Rattle.suffix_cells.proofs.marking.mark_suffixes.Given as goal

abbrev pub invariant-loop-from : goal.invariant-loop-from
invariant-loop-from l = record {
  order : l.visits.order ≡ l.initial.visits.order;
  swept : AreSwept l.lines l.visits.marks (IsBeforeStart l.from);
}
