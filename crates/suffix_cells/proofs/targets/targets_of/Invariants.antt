use Rattle.std.proofs.Common.{◌≡◌, length}
use Rattle.suffix_cells.specs.Targets.{AreTargets}
use Rattle.suffix_cells.proofs.targets.targets_of.Given as goal

abbrev pub invariant-loop-number : goal.invariant-loop-number
invariant-loop-number l = record {
  each : length l.targets.items ≡ l.number;
  are : AreTargets l.lines l.visits.order l.targets.items;
}
