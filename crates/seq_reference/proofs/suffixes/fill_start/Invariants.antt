use Rattle.std.proofs.Common.{◌-◌}
use Rattle.row_scores.specs.Sweeps.{IsBeforeRow}
use Rattle.seq_reference.specs.Filling.{AreFilled}
use Rattle.seq_reference.proofs.suffixes.fill_start.Given as goal

abbrev pub invariant-loop-number : goal.invariant-loop-number
invariant-loop-number l = AreFilled l.lines l.scores (IsBeforeRow l.visits.order l.from l.least)

abbrev pub decreases-loop-number : goal.decreases-loop-number
decreases-loop-number l = 129 - l.least
