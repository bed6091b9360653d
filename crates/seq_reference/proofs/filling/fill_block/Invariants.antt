use Rattle.std.proofs.Common.{◌+◌, ◌-◌, length}
use Rattle.seq_reference.specs.Filling.{AreFilled, IsFilledBefore}
use Rattle.seq_reference.proofs.filling.fill_block.Given as goal

abbrev pub invariant-loop-to : goal.invariant-loop-to
invariant-loop-to l = AreFilled l.lines l.scores (IsFilledBefore l.first l.past l.least)

abbrev pub decreases-loop-to : goal.decreases-loop-to
decreases-loop-to l = length l.lines.word + 1 - l.least
