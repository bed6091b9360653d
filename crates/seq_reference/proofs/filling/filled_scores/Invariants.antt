use Rattle.std.proofs.Common.{◌*◌}
use Rattle.seq_reference.specs.declared.filling.TheConstants.{BLOCK}
use Rattle.seq_reference.specs.Filling.{AreFilled, IsFromStart}
use Rattle.seq_reference.proofs.filling.filled_scores.Given as goal

abbrev pub invariant-loop-block : goal.invariant-loop-block
invariant-loop-block l = AreFilled l.lines l.scores (IsFromStart (l.block * BLOCK))
