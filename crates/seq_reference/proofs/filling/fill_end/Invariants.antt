use Rattle.seq_reference.specs.Filling.{AreFilled, IsFilledFrom}
use Rattle.seq_reference.proofs.filling.fill_end.Given as goal

abbrev pub invariant-loop-from : goal.invariant-loop-from
invariant-loop-from l = AreFilled l.lines l.scores (IsFilledFrom l.first l.past l.to l.from)
