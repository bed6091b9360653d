use Rattle.seq_reference.specs.Filling.{AreFilled, IsFromStart}
use Rattle.seq_reference.proofs.suffixes.visited_scores.Given as goal

abbrev pub invariant-loop-from : goal.invariant-loop-from
invariant-loop-from l = AreFilled l.lines l.scores (IsFromStart l.from)
