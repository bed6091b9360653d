use Rattle.seq_reference.specs.Filling.{AreFilled, AreKept, IsFilledBeforeRule}
use Rattle.seq_reference.proofs.filling.fill_span.Given as goal

abbrev pub invariant-loop-rule : goal.invariant-loop-rule
invariant-loop-rule l = record {
  filled : AreFilled l.lines l.scores (IsFilledBeforeRule l.rules l.from l.to l.rule-index);
  kept : AreKept l.fn.scores l.scores;
}
