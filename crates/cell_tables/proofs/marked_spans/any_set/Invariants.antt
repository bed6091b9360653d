use Rattle.std.proofs.Common.{take}
use Rattle.cell_tables.proofs.SetSpans.{AreAnySet}
use Rattle.cell_tables.proofs.marked_spans.any_set.Given as goal

abbrev pub invariant-loop-rule : goal.invariant-loop-rule
invariant-loop-rule l = AreAnySet l.spans l.near l.number (take l.rule-index l.rules) l.bits
