use Rattle.cell_tables.proofs.GatheredMarks.{AreGathered}
use Rattle.cell_tables.proofs.marks.Marks.gather.Given as goal

abbrev pub invariant-loop-rule : goal.invariant-loop-rule
invariant-loop-rule l = AreGathered l.initial.self l.self l.from l.rule
