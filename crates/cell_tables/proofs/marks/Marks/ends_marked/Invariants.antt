use Rattle.std.proofs.Common.{◌<◌, ◌≤◌}
use Rattle.cell_tables.proofs.SpanWalks.{AreEndsMarked}
use Rattle.cell_tables.proofs.marks.Marks.ends_marked.Given as goal

-- where there is no start the loop ends where it began
abbrev pub invariant-loop-from : goal.invariant-loop-from
invariant-loop-from l = record {
  no_start : l.past < l.first → l.from ≤ l.first;
  told : AreEndsMarked l.self l.rules l.first l.number l.from l.bits;
}
