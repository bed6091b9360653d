use Rattle.argument_search.specs.Skipping.{AreNotedBefore}
use Rattle.argument_search.proofs.skipping.are_noted_before.Given as goal

abbrev pub invariant-loop-number : goal.invariant-loop-number
invariant-loop-number g l = record {
  noted : AreNotedBefore l.problem (g.N.NotedCells.is_noted l.noted) l.cell l.at l.number;
}
