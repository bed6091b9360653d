use Rattle.std.proofs.Common.{[]}
use Rattle.yield_sizes.specs.KnownGreatest.{AreRising, work_left}
use Rattle.yield_sizes.proofs.greatest_lengths.greatest_lengths.Given as goal

abbrev pub invariant-loop : goal.invariant-loop
invariant-loop l = AreRising l.grammar [] l.known.items l.risen.items

abbrev pub decreases-loop : goal.decreases-loop
decreases-loop l = work_left l.known.items l.risen.items
