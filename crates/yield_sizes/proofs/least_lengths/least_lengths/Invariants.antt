use Rattle.yield_sizes.specs.KnownLengths.{AreLengths, fall_left}
use Rattle.yield_sizes.proofs.least_lengths.least_lengths.Given as goal

abbrev pub invariant-loop : goal.invariant-loop
invariant-loop l = AreLengths l.grammar 4294967295 l.known.items

abbrev pub decreases-loop : goal.decreases-loop
decreases-loop l = fall_left 4294967295 l.known.items
