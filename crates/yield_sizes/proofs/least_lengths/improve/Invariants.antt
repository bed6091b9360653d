use Rattle.yield_sizes.proofs.LeastLengths.{IsRound}
use Rattle.yield_sizes.proofs.least_lengths.improve.Given as goal

abbrev pub invariant-loop-number : goal.invariant-loop-number
invariant-loop-number l = IsRound l.grammar 4294967295 l.initial.known l.known l.number l.fell
