use Rattle.std.proofs.Common.{◌≡◌, length}
use Rattle.yield_sizes.specs.ArgumentTests.{is_empty_but}
use Rattle.yield_sizes.proofs.argument_tests.is_empty_but.Given as goal

abbrev pub invariant-loop-first : goal.invariant-loop-first
invariant-loop-first l = is_empty_but l.least l.rule l.arguments ≡ is_empty_but l.least l.rule l.rest

abbrev pub decreases-loop-first : goal.decreases-loop-first
decreases-loop-first l = length l.rest
