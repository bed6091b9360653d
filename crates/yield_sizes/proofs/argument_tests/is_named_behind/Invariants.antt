use Rattle.std.proofs.Common.{◌≡◌, length}
use Rattle.yield_sizes.specs.ArgumentTests.{is_named_behind}
use Rattle.yield_sizes.proofs.argument_tests.is_named_behind.Given as goal

abbrev pub invariant-loop-first : goal.invariant-loop-first
invariant-loop-first l = is_named_behind l.greatest l.rule l.arguments ≡ is_named_behind l.greatest l.rule l.rest

abbrev pub decreases-loop-first : goal.decreases-loop-first
decreases-loop-first l = length l.rest
