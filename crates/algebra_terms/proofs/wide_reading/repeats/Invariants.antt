use Rattle.std.proofs.Common.{◌≡◌, length}
use Rattle.algebra_terms.specs.WideSteps.{steps_seen}
use Rattle.algebra_terms.specs.WideReading.{repeats}
use Rattle.algebra_terms.proofs.wide_reading.repeats.Given as goal

abbrev pub invariant-loop-rest : goal.invariant-loop-rest
invariant-loop-rest l = repeats (steps_seen l.rest) ≡ repeats (steps_seen l.steps)

abbrev pub decreases-loop-rest : goal.decreases-loop-rest
decreases-loop-rest l = length l.rest
