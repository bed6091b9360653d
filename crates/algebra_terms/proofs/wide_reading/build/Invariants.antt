use Rattle.std.proofs.Common.{◌≡◌, [], drop}
use Rattle.algebra_terms.specs.WideSteps.{steps_seen}
use Rattle.algebra_terms.specs.WideReading.{built_on, forms_seen}
use Rattle.algebra_terms.proofs.wide_reading.build.Given as goal

abbrev pub invariant-loop-step : goal.invariant-loop-step
invariant-loop-step l = built_on l.vars (forms_seen l.pile) (steps_seen (drop l.step-index l.steps)) ≡ built_on l.vars [] (steps_seen l.steps)
