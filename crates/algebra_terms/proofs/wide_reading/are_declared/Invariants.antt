use Rattle.std.proofs.Common.{◌≡◌, drop}
use Rattle.std.specs.List.{list_all}
use Rattle.algebra_terms.specs.WideSteps.{steps_seen}
use Rattle.algebra_terms.specs.WideReading.{is_declared}
use Rattle.algebra_terms.proofs.wide_reading.are_declared.Given as goal

abbrev pub invariant-loop-step : goal.invariant-loop-step
invariant-loop-step l = list_all (is_declared l.vars) (steps_seen (drop l.step-index l.steps)) ≡ list_all (is_declared l.vars) (steps_seen l.steps)
