-- What is told of the steps of a trace.
use Rattle.std.specs.Prelude.{ℕ, Bool, true, false, Option, Some, None, List, map}
use Rattle.step_traces.specs.declared.trace.TracedStep.{TracedStep}

abbrev pub machine_of : TracedStep → ℕ
machine_of step = step.machine

-- the machines that made the steps; none are told where a step was lost
abbrev pub told : Bool → List TracedStep → Option (List ℕ)
told true steps = None
told false steps = Some (map machine_of steps)
