use Rattle.std.proofs.Common.{◌≡◌, ◌+◌, ◌≤◌, drop, length}
use Rattle.algebra_terms.specs.WideSteps.{steps_seen}
use Rattle.algebra_terms.specs.WideReading.{words_of}
use Rattle.algebra_terms.proofs.wide_reading.leaf_count.Given as goal

abbrev pub invariant-loop-step : goal.invariant-loop-step
invariant-loop-step l = record {
  counted : l.leaves + length (words_of (steps_seen (drop l.step-index l.steps))) ≡ length (words_of (steps_seen l.steps));
  few : l.leaves ≤ l.step-index;
}
