use Rattle.std.proofs.Common.{◌≡◌, drop}
use Rattle.grammar_check.specs.LetterSteps.{steps_of}
use Rattle.grammar_check.proofs.letter_alternative.steps_of.Given as goal

abbrev pub invariant-loop-number : goal.invariant-loop-number
invariant-loop-number l = record {
  steps : l.steps.items ≡ steps_of (drop l.number l.parts);
}
