use Rattle.std.proofs.Common.{◌≡◌, length}
use Rattle.grammar_check.specs.LetterSteps.{are_letters}
use Rattle.grammar_check.proofs.part.are_letters.Given as goal

abbrev pub invariant-loop-first : goal.invariant-loop-first
invariant-loop-first l = record {
  letters : are_letters l.rest ≡ are_letters l.parts;
}

abbrev pub decreases-loop-first : goal.decreases-loop-first
decreases-loop-first l = length l.rest
