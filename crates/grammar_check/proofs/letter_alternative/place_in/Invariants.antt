use Rattle.std.proofs.Common.{◌≡◌, ◌+◌, length}
use Rattle.grammar_check.specs.LetterSteps.{place_in}
use Rattle.grammar_check.proofs.letter_alternative.place_in.Given as goal

abbrev pub invariant-loop-first : goal.invariant-loop-first
invariant-loop-first l = record {
  place : l.place + place_in l.rest l.worth ≡ place_in l.steps l.worth;
  count : l.place + length l.rest ≡ length l.steps;
}

abbrev pub decreases-loop-first : goal.decreases-loop-first
decreases-loop-first l = length l.rest
