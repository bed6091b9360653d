use Rattle.std.proofs.Common.{◌≡◌, ◌+◌, ◌^◌, ◌≤◌, length}
use Rattle.adp_model.specs.LimitFaults.{told}
use Rattle.grammar_check.specs.LetterSteps.{least_worth}
use Rattle.grammar_check.proofs.letter_alternative.least_worth.Given as goal

abbrev pub invariant-loop-first : goal.invariant-loop-first
invariant-loop-first l = record {
  low : l.total ≤ 2 ^ 63;
  total : told (l.total + least_worth l.rest) ≡ told (least_worth l.parts);
}

abbrev pub decreases-loop-first : goal.decreases-loop-first
decreases-loop-first l = length l.rest
