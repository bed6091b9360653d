use Rattle.std.proofs.Common.{◌≡◌, ◌+◌, ◌^◌, ◌≤◌, length}
use Rattle.adp_model.specs.LimitFaults.{told}
use Rattle.grammar_check.specs.LetterSteps.{taken}
use Rattle.grammar_check.proofs.letter_alternative.taken.Given as goal

abbrev pub invariant-loop-first : goal.invariant-loop-first
invariant-loop-first l = record {
  low : l.total ≤ 2 ^ 63;
  total : told (l.total + taken l.rest l.left) ≡ told (taken l.steps l.spare);
}

abbrev pub decreases-loop-first : goal.decreases-loop-first
decreases-loop-first l = length l.rest
