use Rattle.std.proofs.Common.{◌≡◌, ◌+◌, ◌-◌, ◌^◌, ◌<◌, min, length}
use Rattle.grammar_check.specs.Plans.{rooms}
use Rattle.grammar_check.proofs.letter_alternative.rooms.Given as goal

abbrev pub invariant-loop-first : goal.invariant-loop-first
invariant-loop-first l = record {
  fits : l.total < 2 ^ 64;
  total : min (l.total + rooms l.rest) (2 ^ 64 - 1) ≡ min (rooms l.parts) (2 ^ 64 - 1);
}

abbrev pub decreases-loop-first : goal.decreases-loop-first
decreases-loop-first l = length l.rest
