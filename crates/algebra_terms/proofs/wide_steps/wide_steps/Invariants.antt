use Rattle.std.proofs.Common.{◌≡◌, map, length}
use Rattle.std.specs.List.{All}
use Rattle.algebra_terms.specs.Tokens.{said, IsIn}
use Rattle.algebra_terms.specs.WideSteps.{at_start, read_on, reading_seen}
use Rattle.algebra_terms.proofs.wide_steps.wide_steps.Given as goal

abbrev pub invariant-tokens : goal.invariant-tokens
invariant-tokens l = record {
  read : read_on (reading_seen l.reader) (map (said l.line) l.rest) ≡ read_on at_start (map (said l.line) l.tokens);
  within : All (IsIn l.line) l.rest;
}

abbrev pub decreases-tokens : goal.decreases-tokens
decreases-tokens l = length l.rest
