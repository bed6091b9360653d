use Rattle.std.proofs.Common.{◌≡◌, map, length, is_some}
use Rattle.std.specs.List.{All}
use Rattle.job_texts.specs.TermParts.{further_parts, parts_of}
use Rattle.algebra_terms.specs.Tokens.{said, IsIn}
use Rattle.algebra_terms.proofs.part.is_term.Given as goal

abbrev pub invariant-loop-after : goal.invariant-loop-after
invariant-loop-after l = record {
  read : is_some (further_parts (map (said l.line) l.rest)) ≡ is_some (parts_of (map (said l.line) l.tokens));
  within : All (IsIn l.line) l.rest;
}

abbrev pub decreases-loop-after : goal.decreases-loop-after
decreases-loop-after l = length l.rest
