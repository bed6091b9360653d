use Rattle.std.proofs.Common.{◌≡◌, map, length}
use Rattle.std.specs.List.{All}
use Rattle.job_texts.specs.TermParts.{further_parts, parts_of}
use Rattle.algebra_terms.specs.Tokens.{said, IsIn}
use Rattle.algebra_terms.specs.Reading.{part_of}
use Rattle.algebra_terms.proofs.PartLists.{with_front}
use Rattle.algebra_terms.proofs.part.read_parts.Given as goal

-- the parts that are read, and those of what is left
abbrev pub invariant-loop-parts : goal.invariant-loop-parts
invariant-loop-parts l = record {
  read : with_front (map part_of l.parts.items) (further_parts (map (said l.line) l.rest)) ≡ parts_of (map (said l.line) l.tokens);
  within : All (IsIn l.line) l.rest;
}

abbrev pub decreases-loop-parts : goal.decreases-loop-parts
decreases-loop-parts l = length l.rest
