use Rattle.std.proofs.Common.{◌≡◌, ◌++◌, length}
use Rattle.grammar_check.specs.Plans.{open_parts}
use Rattle.grammar_check.proofs.part.open_parts.Given as goal

abbrev pub invariant-loop-first : goal.invariant-loop-first
invariant-loop-first l = l.kept.items ++ open_parts l.rest ≡ open_parts l.parts

abbrev pub decreases-loop-first : goal.decreases-loop-first
decreases-loop-first l = length l.rest
