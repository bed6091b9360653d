use Rattle.std.proofs.Common.{◌≡◌, length}
use Rattle.grammar_check.proofs.part.is_same_list.Given as goal

abbrev pub invariant-loop-first : goal.invariant-loop-first
invariant-loop-first l = l.rest ≡ l.other_rest → l.parts ≡ l.others

abbrev pub decreases-loop-first : goal.decreases-loop-first
decreases-loop-first l = length l.rest
