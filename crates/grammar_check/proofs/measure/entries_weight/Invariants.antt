use Rattle.std.proofs.Common.{◌≡◌, max, length}
use Rattle.adp_model.specs.Bounds.{greatest_weight}
use Rattle.grammar_check.proofs.measure.entries_weight.Given as goal

abbrev pub invariant-loop-first : goal.invariant-loop-first
invariant-loop-first l = max l.greatest (greatest_weight l.rest) ≡ greatest_weight l.entries

abbrev pub decreases-loop-first : goal.decreases-loop-first
decreases-loop-first l = length l.rest
