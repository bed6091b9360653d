use Rattle.std.proofs.Common.{ℕ, ◌<◌}
use Rattle.adp_model.specs.GrammarFaults.{HasPossibleAlternatives}
use Rattle.yield_sizes.proofs.possible.first_impossible.Given as goal

abbrev pub invariant-loop-number : goal.invariant-loop-number
invariant-loop-number l = (rule : ℕ) → rule < l.number → HasPossibleAlternatives l.grammar rule
