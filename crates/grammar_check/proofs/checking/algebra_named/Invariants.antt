use Rattle.std.proofs.Common.{ℕ, ◌<◌}
use Rattle.adp_model.specs.GrammarFaults.{IsNamed}
use Rattle.grammar_check.proofs.checking.algebra_named.Given as goal

abbrev pub invariant-loop-number : goal.invariant-loop-number
invariant-loop-number l = (other : ℕ) → other < l.number → IsNamed l.grammar l.name other → ⊥
