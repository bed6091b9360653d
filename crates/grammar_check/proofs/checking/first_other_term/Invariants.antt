use Rattle.std.proofs.Common.{ℕ, ◌<◌}
use Rattle.adp_model.specs.GrammarSigns.{HasMonotoneTerm}
use Rattle.grammar_check.proofs.checking.first_other_term.Given as goal

abbrev pub invariant-loop-sign : goal.invariant-loop-sign
invariant-loop-sign l = (other : ℕ) → other < l.sign → HasMonotoneTerm l.grammar l.algebra other
