use Rattle.std.proofs.Common.{ℕ, ◌<◌}
use Rattle.lex_product.specs.PairFaults.{BothAddScores}
use Rattle.lex_product.proofs.checking.first_other_factor.Given as goal

abbrev pub invariant-loop-sign : goal.invariant-loop-sign
invariant-loop-sign l = (other : ℕ) → other < l.sign → BothAddScores l.grammar l.first l.second other
