use Rattle.std.proofs.Common.{◌↔◌, drop}
use Rattle.lex_product.specs.PairFaults.{HaveUnitScores}
use Rattle.lex_product.proofs.checking.have_unit_scores.Given as goal

-- what is left decides
abbrev pub invariant-loop-place : goal.invariant-loop-place
invariant-loop-place l = HaveUnitScores l.factors l.kinds ↔ HaveUnitScores (drop l.place l.factors) (drop l.place l.kinds)
