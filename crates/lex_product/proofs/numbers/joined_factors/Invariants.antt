use Rattle.std.proofs.Common.{◌≡◌, ◌≤◌, ◌++◌, drop}
use Rattle.adp_model.specs.ProblemFields.{greatest_score}
use Rattle.lex_product.specs.CompiledTerms.{joined_factors}
use Rattle.lex_product.specs.CompiledGrammar.{greatest_factor}
use Rattle.lex_product.proofs.numbers.joined_factors.Given as goal

-- with what is left they are the factors, and what is left is low
abbrev pub invariant-loop-place : goal.invariant-loop-place
invariant-loop-place l = record {
  joined : l.joined.items ++ joined_factors l.joining.multiplier l.joining.same (drop l.place l.kinds) (drop l.place l.factors) (drop l.place l.others)
      ≡ joined_factors l.joining.multiplier l.joining.same l.kinds l.factors l.others;
  low : greatest_factor l.joining.multiplier l.joining.same (drop l.place l.kinds) (drop l.place l.factors) (drop l.place l.others) ≤ greatest_score;
}
