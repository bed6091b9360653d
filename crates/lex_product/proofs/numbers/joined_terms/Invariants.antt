use Rattle.std.proofs.Common.{◌≡◌, ◌≤◌, ◌++◌, drop}
use Rattle.adp_model.specs.ProblemFields.{greatest_score}
use Rattle.lex_product.specs.CompiledTerms.{joined_terms}
use Rattle.lex_product.specs.CompiledGrammar.{greatest_number}
use Rattle.lex_product.proofs.numbers.joined_terms.Given as goal

-- with what is left they are the terms, and what is left is low
abbrev pub invariant-loop-place : goal.invariant-loop-place
invariant-loop-place l = record {
  joined : l.joined.items ++ joined_terms l.joining.multiplier l.joining.same (drop l.place l.signs) (drop l.place l.terms) (drop l.place l.others)
      ≡ joined_terms l.joining.multiplier l.joining.same l.signs l.terms l.others;
  low : greatest_number l.joining.multiplier l.joining.same (drop l.place l.signs) (drop l.place l.terms) (drop l.place l.others) ≤ greatest_score;
}
