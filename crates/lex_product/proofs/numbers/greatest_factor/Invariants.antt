use Rattle.std.proofs.Common.{◌≡◌, drop, max}
use Rattle.lex_product.specs.CompiledGrammar.{greatest_factor}
use Rattle.lex_product.proofs.numbers.greatest_factor.Given as goal

-- with what is left it is the greatest
abbrev pub invariant-loop-place : goal.invariant-loop-place
invariant-loop-place l =
    max l.greatest (greatest_factor l.joining.multiplier l.joining.same (drop l.place l.kinds) (drop l.place l.factors) (drop l.place l.others))
    ≡ greatest_factor l.joining.multiplier l.joining.same l.kinds l.factors l.others
