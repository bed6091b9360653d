use Rattle.std.proofs.Common.{◌≡◌, drop, max}
use Rattle.lex_product.specs.CompiledGrammar.{greatest_number}
use Rattle.lex_product.proofs.numbers.greatest_number.Given as goal

-- with what is left it is the greatest
abbrev pub invariant-loop-place : goal.invariant-loop-place
invariant-loop-place l =
    max l.greatest (greatest_number l.joining.multiplier l.joining.same (drop l.place l.signs) (drop l.place l.terms) (drop l.place l.others))
    ≡ greatest_number l.joining.multiplier l.joining.same l.signs l.terms l.others
