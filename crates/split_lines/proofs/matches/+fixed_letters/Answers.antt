use Rattle.std.proofs.Common.{◌≡◌, ◌-◌, ◌<◌, min, List, ◌∷◌, length, take, drop, sym, ap, subst, ◌∙◌, rules}
use Rattle.std.specs.List.{AllByRecursion}
use Rattle.adp_model.specs.declared.grammar.Arg.{Arg}
use Rattle.split_lines.specs.Laid.{IsFixed}
use Rattle.split_lines.specs.Matching.{HaveLetters}
use Rattle.split_lines.proofs.Dividing.{split_at_first}
use Rattle.split_lines.proofs.TokenSpans.{more_letters}
use Rattle.split_lines.proofs.matches.+fixed_letters.Goals as goal

pub returns-clause-letters : goal.returns-clause-letters
returns-clause-letters t c = λ p short.
    let all = c.args.tokens.now in
    let first = c.index-tokens-0.result in
    let later : List Arg = take (length all - 1) (drop 1 all) in
    let some : 0 < length all = search rules in
    let split : all ≡ first ∷ later = split_at_first all first some c.index-tokens-0.is in
    let fixed : AllByRecursion IsFixed (first ∷ later) = subst (AllByRecursion IsFixed) split c.requires in
    let H : List Arg → Type 0 = λ tokens. HaveLetters p tokens c.min.result in
    let first_is = c.min-first.ensures ∙ ap (λ n. min n 4001) c.fixed_length.ensures in
    subst H (sym split) (more_letters p first later c.min-first.result c.fixed_letters.result c.min.result short fixed.0 (c.fixed_letters.ensures.letters p short) first_is c.min.ensures)
