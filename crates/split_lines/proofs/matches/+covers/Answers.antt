use Rattle.std.proofs.Common.{◌≡◌, ◌↔◌, ℕ, ◌+◌, ◌-◌, ◌<◌, true, Option, Some, List, ◌∷◌, length, take, drop, sym, ap, subst, ◌∙◌, rules, arith}
use Rattle.std.proofs.lemmas.Bool.{false≢true}
use Rattle.std.specs.List.{AllByRecursion}
use Rattle.adp_model.specs.declared.grammar.Arg.{Arg}
use Rattle.adp_model.specs.WellFormed.{IsKnown}
use Rattle.viable_splits.specs.Placing.{Cover}
use Rattle.split_lines.specs.Laid.{IsFixed}
use Rattle.split_lines.proofs.Dividing.{split_at_first}
use Rattle.split_lines.specs.Ends.{IsEndTold}
use Rattle.split_lines.proofs.OneEnds.{none_ends, one_ends, cover_nowhere, cover_from}
use Rattle.split_lines.proofs.matches.+covers.Goals as goal

pub returns-in-None : goal.returns-in-None
returns-in-None t c =
    let p = c.args.tables.now in
    let all = c.args.tokens.now in
    let first = c.index-tokens-0.result in
    let later : List Arg = take (length all - 1) (drop 1 all) in
    let some : 0 < length all = search rules in
    let split : all ≡ first ∷ later = split_at_first all first some c.index-tokens-0.is in
    let E : Option ℕ → Type 0 = IsEndTold p first c.args.from c.args.to in
    let none = none_ends p first later c.args.from c.args.to (subst E c.in-None.is c.token_end.ensures) in (
      λ h. absurd (false≢true h),
      λ h. absurd (cover_nowhere p first later c.args.from c.args.to none (subst (λ tokens. Cover p tokens c.args.from c.args.to) split h)),
    )

pub returns-in-Some : goal.returns-in-Some
returns-in-Some t c =
    let p = c.args.tables.now in
    let all = c.args.tokens.now in
    let first = c.index-tokens-0.result in
    let later : List Arg = take (length all - 1) (drop 1 all) in
    let some : 0 < length all = search rules in
    let split : all ≡ first ∷ later = split_at_first all first some c.index-tokens-0.is in
    let end = c.in-Some.end in
    let E : Option ℕ → Type 0 = IsEndTold p first c.args.from c.args.to in
    let told : E (Some end) = subst E c.in-Some.is c.token_end.ensures in
    let fits = ((told end).0 (λ i. Some end)).1 in
    let C : List Arg → Type 0 = λ tokens. (c.covers.result ≡ true) ↔ Cover p tokens c.args.from c.args.to in
    subst C (sym split) (cover_from p first later c.args.from c.args.to end fits (one_ends p first later c.args.from c.args.to end told) c.covers.result c.covers.ensures)

pub covers-requires : goal.covers-requires
covers-requires t c =
    let p = c.args.tables.now in
    let all = c.args.tokens.now in
    let first = c.index-tokens-0.result in
    let later : List Arg = take (length all - 1) (drop 1 all) in
    let some : 0 < length all = search rules in
    let split : all ≡ first ∷ later = split_at_first all first some c.index-tokens-0.is in
    let known : AllByRecursion (IsKnown p.grammar) (first ∷ later) = subst (AllByRecursion (IsKnown p.grammar)) split c.requires.known in
    let fixed : AllByRecursion IsFixed (first ∷ later) = subst (AllByRecursion IsFixed) split c.requires.fixed in
    let E : Option ℕ → Type 0 = IsEndTold p first c.args.from c.args.to in
    let told : E (Some c.in-Some.end) = subst E c.in-Some.is c.token_end.ensures in
    let there = (told c.in-Some.end).0 (λ i. Some c.in-Some.end) in
    let same_length : length all ≡ length later + 1 = ap length split ∙ omega arith in
    (omega (arith, same_length, c.decreases), (known.1, (fixed.1, (record { in_order = there.0; in_word = c.requires.span.in_word }, c.requires.short))))
