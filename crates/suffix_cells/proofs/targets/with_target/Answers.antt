use Rattle.std.proofs.Common.{◌≡◌, ◌*◌, ◌%◌, ◌^◌, List, [], ◌∷◌, length, refl, ap, inl, inr, ◌∙◌, rules}
use Rattle.std.specs.Prelude.{bit_or}
use Rattle.std.specs.Int.{bit_at, w128}
use Rattle.std.proofs.lemmas.Bool.{cases_eq}
use Rattle.std.proofs.lemmas.Nat.Bits.{bit_at_set_other, bit_at_set_same}
use Rattle.adp_model.specs.declared.grammar.Arg.{Arg}
use Rattle.suffix_cells.proofs.Leading.{leads_nowhere, leads_on}
use Rattle.suffix_cells.proofs.targets.with_target.Goals as goal

none : {X : Type 0} (others : List X) → length others ≡ 0 → others ≡ []
none [] empty = refl
none (other ∷ others) empty = absurd cc

pub returns-in_default-clause-leads : goal.returns-in_default-clause-leads
returns-in_default-clause-leads c =
    leads_nowhere c.args.lines.now c.args.visits.now.order c.args.rule c.args.alt c.args.alternative.now c.requires.alternative
    (none c.args.alternative.now.others.now c.in_default.ensures.cases) c.args.bits

pub returns-then-alternative-eq1-clause-leads : goal.returns-then-alternative-eq1-clause-leads
returns-then-alternative-eq1-clause-leads c =
    let number = c.number.result in
    let empty : length c.in-Some.others.now ≡ 0 = search rules in
    let argument = c.in-Some.argument.now in
    let one : c.args.alternative.now.others.now ≡ argument ∷ [] =
    c.in-Some.ensures.cases.0 ∙ ap (λ (others : List Arg). argument ∷ others) (none c.in-Some.others.now empty) in
    leads_on c.args.lines.now c.args.visits.now.order c.args.rule c.args.alt c.args.alternative.now c.requires.alternative
    argument c.in-Rule.other number (bit_or c.args.bits (1 * 2 ^ number % 2 ^ 128)) one c.in-Rule.is c.if-alternative-eq1.true
    c.number.ensures.there (bit_at_set_same w128 c.args.bits number c.number.ensures.few)

pub returns-then-alternative-eq1-clause-kept : goal.returns-then-alternative-eq1-clause-kept
returns-then-alternative-eq1-clause-kept c = λ other set.
    let number = c.number.result in
    let few = c.number.ensures.few in
    elim (cases_eq other number) [
      | inl same ↦ ap (bit_at (bit_or c.args.bits (1 * 2 ^ number % 2 ^ 128))) same ∙ bit_at_set_same w128 c.args.bits number few
      | inr apart ↦ bit_at_set_other w128 c.args.bits number few other apart ∙ set
    ]
