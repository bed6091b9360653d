use Rattle.std.proofs.Common.{◌≡◌, ℕ, ◌<◌, length, refl, sym, ap, subst, ◌∙◌, arith, Option, List, below_more}
use Rattle.std.specs.List.{All}
use Rattle.std.proofs.lemmas.Bool.{false≢true}
use Rattle.adp_model.specs.declared.grammar.Alt.{Alt}
use Rattle.adp_model.specs.Parts.{alternatives_of}
use Rattle.adp_model.specs.Sizes.{IsPossible}
use Rattle.adp_model.specs.GrammarFaults.{HasPossibleAlternatives}
use Rattle.yield_sizes.proofs.GrammarReads.{alternatives_read}
use Rattle.yield_sizes.proofs.PossibleSums.{all_possible, not_all_possible}
use Rattle.yield_sizes.proofs.possible.first_impossible.Goals as goal

pub returns-then-not-are_possible : goal.returns-then-not-are_possible
returns-then-not-are_possible c =
    let grammar = c.args.grammar.now in
    let sizes = c.args.sizes.now in
    let number = c.loop-number.number in
    let items = c.as_slice-rule-items.result.now in
    let inside : number < length items = omega arith in
    let read : c.as_slice.result.now ≡ alternatives_of grammar number = c.as_slice.ensures ∙ alternatives_read grammar items number c.rule-item.result c.as_slice-rule-items.ensures inside c.rule-item.is in
    let P : List ℕ → List (Option ℕ) → List Alt → Type 0 = λ least greatest alternatives. All (IsPossible least greatest) alternatives in
    record {
      in_range = omega (arith, ap length c.as_slice-rule-items.ensures);
      faulty = not_all_possible grammar sizes.least sizes.greatest c.requires number (λ all.
          false≢true (c.if-not-are_possible.ensures.1
          (subst (λ least. P least c.as_slice-greatest.result.now c.as_slice.result.now) (sym c.as_slice-least.ensures)
          (subst (λ greatest. P sizes.least greatest c.as_slice.result.now) (sym c.as_slice-greatest.ensures)
          (subst (P sizes.least sizes.greatest) (sym read) all)))));
      before = c.loop-number.invariant;
    }

pub loop-number-preserved : goal.loop-number-preserved
loop-number-preserved c =
    let grammar = c.args.grammar.now in
    let sizes = c.args.sizes.now in
    let number = c.loop-number.number in
    let items = c.as_slice-rule-items.result.now in
    let inside : number < length items = omega arith in
    let read : c.as_slice.result.now ≡ alternatives_of grammar number = c.as_slice.ensures ∙ alternatives_read grammar items number c.rule-item.result c.as_slice-rule-items.ensures inside c.rule-item.is in
    let P : List ℕ → List (Option ℕ) → List Alt → Type 0 = λ least greatest alternatives. All (IsPossible least greatest) alternatives in
    let here : HasPossibleAlternatives grammar number =
    all_possible grammar sizes.least sizes.greatest c.requires number
    (subst (P sizes.least sizes.greatest) read
    (subst (λ greatest. P sizes.least greatest c.as_slice.result.now) c.as_slice-greatest.ensures
    (subst (λ least. P least c.as_slice-greatest.result.now c.as_slice.result.now) c.as_slice-least.ensures
    (c.if-not-are_possible.ensures.0 refl)))) in
    below_more (HasPossibleAlternatives grammar) number c.loop-number.invariant here

pub returns : goal.returns
returns c = λ rule inside. c.loop-number.invariant rule (omega (arith, ap length c.as_slice-rule-items.ensures))
