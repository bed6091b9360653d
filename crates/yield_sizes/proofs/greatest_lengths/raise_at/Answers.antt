use Rattle.std.proofs.Common.{◌≡◌, ℕ, ◌<◌, inl, inr, Bool, true, Option, None, List, ◌∷◌, length, get_or, set, sym, ap, subst, ◌∙◌}
use Rattle.adp_model.specs.declared.grammar.Grammar.{Grammar}
use Rattle.adp_model.specs.Parts.{alternative_at}
use Rattle.yield_sizes.specs.declared.places.Place.{Place}
use Rattle.yield_sizes.specs.KnownGreatest.{AreRising, alternative_greatest, is_below, rise_left}
use Rattle.yield_sizes.proofs.LeastLengths.{in_range}
use Rattle.yield_sizes.proofs.Searching.{contains_later}
use Rattle.yield_sizes.proofs.GreatestLengths.{more_left, rising_more, rising_same, risen_more}
use Rattle.yield_sizes.proofs.greatest_lengths.raise_at.Goals as goal

-- a place may wait that need not
rising_again : (grammar : Grammar) (place : Place) (waiting : List Place) (known : List (Option ℕ)) (risen : List Bool) → AreRising grammar waiting known risen → AreRising grammar (place ∷ waiting) known risen
rising_again grammar place waiting known risen rising = record {
  each = rising.each;
  marked = rising.marked;
  few = rising.few;
  below = rising.below;
  reached = rising.reached;
  settled = λ rule alternative inside. elim (rising.settled rule alternative inside) [
    | inl settled ↦ inl settled
    | inr waits ↦ inr (contains_later place (record { rule = rule; alternative = alternative }) waiting waits)
  ];
}

pub loop-alternative-smaller : goal.loop-alternative-smaller
loop-alternative-smaller c =
    let grammar = c.args.grammar.now in
    let place = c.args.place in
    let known = c.loop-alternative.known in
    let risen = c.loop-alternative.risen in
    let within : place.rule < length grammar.rules = in_range grammar place.rule place.alternative c.requires.place in
    let size : Option ℕ = alternative_greatest known (alternative_at grammar place.rule place.alternative) in
    let greatest : c.loop-alternative.greatest ≡ size = c.loop-alternative.invariant.greatest in
    let test : c.is_below.result ≡ is_below (get_or known place.rule None) size = c.is_below.ensures ∙ ap (is_below (get_or known place.rule None)) greatest in
    let rising = c.loop-alternative.invariant.rising c.requires.rising.0 c.requires.rising.1 in
    subst (λ it. rise_left (set known place.rule it) < rise_left known) (sym greatest)
    (more_left grammar place (place ∷ c.requires.rising.0) known risen size within rising (sym test ∙ c.loop-alternative-test.true))

pub loop-alternative-preserved : goal.loop-alternative-preserved
loop-alternative-preserved c =
    let grammar = c.args.grammar.now in
    let place = c.args.place in
    let known = c.loop-alternative.known in
    let risen = c.loop-alternative.risen in
    let within : place.rule < length grammar.rules = in_range grammar place.rule place.alternative c.requires.place in
    let size : Option ℕ = alternative_greatest known (alternative_at grammar place.rule place.alternative) in
    let greatest : c.loop-alternative.greatest ≡ size = c.loop-alternative.invariant.greatest in
    let test : c.is_below.result ≡ is_below (get_or known place.rule None) size = c.is_below.ensures ∙ ap (is_below (get_or known place.rule None)) greatest in
    let below = sym test ∙ c.loop-alternative-test.true in
    let new : List (Option ℕ) = set known place.rule c.loop-alternative.greatest in
    let rising = c.loop-alternative.invariant.rising c.requires.rising.0 c.requires.rising.1 in
    let less : rise_left new < rise_left known = subst (λ it. rise_left (set known place.rule it) < rise_left known) (sym greatest) (more_left grammar place (place ∷ c.requires.rising.0) known risen size within rising below) in
    record {
      rising = λ waiting r.
          subst (λ it. AreRising grammar (place ∷ waiting) (set known place.rule it) (set risen place.rule true)) (sym greatest)
          (rising_again grammar place waiting (set known place.rule size) (set risen place.rule true) (rising_more grammar place waiting known risen c.requires.place within (c.loop-alternative.invariant.rising waiting r) below));
      greatest = c.alternative_greatest-greatest-in-loop-alternative.ensures ∙ ap (alternative_greatest new) c.alternative_at-alternative.ensures;
      change = risen_more c.args.known.now c.args.risen.now known risen new (set risen place.rule true) c.loop-alternative.invariant.change less;
    }

pub returns-clause-rising : goal.returns-clause-rising
returns-clause-rising c = λ waiting r.
    let grammar = c.args.grammar.now in
    let place = c.args.place in
    let known = c.loop-alternative.known in
    let size : Option ℕ = alternative_greatest known (alternative_at grammar place.rule place.alternative) in
    let greatest : c.loop-alternative.greatest ≡ size = c.loop-alternative.invariant.greatest in
    let test : c.is_below.result ≡ is_below (get_or known place.rule None) size = c.is_below.ensures ∙ ap (is_below (get_or known place.rule None)) greatest in
    rising_same grammar place waiting known c.loop-alternative.risen (c.loop-alternative.invariant.rising waiting r) (sym test ∙ c.loop-alternative-test.false)
