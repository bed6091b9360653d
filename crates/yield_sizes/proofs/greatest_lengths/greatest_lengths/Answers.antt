use Rattle.std.proofs.Common.{◌≡◌, ℕ, Bool, Option, Some, false, List, length, replicate, sym, ap, subst, rules, ◌∙◌}
use Rattle.yield_sizes.specs.declared.places.Place.{Place}
use Rattle.yield_sizes.specs.KnownGreatest.{AreRising}
use Rattle.yield_sizes.proofs.GreatestLengths.{rising_start}
use Rattle.yield_sizes.proofs.greatest_lengths.greatest_lengths.Goals as goal

pub raise-requires-clause-rising : goal.raise-requires-clause-rising
raise-requires-clause-rising c =
    let grammar = c.args.grammar.now in
    let count = length c.as_slice-count.result.now in
    let places = c.in_ok-places.places.items in
    let known : c.deref_mut.result.now ≡ replicate count (Some 0) = c.deref_mut.ensures.value ∙ c.in_ok-known.ensures.items_if_clones_equal (λ other e. search rules) in
    let risen : c.deref_mut-2.result.now ≡ replicate count false = c.deref_mut-2.ensures.value ∙ c.in_ok-risen.ensures.items_if_clones_equal (λ other e. search rules) in
    let P : List Place → Type 0 = λ it. AreRising grammar it c.deref_mut.result.now c.deref_mut-2.result.now in
    let Q : List (Option ℕ) → Type 0 = λ it. AreRising grammar places it c.deref_mut-2.result.now in
    let R : List Bool → Type 0 = λ it. AreRising grammar places (replicate count (Some 0)) it in
    subst P (sym c.deref-2.ensures.value) (subst Q (sym known) (subst R (sym risen) (rising_start grammar places count c.in_ok-places.ensures (ap length c.as_slice-count.ensures))))
