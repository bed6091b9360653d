use Rattle.std.proofs.Common.{◌≡◌, ◌-◌, ℕ, suc, drop, take, sym, subst, arith, refl}
use mathlib.Core.Bool.{true≢false}
use Rattle.std.specs.List.{AllByRecursion}
use Rattle.first_trees.specs.FirstTrees.{IsAt}
use Rattle.first_trees.specs.Entries.{Entry, EntryPrecedes}
use Rattle.k_best.proofs.InOrder.{all_earlier, all_up_to, first_dropped, get_at}
use Rattle.k_best.proofs.listing.place_of.Goals as goal

pub loop-place-preserved : goal.loop-place-preserved
loop-place-preserved c =
    let last : ℕ = c.loop-place.place - 1 in
    let at : IsAt c.args.listed.now last c.index-listed-place.result =
    get_at c.args.listed.now last c.index-listed-place.result (omega (arith, c.loop-place.invariant.0)) c.index-listed-place.is in
    let e : c.loop-place.place ≡ suc last = omega arith in
    let NotBefore : Entry → Type 0 = λ x. EntryPrecedes c.args.goal x c.args.entry.now → ⊥ in
    let no : NotBefore c.index-listed-place.result = λ before. true≢false (sym (c.if-not-precedes.ensures.1 before)) in (
      omega (arith, c.loop-place.invariant.0),
      all_earlier NotBefore c.args.listed.now last c.index-listed-place.result at no
          (subst (λ n. AllByRecursion NotBefore (drop n c.args.listed.now)) e c.loop-place.invariant.1),
    )

pub returns-else-not-precedes-clause-before : goal.returns-else-not-precedes-clause-before
returns-else-not-precedes-clause-before c =
    let last : ℕ = c.loop-place.place - 1 in
    let at : IsAt c.args.listed.now last c.index-listed-place.result =
    get_at c.args.listed.now last c.index-listed-place.result (omega (arith, c.loop-place.invariant.0)) c.index-listed-place.is in
    let e : suc last ≡ c.loop-place.place = omega arith in
    let before = c.if-not-precedes.ensures.0 refl in
    subst (λ n. AllByRecursion (λ (x : Entry). EntryPrecedes c.args.goal x c.args.entry.now) (take n c.args.listed.now)) e
    (all_up_to (EntryPrecedes c.args.goal) (c.entries_are_in_strict_order.ensures.transitive c.args.goal)
    c.args.listed.now last c.index-listed-place.result c.args.entry.now c.requires at before)

pub returns-else-not-precedes-clause-behind : goal.returns-else-not-precedes-clause-behind
returns-else-not-precedes-clause-behind c other at before =
    first_dropped (λ (x : Entry). EntryPrecedes c.args.goal x c.args.entry.now → ⊥) c.args.listed.now c.loop-place.place other at c.loop-place.invariant.1 before

pub returns-after-loop-place-clause-behind : goal.returns-after-loop-place-clause-behind
returns-after-loop-place-clause-behind c other at before =
    first_dropped (λ (x : Entry). EntryPrecedes c.args.goal x c.args.entry.now → ⊥) c.args.listed.now c.loop-place.place other at c.loop-place.invariant.1 before
