use Rattle.std.proofs.Common.{◌≡◌, ◌<◌, ◌≤◌, ◌++◌, ◌∷◌, ◌⊎◌, List, length, drop, take, refl, sym, ap, subst, ◌∙◌, arith, length-take}
use Rattle.std.specs.List.{AllByRecursion}
use Rattle.first_trees.specs.FirstTrees.{AreInOrder, IsAt}
use Rattle.first_trees.specs.Entries.{Entry, EntryPrecedes}
use Rattle.k_best.specs.Settled.{IsListed, IsSettled}
use Rattle.k_best.proofs.InOrder.{all_behind, get_at, none_behind, taken_dropped}
use Rattle.k_best.proofs.Putting.{put_from, put_front, put_kept, put_ordered, put_settled}
use Rattle.k_best.proofs.listing.meet.Goals as goal
use Rattle.k_best.proofs.listing.meet.Goals.{After-truncate, in-Some+else-not-precedes, in_default}

behind : (c : After-truncate) → AllByRecursion (EntryPrecedes c.args.goal c.args.entry) (drop c.place_of-place.result c.args.listed.now.items)
behind c =
    let same : c.deref-2.result.now ≡ c.args.listed.now.items = c.deref-2.ensures.value in
    subst (λ (items : List Entry). AllByRecursion (EntryPrecedes c.args.goal c.args.entry) (drop c.place_of-place.result items)) same
    (elim c.match-get.branch [
      | in-Some+else-not-precedes w ↦
          all_behind (EntryPrecedes c.args.goal) (c.entries_are_in_strict_order.ensures.transitive c.args.goal)
          c.deref-2.result.now c.place_of-place.result w.in-Some.next.now c.args.entry
          (subst (AreInOrder (EntryPrecedes c.args.goal)) (sym same) c.requires.in_order)
          (get_at c.deref-2.result.now c.place_of-place.result w.in-Some.next.now w.in-Some.ensures.lookup.3.0 w.in-Some.ensures.lookup.1)
          (w.if-not-precedes.ensures.0 refl)
      | in_default w ↦ none_behind (EntryPrecedes c.args.goal c.args.entry) c.deref-2.result.now c.place_of-place.result w.in_default.ensures.lookup.3
    ])

before : (c : After-truncate) → AllByRecursion (λ other. EntryPrecedes c.args.goal other c.args.entry) (take c.place_of-place.result c.args.listed.now.items)
before c =
    subst (λ (items : List Entry). AllByRecursion (λ (other : Entry). EntryPrecedes c.args.goal other c.args.entry) (take c.place_of-place.result items))
    c.deref.ensures.value c.place_of-place.ensures.before

whole : (c : After-truncate) → take c.place_of-place.result c.args.listed.now.items ++ drop c.place_of-place.result c.args.listed.now.items ≡ c.args.listed.now.items
whole c = taken_dropped c.place_of-place.result c.args.listed.now.items

made : (c : After-truncate) → take c.args.k (take c.place_of-place.result c.args.listed.now.items ++ c.args.entry ∷ drop c.place_of-place.result c.args.listed.now.items) ≡ c.truncate.new.self.items
made c = sym (c.truncate.ensures.items ∙ ap (take c.args.k) c.in_ok-insert.ensures.items)

ordered : (c : After-truncate) → AreInOrder (EntryPrecedes c.args.goal) (take c.place_of-place.result c.args.listed.now.items ++ drop c.place_of-place.result c.args.listed.now.items)
ordered c = subst (AreInOrder (EntryPrecedes c.args.goal)) (sym (whole c)) c.requires.in_order

few : (c : After-truncate) → length (take c.place_of-place.result c.args.listed.now.items ++ drop c.place_of-place.result c.args.listed.now.items) ≤ c.args.k
few c = subst (λ (items : List Entry). length items ≤ c.args.k) (sym (whole c)) c.requires.few

-- there are fewer entries before it than are asked for
room : (c : After-truncate) → length (take c.place_of-place.result c.args.listed.now.items) < c.args.k
room c =
    let same : length c.deref.result.now ≡ length c.args.listed.now.items = ap length c.deref.ensures.value in
    omega (arith, length-take c.place_of-place.result c.args.listed.now.items, c.place_of-place.ensures.within, c.requires.few, c.if-place-k.false)

pub returns-clause-in_order : goal.returns-clause-in_order
returns-clause-in_order c =
    subst (AreInOrder (EntryPrecedes c.args.goal)) (made c)
    (put_ordered c.args.goal (c.entries_are_in_strict_order.ensures.transitive c.args.goal) c.args.k
    (take c.place_of-place.result c.args.listed.now.items) (drop c.place_of-place.result c.args.listed.now.items)
    c.args.entry (ordered c) (before c) (behind c) (few c))

pub returns-clause-from : goal.returns-clause-from
returns-clause-from c other stands =
    subst (λ (items : List Entry). IsListed items other ⊎ (other ≡ c.args.entry)) (whole c)
    (put_from c.args.goal (c.entries_are_in_strict_order.ensures.transitive c.args.goal) c.args.k
    (take c.place_of-place.result c.args.listed.now.items) (drop c.place_of-place.result c.args.listed.now.items)
    c.args.entry (ordered c) (before c) (behind c) (few c) other
    (subst (λ (items : List Entry). IsListed items other) (sym (made c)) stands))

pub returns-clause-kept : goal.returns-clause-kept
returns-clause-kept c other settled =
    subst (λ (items : List Entry). IsSettled c.args.goal c.args.k items other) (made c)
    (put_kept c.args.goal (c.entries_are_in_strict_order.ensures.transitive c.args.goal) c.args.k
    (take c.place_of-place.result c.args.listed.now.items) (drop c.place_of-place.result c.args.listed.now.items)
    c.args.entry (ordered c) (before c) (behind c) (few c) (room c) other
    (subst (λ (items : List Entry). IsSettled c.args.goal c.args.k items other) (sym (whole c)) settled))

pub returns-clause-settled : goal.returns-clause-settled
returns-clause-settled c =
    subst (λ (items : List Entry). IsSettled c.args.goal c.args.k items c.args.entry) (made c)
    (put_settled c.args.goal (c.entries_are_in_strict_order.ensures.transitive c.args.goal) c.args.k
    (take c.place_of-place.result c.args.listed.now.items) (drop c.place_of-place.result c.args.listed.now.items)
    c.args.entry (ordered c) (before c) (behind c) (few c))

pub returns-clause-front : goal.returns-clause-front
returns-clause-front c place other at earlier =
    subst (λ (items : List Entry). IsAt items place other) (made c)
    (put_front c.args.goal (c.entries_are_in_strict_order.ensures.transitive c.args.goal) c.args.k
    (take c.place_of-place.result c.args.listed.now.items) (drop c.place_of-place.result c.args.listed.now.items)
    c.args.entry (ordered c) (before c) (behind c) (few c) (c.entries_are_in_strict_order.ensures.irreflexive c.args.goal) place other
    (subst (λ (items : List Entry). IsAt items place other) (sym (whole c)) at) earlier)
