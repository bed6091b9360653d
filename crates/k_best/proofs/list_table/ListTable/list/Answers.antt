use Rattle.std.proofs.Common.{◌≡◌, ◌<◌, ◌-◌, List, Some, drop, length, take, sym, ap, subst, ◌∙◌, arith, rules}
use Rattle.std.specs.Prelude.{slice_get}
use Rattle.first_trees.specs.Entries.{Entry, AreEntries}
use Rattle.k_best.specs.declared.list_table.Part.{Part}
use Rattle.k_best.proofs.ListParts.{some_at, part_is}
use Rattle.k_best.proofs.list_table.ListTable.list.Goals as goal
use Rattle.k_best.proofs.list_table.ListTable.list.Goals.{After-index-part}

below : (c : After-index-part) → c.place.result < length c.args.self.now.parts.items
below c = c.place.ensures.below (length c.args.self.now.parts.items) c.requires.laid.each

there : (c : After-index-part) → slice_get c.args.self.now.parts.items c.place.result ≡ Some c.index-part.result.now
there c =
    some_at c.args.self.now.parts.items c.place.result c.index-part.result.now (below c)
    ∙ ap (λ (part : Part). Some part) (sym c.index-part.ensures)

pub index-part-requires : goal.index-part-requires
index-part-requires c =
    let below : c.place.result < length c.args.self.now.parts.items =
    c.place.ensures.below (length c.args.self.now.parts.items) c.requires.laid.each in
    search rules

pub part_of-requires-clause-in_order : goal.part_of-requires-clause-in_order
part_of-requires-clause-in_order c = (c.requires.laid.within c.place.result c.index-part.result.now (there (goal.at.part_of-requires-clause-in_order c).After-index-part)).0

pub part_of-requires-clause-within : goal.part_of-requires-clause-within
part_of-requires-clause-within c =
    let within = (c.requires.laid.within c.place.result c.index-part.result.now (there (goal.at.part_of-requires-clause-within c).After-index-part)).1 in
    let same : length c.deref.result.now ≡ length c.args.self.now.entries.items = ap length c.deref.ensures.value in
    omega arith

pub returns : goal.returns
returns c k has =
    let p = c.args.self.now.places in
    let one : has.place ≡ c.place.result =
    c.places_are_unique.ensures.place p.grammar (length p.word) c.args.cell has.place c.place.result has.is_place c.place.ensures.place in
    let same : has.part ≡ c.index-part.result.now =
    part_is c.args.self.now.parts.items has.place has.part c.index-part.result.now has.there
    (ap (slice_get c.args.self.now.parts.items) one ∙ there (goal.at.returns c).After-index-part) in
    let E : List Entry → Type 0 = AreEntries p k c.args.cell in
    subst E (ap (λ (part : Part). take (part.end - part.start) (drop part.start c.args.self.now.entries.items)) same
    ∙ ap (λ (entries : List Entry). take (c.index-part.result.now.end - c.index-part.result.now.start) (drop c.index-part.result.now.start entries)) (sym c.deref.ensures.value)
    ∙ sym c.part_of.ensures) has.entries
