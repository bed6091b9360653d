use Rattle.std.proofs.Common.{◌≡◌, ◌<◌, ◌≤◌, ◌-◌, ◌+◌, ◌++◌, List, drop, length, take, refl, sym, ap, subst, ◌∙◌, arith, rules, ⊎_elim, length-append, vec_len}
use Rattle.std.proofs.lemmas.Bool.{cases_eq}
use Rattle.first_trees.specs.Entries.{Entry, AreEntries}
use Rattle.adp_model.specs.Cells.{IsCellBound, IsPlaceOf}
use Rattle.k_best.specs.declared.list_table.Part.{Part}
use Rattle.k_best.proofs.ListParts.{part_kept, part_new, set_here, set_elsewhere, set_length, set_or_same}
use Rattle.k_best.proofs.list_table.ListTable.put.Goals as goal
use Rattle.k_best.proofs.list_table.ListTable.put.Goals.{After-index_mut}

pub index_mut-requires : goal.index_mut-requires
index_mut-requires c =
    let below : c.place.result < length c.args.self.now.parts.items =
    c.place.ensures.below (length c.args.self.now.parts.items) c.requires.laid.each in
    search rules

below : (c : After-index_mut) → c.place.result < length c.args.self.now.parts.items
below c = c.place.ensures.below (length c.args.self.now.parts.items) c.requires.laid.each

starts : (c : After-index_mut) → c.len-start.result ≡ length c.args.self.now.entries.items
starts c =
    let counted : vec_len c.args.self.now.entries ≡ length c.args.self.now.entries.items = search rules in
    c.len-start.ensures ∙ counted

ends : (c : After-index_mut) → c.len-end.result ≡ length c.args.self.now.entries.items + length c.args.list.now.items
ends c =
    let counted : vec_len c.append.new.self ≡ length c.append.new.self.items = search rules in
    let long : length c.append.new.self.items ≡ length (c.args.self.now.entries.items ++ c.args.list.now.items) =
    ap length c.in_ok-append.ensures.items in
    omega (arith, c.len-end.ensures, length-append c.args.self.now.entries.items c.args.list.now.items)

-- a part that lay among the entries has the same ones
same_entries : (c : After-index_mut) (one : Part) → one.end ≤ length c.args.self.now.entries.items
    → take (one.end - one.start) (drop one.start c.args.self.now.entries.items)
    ≡ take (one.end - one.start) (drop one.start c.append.new.self.items)
same_entries c one within =
    sym (ap (λ (items : List Entry). take (one.end - one.start) (drop one.start items)) c.in_ok-append.ensures.items
    ∙ part_kept c.args.self.now.entries.items c.args.list.now.items one.start one.end within)

new_entries : (c : After-index_mut)
    → c.args.list.now.items ≡ take (c.len-end.result - c.len-start.result) (drop c.len-start.result c.append.new.self.items)
new_entries c =
    sym (ap (λ (items : List Entry). take (c.len-end.result - c.len-start.result) (drop c.len-start.result items)) c.in_ok-append.ensures.items
    ∙ part_new c.args.self.now.entries.items c.args.list.now.items c.len-start.result c.len-end.result (starts c) (ends c))

pub returns-clause-laid : goal.returns-clause-laid
returns-clause-laid c =
    let at = (goal.at.returns-clause-laid c).After-index_mut in
    let p = c.args.self.now.places in
    let old : List Part = c.args.self.now.parts.items in
    let new : Part = record { start = c.len-start.result; end = c.len-end.result } in
    let long : length c.append.new.self.items ≡ length (c.args.self.now.entries.items ++ c.args.list.now.items) =
    ap length c.in_ok-append.ensures.items in
    let joined = length-append c.args.self.now.entries.items c.args.list.now.items in
    let start = starts at in
    let end = ends at in
    record {
      problem = refl;
      each = subst (IsCellBound p.grammar (length p.word)) (sym (set_length old c.place.result new)) c.requires.laid.each;
      within = λ place one there. ⊎_elim
          (λ here. let s = ap (λ (x : Part). x.start) here.1 in let e = ap (λ (x : Part). x.end) here.1 in
          (omega arith, omega arith))
          (λ was. let held = c.requires.laid.within place one was in (held.0, omega (arith, held.1)))
          (set_or_same old c.place.result place new one there);
    }

pub returns-clause-there : goal.returns-clause-there
returns-clause-there c k entries =
    let at = (goal.at.returns-clause-there c).After-index_mut in
    let new : Part = record { start = c.len-start.result; end = c.len-end.result } in
    record {
      counted = c.requires.counted;
      place = c.place.result;
      part = new;
      is_place = c.place.ensures.place;
      there = set_here c.args.self.now.parts.items c.place.result new (below at);
      entries = subst (AreEntries c.args.self.now.places k c.args.cell) (new_entries at) entries;
    }

pub returns-clause-kept : goal.returns-clause-kept
returns-clause-kept c k entries other has =
    let at = (goal.at.returns-clause-kept c).After-index_mut in
    let p = c.args.self.now.places in
    let new : Part = record { start = c.len-start.result; end = c.len-end.result } in
    ⊎_elim
    (λ one.
    let same : c.args.cell ≡ other =
    c.places_tell_cells_apart.ensures p.grammar (length p.word) c.args.cell other has.place c.requires.counted has.counted
    (subst (IsPlaceOf p.grammar (length p.word) c.args.cell) (sym one) c.place.ensures.place) has.is_place in
    record {
      counted = has.counted;
      place = c.place.result;
      part = new;
      is_place = subst (IsPlaceOf p.grammar (length p.word) other) one has.is_place;
      there = set_here c.args.self.now.parts.items c.place.result new (below at);
      entries = subst (λ cell. AreEntries p k cell (take (c.len-end.result - c.len-start.result) (drop c.len-start.result c.append.new.self.items)))
          same (subst (AreEntries p k c.args.cell) (new_entries at) entries);
    })
    (λ apart. record {
      counted = has.counted;
      place = has.place;
      part = has.part;
      is_place = has.is_place;
      there = set_elsewhere c.args.self.now.parts.items c.place.result has.place new apart ∙ has.there;
      entries = subst (AreEntries p k other)
          (same_entries at has.part (c.requires.laid.within has.place has.part has.there).1) has.entries;
    })
    (cases_eq has.place c.place.result)
