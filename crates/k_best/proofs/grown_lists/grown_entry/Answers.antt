use Rattle.std.proofs.Common.{List, subst}
use Rattle.adp_model.specs.declared.cell.Cell.{Cell}
use Rattle.adp_model.specs.Demand.{IsDemanded}
use Rattle.adp_model.specs.Parts.{algebra_of}
use Rattle.adp_model.specs.PosedProblem.{IsSpan}
use Rattle.adp_model.specs.ProblemFields.{IsAdmissible}
use Rattle.first_trees.specs.Entries.{Entry}
use Rattle.first_trees.specs.FirstTrees.{IsAt}
use Rattle.k_best.specs.Growing.{IsGrowing}
use Rattle.k_best.proofs.InOrder.{get_at}
use Rattle.k_best.proofs.Told.{told_root}
use Rattle.k_best.proofs.grown_lists.grown_entry.Goals as goal

pub returns-in-Some-get : goal.returns-in-Some-get
returns-in-Some-get c =
    let p = c.args.basis.now.lines.now in
    let k = c.args.basis.now.k in
    let cell = c.args.listed.cell in
    let rank = c.args.listed.rank in
    let list = c.in-Some.list.now in
    let keeps = subst IsAdmissible c.problem.ensures c.admissible.ensures in
    let entry : Entry = c.in-Some-get.entry.now in
    let growing = subst (λ (cell : Cell). IsGrowing p k cell list.found.items list.opened) c.in-Some.ensures.cell c.in-Some.ensures.growing.growing in
    let counted = c.demanded_cells_are_counted.ensures p keeps.checked.well_formed cell
    (subst (IsDemanded p) c.in-Some.ensures.cell c.in-Some.ensures.growing.demanded) in
    let span : IsSpan p.word cell.from cell.to = record { in_order = counted.in_order; in_word = counted.in_word } in
    let stands : IsAt list.found.items rank entry =
    subst (λ (items : List Entry). IsAt items rank entry) c.deref.ensures.value
    (get_at c.deref.result.now rank entry c.in-Some-get.ensures.lookup.3.0 c.in-Some-get.ensures.lookup.1) in
    told_root p k cell (c.entries_are_in_strict_order.ensures.irreflexive (algebra_of p).goal)
    (c.entries_are_in_strict_order.ensures.transitive (algebra_of p).goal)
    (c.lower_ranks_come_first.ensures p keeps.least keeps.greatest keeps.ranks keeps.checked k cell span)
    (c.lists_are_the_first_ranked_splits.ensures.list p keeps.least keeps.greatest keeps.ranks keeps.checked k cell span)
    (c.lists_are_the_first_ranked_splits.ensures.there p keeps.least keeps.greatest keeps.ranks keeps.checked k cell span)
    (c.first_trees_are_unique.ensures.one p) list.found.items list.opened growing rank entry c.if-listed-list.true stands
