use Rattle.std.proofs.Common.{FitsSigned, w64, List, ◌≤◌, length, subst, ◌∙◌, arith, rules}
use Rattle.std.proofs.lemmas.Int.{to_z-of_z}
use Rattle.adp_model.specs.declared.cell.Cell.{Cell}
use Rattle.adp_model.specs.Demand.{IsDemanded}
use Rattle.adp_model.specs.Parts.{algebra_of}
use Rattle.adp_model.specs.PosedProblem.{IsSpan}
use Rattle.adp_model.specs.ProblemFields.{IsAdmissible}
use Rattle.first_trees.specs.Entries.{Entry}
use Rattle.first_trees.specs.FirstTrees.{IsAt}
use Rattle.k_best.specs.Growing.{IsGrowing}
use Rattle.k_best.proofs.InOrder.{get_at}
use Rattle.k_best.proofs.Told.{told_nothing, told_score}
use Rattle.k_best.proofs.growing.told_behind.Goals as goal
use Rattle.k_best.proofs.growing.told_behind.Goals.{After-deref}

known : (c : After-deref) → IsAdmissible c.args.basis.now.lines.now
known c = subst IsAdmissible c.problem.ensures c.admissible.ensures

growing : (c : After-deref) → IsGrowing c.args.basis.now.lines.now c.args.basis.now.k c.args.cell c.in-Some.list.now.found.items c.in-Some.list.now.opened
growing c =
    subst (λ (cell : Cell). IsGrowing c.args.basis.now.lines.now c.args.basis.now.k cell c.in-Some.list.now.found.items c.in-Some.list.now.opened)
    c.in-Some.ensures.cell c.in-Some.ensures.growing.growing

span : (c : After-deref) → IsSpan c.args.basis.now.lines.now.word c.args.cell.from c.args.cell.to
span c =
    let p = c.args.basis.now.lines.now in
    let counted = c.demanded_cells_are_counted.ensures p (known c).checked.well_formed c.args.cell
    (subst (IsDemanded p) c.in-Some.ensures.cell c.in-Some.ensures.growing.demanded) in
    record { in_order = counted.in_order; in_word = counted.in_word }

pub returns-in-Some-get : goal.returns-in-Some-get
returns-in-Some-get c =
    let at = (goal.at.returns-in-Some-get c).After-deref in
    let p = c.args.basis.now.lines.now in
    let k = c.args.basis.now.k in
    let cell = c.args.cell in
    let list = c.in-Some.list.now in
    let keeps = known at in
    let entry : Entry = c.in-Some-get.entry.now in
    let stands : IsAt list.found.items c.args.rank entry =
    subst (λ (items : List Entry). IsAt items c.args.rank entry) c.deref.ensures.value
    (get_at c.deref.result.now c.args.rank entry c.in-Some-get.ensures.lookup.3.0 c.in-Some-get.ensures.lookup.1) in
    let has =
    told_score p k cell (c.entries_are_in_strict_order.ensures.irreflexive (algebra_of p).goal)
    (c.entries_are_in_strict_order.ensures.transitive (algebra_of p).goal)
    (c.lower_ranks_come_first.ensures p keeps.least keeps.greatest keeps.ranks keeps.checked k cell (span at))
    (c.lists_are_the_first_ranked_splits.ensures.list p keeps.least keeps.greatest keeps.ranks keeps.checked k cell (span at))
    (c.lists_are_the_first_ranked_splits.ensures.there p keeps.least keeps.greatest keeps.ranks keeps.checked k cell (span at))
    (c.first_trees_are_unique.ensures.one p) list.found.items list.opened (growing at) c.args.rank entry c.if-rank-list.true stands in
    let fits : FitsSigned w64 c.score.result = search rules in
    (has.0, has.1, to_z-of_z w64 c.score.result fits ∙ c.score.ensures ∙ has.2)

pub returns-in-None : goal.returns-in-None
returns-in-None c =
    let at = (goal.at.returns-in-None c).After-deref in
    let p = c.args.basis.now.lines.now in
    let k = c.args.basis.now.k in
    let cell = c.args.cell in
    let list = c.in-Some.list.now in
    let keeps = known at in
    let out : length list.found.items ≤ c.args.rank =
    subst (λ (items : List Entry). length items ≤ c.args.rank) c.deref.ensures.value c.in-None.ensures.lookup.3 in
    let all : length list.found.items ≤ list.opened = omega (arith, c.len.ensures, c.if-len-list.true) in
    told_nothing p k cell (c.entries_are_in_strict_order.ensures.irreflexive (algebra_of p).goal)
    (c.entries_are_in_strict_order.ensures.transitive (algebra_of p).goal)
    (c.lower_ranks_come_first.ensures p keeps.least keeps.greatest keeps.ranks keeps.checked k cell (span at))
    (c.lists_are_the_first_ranked_splits.ensures.list p keeps.least keeps.greatest keeps.ranks keeps.checked k cell (span at))
    (c.lists_are_the_first_ranked_splits.ensures.there p keeps.least keeps.greatest keeps.ranks keeps.checked k cell (span at))
    (c.first_trees_are_unique.ensures.one p) list.found.items list.opened (growing at) c.args.rank out all
