use Rattle.std.proofs.Common.{refl, subst}
use Rattle.adp_model.specs.PosedProblem.{PosedProblem}
use Rattle.first_trees.specs.Entries.{AreEntries}
use Rattle.k_best.specs.ListsOf.{ListsOf}
use Rattle.k_best.proofs.lists.Lists.list.Goals as goal

pub list-requires-clause-counted : goal.list-requires-clause-counted
list-requires-clause-counted c =
    let demanded = (c.self.invariant.marked c.args.cell).0 (c.if-is_marked_in_row.ensures.0 refl) in
    let has = c.self.invariant.listed.lists c.args.cell demanded demanded in
    has.counted

pub returns-then-is_marked_in_row-clause-entries : goal.returns-then-is_marked_in_row-clause-entries
returns-then-is_marked_in_row-clause-entries c =
    let demanded = (c.self.invariant.marked c.args.cell).0 (c.if-is_marked_in_row.ensures.0 refl) in
    let has = c.self.invariant.listed.lists c.args.cell demanded demanded in
    let are = c.list.ensures c.self.inside.k has in
    let here = subst (λ (q : PosedProblem). AreEntries q c.self.inside.k c.args.cell c.list.result.now) c.self.invariant.listed.laid.problem are in
    subst (λ (of : ListsOf). AreEntries of.problem of.k c.args.cell c.list.result.now) c.self.view_is here
