use Rattle.std.proofs.Common.{List, sym, subst}
use Rattle.first_trees.specs.Entries.{Entry}
use Rattle.first_trees.specs.FirstTrees.{IsAt}
use Rattle.k_best.proofs.InOrder.{get_at}
use Rattle.k_best.proofs.opening.first_unopened.Goals as goal

pub returns-in-Some : goal.returns-in-Some
returns-in-Some c =
    let list = c.args.list.now in
    subst (λ (items : List Entry). IsAt items list.opened c.same.result) c.deref.ensures.value
    (subst (IsAt c.deref.result.now list.opened) (sym c.same.ensures)
    (get_at c.deref.result.now list.opened c.in-Some.first.now c.in-Some.ensures.lookup.3.0 c.in-Some.ensures.lookup.1))
