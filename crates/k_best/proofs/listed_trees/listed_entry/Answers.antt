use Rattle.std.proofs.Common.{◌<◌, List, length, sym, subst, arith, rules}
use Rattle.adp_model.specs.PosedProblem.{PosedProblem}
use Rattle.adp_model.specs.Tree.{Tree}
use Rattle.adp_model.specs.Derivation.{Derives}
use Rattle.first_trees.specs.FirstTrees.{HasPlace, IsAt}
use Rattle.first_trees.specs.Entries.{AreEntries, IsEntry}
use Rattle.k_best.proofs.InOrder.{all_at, at_within}
use Rattle.k_best.proofs.AtPlaces.{as_many, entry_stands}
use Rattle.k_best.proofs.listed_trees.listed_entry.Goals as goal

pub bounds-list-listed : goal.bounds-list-listed
bounds-list-listed c =
    let p : PosedProblem = c.args.problem.now in
    let k = c.args.lists.now.k in
    let cell = c.args.listed.cell in
    let rank = c.args.listed.rank in
    let tree : Tree = c.requires.there.0 in
    let has : HasPlace p k cell tree rank = c.requires.there.1 in
    let are : AreEntries p k cell c.in-Some.list.now =
    subst (λ (q : PosedProblem). AreEntries q k cell c.in-Some.list.now) c.requires.same c.in-Some.ensures.entries in
    let at = subst (λ (trees : List Tree). IsAt trees rank tree) (c.first_trees_are_unique.ensures.one p cell k has.0 are.0 has.1 are.1) has.2 in
    omega (arith, at_within are.0 rank tree at, as_many p k are.0 c.in-Some.list.now are.2)

pub offset_bounds-list-listed : goal.offset_bounds-list-listed
offset_bounds-list-listed c =
    let p : PosedProblem = c.args.problem.now in
    let k = c.args.lists.now.k in
    let cell = c.args.listed.cell in
    let rank = c.args.listed.rank in
    let tree : Tree = c.requires.there.0 in
    let has : HasPlace p k cell tree rank = c.requires.there.1 in
    let are : AreEntries p k cell c.in-Some.list.now =
    subst (λ (q : PosedProblem). AreEntries q k cell c.in-Some.list.now) c.requires.same c.in-Some.ensures.entries in
    let at = subst (λ (trees : List Tree). IsAt trees rank tree) (c.first_trees_are_unique.ensures.one p cell k has.0 are.0 has.1 are.1) has.2 in
    let within : rank < length c.in-Some.list.now = omega (arith, at_within are.0 rank tree at, as_many p k are.0 c.in-Some.list.now are.2) in
    search (rules, within)

pub returns : goal.returns
returns c tree has =
    let p : PosedProblem = c.args.problem.now in
    let k = c.args.lists.now.k in
    let cell = c.args.listed.cell in
    let rank = c.args.listed.rank in
    let are : AreEntries p k cell c.in-Some.list.now =
    subst (λ (q : PosedProblem). AreEntries q k cell c.in-Some.list.now) c.requires.same c.in-Some.ensures.entries in
    let at = subst (λ (trees : List Tree). IsAt trees rank tree) (c.first_trees_are_unique.ensures.one p cell k has.0 are.0 has.1 are.1) has.2 in
    let stands = entry_stands p k are.0 c.in-Some.list.now rank tree c.index-list-listed.result are.2 at in
    let is : IsEntry p k tree c.index-list-listed.result = subst (IsEntry p k tree) (sym c.index-list-listed.is) stands.1 in
    let derived = all_at (Derives p cell) are.0 rank tree are.1.hold at in
    let keeps = c.admissible.ensures in
    let split = c.lists_are_the_first_ranked_splits.ensures.split p keeps.least keeps.greatest keeps.ranks keeps.checked k cell
    (c.derived_trees_span_their_cell.ensures.in_word p cell tree derived) c.index-list-listed.result in
    record {
      derived = derived;
      is = is;
      viable = (split.1 (tree, derived, is)).viable;
    }
