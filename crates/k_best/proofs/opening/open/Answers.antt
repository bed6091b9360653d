use Rattle.std.proofs.Common.{subst}
use Rattle.adp_model.specs.PosedProblem.{IsSpan}
use Rattle.adp_model.specs.ProblemFields.{IsAdmissible}
use Rattle.adp_model.specs.Parts.{algebra_of}
use Rattle.first_trees.specs.Entries.{Entry}
use Rattle.first_trees.specs.FirstTrees.{IsAt}
use Rattle.first_trees.specs.RankedSplits.{IsRankedSplit}
use Rattle.k_best.proofs.Grows.{opened_growing}
use Rattle.k_best.proofs.InOrder.{all_at}
use Rattle.k_best.proofs.Told.{same_many}
use Rattle.k_best.proofs.opening.open.Goals as goal
use Rattle.k_best.proofs.opening.open.Goals.{In-Some}

known : (c : In-Some) → IsAdmissible c.args.basis.now.lines.now
known c = subst IsAdmissible c.problem.ensures c.admissible.ensures

span : (c : In-Some) → IsSpan c.args.basis.now.lines.now.word c.args.list.now.cell.from c.args.list.now.cell.to
span c =
    let counted = c.demanded_cells_are_counted.ensures c.args.basis.now.lines.now (known c).checked.well_formed c.args.list.now.cell c.requires.list.demanded in
    record { in_order = counted.in_order; in_word = counted.in_word }

stands : (c : In-Some) → IsAt c.args.list.now.found.items c.args.list.now.opened c.in-Some.first
stands c = c.in-Some.ensures

pub meet_next-requires-clause-span : goal.meet_next-requires-clause-span
meet_next-requires-clause-span c = span (goal.at.meet_next-requires-clause-span c).In-Some

pub meet_next-requires-clause-first : goal.meet_next-requires-clause-first
meet_next-requires-clause-first c =
    let at = (goal.at.meet_next-requires-clause-first c).In-Some in
    let list = c.args.list.now in
    all_at (IsRankedSplit c.args.basis.now.lines.now c.args.basis.now.k list.cell) list.found.items list.opened c.in-Some.first
    c.requires.list.growing.listing.hold (stands at)

pub returns : goal.returns
returns c is_known =
    let at = (goal.at.returns c).In-Some in
    let p = c.args.basis.now.lines.now in
    let k = c.args.basis.now.k in
    let list = c.args.list.now in
    let cell = list.cell in
    let first : Entry = c.in-Some.first in
    let keeps = known at in
    let opened = c.in_ok-meet_next.ensures c.if-not-branch.false in
    let is : IsRankedSplit p k cell first = all_at (IsRankedSplit p k cell) list.found.items list.opened first c.requires.list.growing.listing.hold (stands at) in
    record {
      demanded = c.requires.list.demanded;
      growing =
          opened_growing p k cell (c.entries_are_in_strict_order.ensures.irreflexive (algebra_of p).goal)
          (c.entries_are_in_strict_order.ensures.transitive (algebra_of p).goal)
          (c.lower_ranks_come_first.ensures p keeps.least keeps.greatest keeps.ranks keeps.checked k cell (span at))
          list.found.items c.meet_next.new.found.items list.opened c.requires.list.growing first (stands at)
          opened.listing opened.kept (opened.still list.opened (stands at))
          (λ entry is' choice. same_many p k cell entry first is' is choice) opened.headed;
    }
