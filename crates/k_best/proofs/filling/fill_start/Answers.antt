use Rattle.std.proofs.Common.{◌≤◌, ◌+◌, ℕ, length, refl, subst, arith, rules}
use Rattle.adp_model.specs.declared.cell.Cell.{Cell}
use Rattle.adp_model.specs.PosedProblem.{PosedProblem}
use Rattle.adp_model.specs.Demand.{IsDemanded}
use Rattle.cell_tables.specs.Marks.{IsEndMarked}
use Rattle.k_best.proofs.Fills.{Counted, end_filled, filled_start, filled_up_to, first_filled}
use Rattle.k_best.proofs.filling.fill_start.Goals as goal
use Rattle.k_best.proofs.filling.fill_start.Goals.{After-demanded_cells_are_counted}

counted : (c : After-demanded_cells_are_counted) → (cell : Cell) → IsDemanded c.args.sweep.lines.now cell → Counted c.args.sweep.lines.now cell
counted c =
    let D : PosedProblem → Type 0 = λ p. (cell : Cell) → IsDemanded p cell → Counted p cell in
    subst D c.problem.ensures (c.demanded_cells_are_counted.ensures c.problem.result.now c.admissible.ensures.checked.well_formed)

short : (c : After-demanded_cells_are_counted) → length c.args.sweep.lines.now.word ≤ 4000
short c = subst (λ (q : PosedProblem). length q.word ≤ 4000) c.problem.ensures c.admissible.ensures.limits.letters

-- a span that is marked ends within the word
within : (c : After-demanded_cells_are_counted) → (to : ℕ) → IsEndMarked c.args.sweep.marks.now c.args.sweep.rules.now c.args.from (c.args.from + 1) to
    → to ≤ length c.args.sweep.lines.now.word
within c to is =
    let cell : Cell = record { rule = is.marked.0; from = is.from; to = to } in
    (counted c cell ((c.requires.marked cell).0 is.marked.2)).in_word

pub loop-to-init : goal.loop-to-init
loop-to-init c = record {
  listed = first_filled c.args.sweep.lines.now c.args.sweep.k c.args.from (counted (goal.at.loop-to-init c).After-demanded_cells_are_counted) c.args.table.now c.requires.listed;
  empty = c.requires.empty;
}

pub fill_span-requires-clause-listed : goal.fill_span-requires-clause-listed
fill_span-requires-clause-listed c =
    let at = (goal.at.fill_span-requires-clause-listed c).After-demanded_cells_are_counted in
    filled_up_to c.args.sweep.lines.now c.args.sweep.k c.args.from (counted at) c.args.sweep.marks.now c.requires.marked c.args.sweep.rules.now
    c.requires.ranked c.loop-to.table c.loop-to.least c.loop-to.invariant.listed c.in-Some.to c.in-Some.ensures.next.none_before

pub overflow_add-least : goal.overflow_add-least
overflow_add-least c =
    let at = (goal.at.overflow_add-least c).After-demanded_cells_are_counted in
    let low = within at c.in-Some.to c.in-Some.ensures.next.marked in
    let few = short at in
    search rules

pub loop-to-smaller : goal.loop-to-smaller
loop-to-smaller c =
    let at = (goal.at.loop-to-smaller c).After-demanded_cells_are_counted in
    let low = within at c.in-Some.to c.in-Some.ensures.next.marked in
    omega (arith, c.in-Some.ensures.next.behind)

pub loop-to-preserved : goal.loop-to-preserved
loop-to-preserved c =
    let at = (goal.at.loop-to-preserved c).After-demanded_cells_are_counted in
    record {
      listed = end_filled c.args.sweep.lines.now c.args.sweep.k c.args.from (counted at) c.loop-to.table c.fill_span.new.table c.loop-to.least c.in-Some.to
          c.loop-to.invariant.listed c.in_ok-fill_span.ensures.kept c.in_ok-fill_span.ensures.listed;
      empty = c.in_ok-fill_span.ensures.empty;
    }

pub returns-clause-listed : goal.returns-clause-listed
returns-clause-listed c =
    let at = (goal.at.returns-clause-listed c).After-demanded_cells_are_counted in
    filled_start c.args.sweep.lines.now c.args.sweep.k c.args.from (counted at) c.args.sweep.marks.now c.requires.marked c.args.sweep.rules.now
    c.requires.ranked c.loop-to.table c.loop-to.least c.loop-to.invariant.listed (c.in_default.ensures.none refl)
