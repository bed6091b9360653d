use Rattle.std.proofs.Common.{ℕ, ◌≤◌, length, refl, subst, arith, rules}
use Rattle.adp_model.specs.declared.cell.Cell.{Cell}
use Rattle.adp_model.specs.PosedProblem.{PosedProblem}
use Rattle.adp_model.specs.Demand.{IsDemanded}
use Rattle.cell_tables.specs.Marks.{IsEndMarked}
use Rattle.seq_reference.specs.Filling.{IsFilledBefore, IsFromStart}
use Rattle.seq_reference.proofs.Sweeps.{Counted}
use Rattle.seq_reference.proofs.Fills.{filled_fewer, first_filled, filled_up_to, filled_block}
use Rattle.seq_reference.proofs.filling.fill_block.Goals as goal
use Rattle.seq_reference.proofs.filling.fill_block.Goals.{After-demanded_cells_are_counted}

counted : (c : After-demanded_cells_are_counted) → (cell : Cell) → IsDemanded c.args.lines.now cell → Counted c.args.lines.now cell
counted c =
    let D : PosedProblem → Type 0 = λ p. (cell : Cell) → IsDemanded p cell → Counted p cell in
    subst D c.problem.ensures (c.demanded_cells_are_counted.ensures c.problem.result.now c.admissible.ensures.checked.well_formed)

short : (c : After-demanded_cells_are_counted) → length c.args.lines.now.word ≤ 4000
short c =
    let L : PosedProblem → Type 0 = λ q. length q.word ≤ 4000 in
    subst L c.problem.ensures c.admissible.ensures.limits.letters

-- a span that is marked ends within the word
within : (c : After-demanded_cells_are_counted) → (to : ℕ) → IsEndMarked c.args.marks.now c.args.rules.now c.args.first c.args.past to → to ≤ length c.args.lines.now.word
within c to is =
    let cell : Cell = record { rule = is.marked.0; from = is.from; to = to } in
    (counted c cell ((c.requires.marked cell).0 is.marked.2)).in_word

pub loop-to-init : goal.loop-to-init
loop-to-init c =
    let p = c.args.lines.now in
    let before = (goal.at.loop-to-init c).After-demanded_cells_are_counted in
    filled_fewer p (counted before) c.args.scores.now (IsFromStart c.args.past) (IsFilledBefore c.args.first c.args.past c.args.first)
    (first_filled p c.args.first c.args.past) c.requires.filled

pub fill_end-requires-clause-filled : goal.fill_end-requires-clause-filled
fill_end-requires-clause-filled c =
    let before = (goal.at.fill_end-requires-clause-filled c).After-demanded_cells_are_counted in
    filled_up_to c.args.lines.now (counted before) c.args.marks.now c.requires.marked c.args.rules.now c.requires.ranked c.loop-to.scores c.args.first c.args.past c.loop-to.least c.loop-to.invariant c.in-Some.to c.in-Some.ensures.next.none_before

pub overflow_add-least : goal.overflow_add-least
overflow_add-least c =
    let before = (goal.at.overflow_add-least c).After-demanded_cells_are_counted in
    let low = within before c.in-Some.to c.in-Some.ensures.next.marked in
    let few = short before in
    search rules

pub loop-to-smaller : goal.loop-to-smaller
loop-to-smaller c =
    let before = (goal.at.loop-to-smaller c).After-demanded_cells_are_counted in
    let low = within before c.in-Some.to c.in-Some.ensures.next.marked in
    omega (arith, c.in-Some.ensures.next.behind)

pub returns : goal.returns
returns c =
    let before = (goal.at.returns c).After-demanded_cells_are_counted in
    filled_block c.args.lines.now (counted before) c.args.marks.now c.requires.marked c.args.rules.now c.requires.ranked c.loop-to.scores c.args.first c.args.past c.loop-to.least c.loop-to.invariant (c.in_default.ensures.none refl)

pub loop-to-preserved : goal.loop-to-preserved
loop-to-preserved c = c.fill_end.ensures
