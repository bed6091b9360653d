use Rattle.std.proofs.Common.{◌≡◌, ℕ, ◌+◌, ◌-◌, ◌<◌, ◌≤◌, length, get_or, subst, inl, arith}
use Rattle.std.proofs.lemmas.List.Elements.{Contains-get_or}
use Rattle.std.proofs.lemmas.Option.{slice_get-get_or}
use Rattle.adp_model.specs.declared.cell.Cell.{Cell}
use Rattle.adp_model.specs.PosedProblem.{PosedProblem}
use Rattle.adp_model.specs.Demand.{IsDemandedChild, IsBelow, IsDemanded, Child}
use Rattle.seq_reference.specs.Sweeping.{AreSweptInRows, IsBehindRow}
use Rattle.seq_reference.proofs.Sweeps.{Counted}
use Rattle.seq_reference.proofs.SweptRows.{swept_first, swept_last, swept_row}
use Rattle.seq_reference.proofs.row_marks.settle_rows.Goals as goal
use Rattle.seq_reference.proofs.row_marks.settle_rows.Goals.{After-demanded_children_are_below}

counted : (c : After-demanded_children_are_below) → (cell : Cell) → IsDemanded c.args.lines.now cell → Counted c.args.lines.now cell
counted c =
    let D : PosedProblem → Type 0 = λ p. (cell : Cell) → IsDemanded p cell → Counted p cell in
    subst D c.problem.ensures (c.demanded_cells_are_counted.ensures c.problem.result.now c.admissible.ensures.checked.well_formed)

forward : (c : After-demanded_children_are_below) → (cell child : Cell) → IsDemandedChild c.args.lines.now cell child → cell.from ≤ child.from
forward c cell child is =
    let it = c.admissible.ensures in
    let B : PosedProblem → Type 0 = λ p. (cell child : Cell) → IsDemandedChild p cell child → IsBelow it.ranks child cell in
    (subst B c.problem.ensures (c.demanded_children_are_below.ensures c.problem.result.now it.least it.greatest it.ranks it.checked) cell child is).begins

pub loop-number-init : goal.loop-number-init
loop-number-init c =
    let before = (goal.at.loop-number-init c).After-demanded_children_are_below in
    record {
      room = c.requires.room;
      swept = swept_first c.args.lines.now (counted before) c.args.order.now c.requires.order c.args.from c.args.marks.now c.requires.swept;
    }

pub mark_row_children-requires-clause-rule : goal.mark_row_children-requires-clause-rule
mark_row_children-requires-clause-rule c =
    let number = c.loop-number.number - 1 in
    let within : number < length c.args.order.now = omega (arith, c.loop-number-test.true, c.loop-number.auto) in
    c.requires.order.known (get_or c.args.order.now number 0) (Contains-get_or c.args.order.now number 0 within)

pub mark_row_children-requires-clause-counted : goal.mark_row_children-requires-clause-counted
mark_row_children-requires-clause-counted c = λ child (to, row, is).
    let before = (goal.at.mark_row_children-requires-clause-counted c).After-demanded_children_are_below in
    let cell : Cell = record { rule = get_or c.args.order.now (c.loop-number.number - 1) 0; from = c.args.from; to = to } in
    counted before child (Child cell child (c.loop-number.invariant.swept.swept.demanded cell (inl row)) is)

pub loop-number-preserved : goal.loop-number-preserved
loop-number-preserved c =
    let before = (goal.at.loop-number-preserved c).After-demanded_children_are_below in
    let p = c.args.lines.now in
    let order = c.args.order.now in
    let number = c.loop-number.number - 1 in
    let within : number < length order = omega (arith, c.loop-number-test.true, c.loop-number.auto) in
    let next : c.loop-number.number ≡ number + 1 = omega (arith, c.loop-number-test.true) in
    let S : ℕ → Type 0 = λ n. AreSweptInRows p c.loop-number.marks (IsBehindRow order c.args.from n) in
    record {
      room = c.mark_row_children.ensures.room;
      swept = swept_row p (counted before) order c.requires.order c.args.from (forward before) number (get_or order number 0)
          (slice_get-get_or order number 0 within) c.loop-number.marks c.mark_row_children.new.marks
          (subst S next c.loop-number.invariant.swept) c.mark_row_children.ensures.marked;
    }

pub returns-clause-swept : goal.returns-clause-swept
returns-clause-swept c =
    let before = (goal.at.returns-clause-swept c).After-demanded_children_are_below in
    let p = c.args.lines.now in
    let none : c.loop-number.number ≡ 0 = omega (arith, c.loop-number-test.false) in
    let S : ℕ → Type 0 = λ n. AreSweptInRows p c.loop-number.marks (IsBehindRow c.args.order.now c.args.from n) in
    swept_last p (counted before) c.args.order.now c.requires.order c.args.from c.loop-number.marks (subst S none c.loop-number.invariant.swept)
