use Rattle.std.proofs.Common.{◌≡◌, ◌↔◌, length, sym, ap, subst, ◌∙◌, arith}
use Rattle.adp_model.specs.declared.cell.Cell.{Cell}
use Rattle.adp_model.specs.PosedProblem.{PosedProblem}
use Rattle.adp_model.specs.Demand.{IsDemanded}
use Rattle.cell_tables.specs.Marks.{CellMarks, IsMarkedInRow}
use Rattle.seq_reference.specs.Sweeping.{AreSwept, IsBeforeStart}
use Rattle.seq_reference.proofs.Sweeps.{Counted, all_in_rows}
use Rattle.seq_reference.proofs.demand.marks_by_cells.Goals as goal
use Rattle.seq_reference.proofs.demand.marks_by_cells.Goals.{After-bytes}

counted : (c : After-bytes) → (cell : Cell) → IsDemanded c.args.lines.now cell → Counted c.args.lines.now cell
counted c =
    let D : PosedProblem → Type 0 = λ p. (cell : Cell) → IsDemanded p cell → Counted p cell in
    subst D c.problem-problem.ensures (c.demanded_cells_are_counted.ensures c.problem-problem.result.now c.admissible.ensures.checked.well_formed)

letters : (c : After-bytes) → length c.bytes.result.now ≡ length c.args.lines.now.word
letters c = ap length c.bytes.ensures.bytes ∙ ap (λ (q : PosedProblem). length q.word) (c.problem.view_is ∙ c.problem-problem.ensures)

pub loop-from-init : goal.loop-from-init
loop-from-init c =
    let S : CellMarks → Type 0 = λ marks. AreSwept c.args.lines.now marks (IsBeforeStart 0) in
    subst S (sym c.in_ok-marks.ensures) c.requires

pub returns-clause-problem : goal.returns-clause-problem
returns-clause-problem c = ap (λ (marks : CellMarks). marks.problem) c.into_marks.ensures ∙ c.loop-from.invariant.problem

pub returns-clause-rows : goal.returns-clause-rows
returns-clause-rows c =
    let before = (goal.at.returns-clause-rows c).After-bytes in
    let R : CellMarks → Type 0 = λ marks. (cell : Cell) → IsMarkedInRow marks cell ↔ IsDemanded c.args.lines.now cell in
    subst R (sym c.into_marks.ensures)
    (all_in_rows c.args.lines.now (counted before) c.loop-from.marks c.loop-from.from (omega (arith, letters before, c.loop-from-test.false)) c.loop-from.invariant)
