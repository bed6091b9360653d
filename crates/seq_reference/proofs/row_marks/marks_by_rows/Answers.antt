use Rattle.std.proofs.Common.{◌≡◌, ◌+◌, length, sym, ap, subst, ◌∙◌, arith}
use Rattle.std.proofs.lemmas.Bool.{false≢true}
use Rattle.adp_model.specs.declared.cell.Cell.{Cell}
use Rattle.adp_model.specs.PosedProblem.{PosedProblem}
use Rattle.adp_model.specs.Demand.{IsDemanded}
use Rattle.cell_demands.specs.declared.rows.RowRoom.{RowRoom}
use Rattle.cell_demands.specs.Rows.{IsRoomFor}
use Rattle.cell_tables.specs.Marks.{CellMarks}
use Rattle.seq_reference.specs.Sweeping.{AreSweptInRows, IsBeforeStart}
use Rattle.seq_reference.proofs.Sweeps.{Counted, all_in_rows}
use Rattle.seq_reference.proofs.SweptRows.{swept_over}
use Rattle.seq_reference.proofs.row_marks.marks_by_rows.Goals as goal
use Rattle.seq_reference.proofs.row_marks.marks_by_rows.Goals.{After-letters-letters, then-has_start, else-has_start}

counted : (c : After-letters-letters) → (cell : Cell) → IsDemanded c.args.lines.now cell → Counted c.args.lines.now cell
counted c =
    let D : PosedProblem → Type 0 = λ p. (cell : Cell) → IsDemanded p cell → Counted p cell in
    subst D c.problem-problem.ensures (c.demanded_cells_are_counted.ensures c.problem-problem.result.now c.admissible.ensures.checked.well_formed)

letters : (c : After-letters-letters) → length c.letters-letters.result.now ≡ length c.args.lines.now.word
letters c = ap length c.letters-letters.ensures.word ∙ ap (λ (p : PosedProblem). length p.word) c.problem-problem.ensures

pub loop-from-init : goal.loop-from-init
loop-from-init c = record {
  room = subst (λ (p : PosedProblem). IsRoomFor p c.in_ok-room.room) c.problem-problem.ensures c.in_ok-room.ensures;
  swept = c.requires.swept;
}

pub loop-from-preserved : goal.loop-from-preserved
loop-from-preserved c =
    let before = (goal.at.loop-from-preserved c).After-letters-letters in
    let p = c.args.lines.now in
    let from = c.loop-from.from in
    let R : RowRoom → Type 0 = IsRoomFor p in
    let S : CellMarks → Type 0 = λ marks. AreSweptInRows p marks (IsBeforeStart (from + 1)) in
    elim c.if-has_start.branch [
      | then-has_start w ↦ record {
        room = subst R (sym w.room-is) w.settle_rows.ensures.room;
        swept = subst S (sym w.marks-is) w.settle_rows.ensures.swept;
      }
      | else-has_start w ↦ record {
        room = subst R (sym w.room-is) c.loop-from.invariant.room;
        swept = subst S (sym w.marks-is) (swept_over p (counted before) c.args.order.now c.requires.order from c.loop-from.marks
            (λ has. false≢true (sym w.if-has_start.false ∙ c.has_start.ensures.1 has)) c.loop-from.invariant.swept);
      }
    ]

pub returns-clause-rows : goal.returns-clause-rows
returns-clause-rows c =
    let before = (goal.at.returns-clause-rows c).After-letters-letters in
    all_in_rows c.args.lines.now (counted before) c.loop-from.marks c.loop-from.from
    (omega (arith, letters before, c.loop-from-test.false)) c.loop-from.invariant.swept.swept
