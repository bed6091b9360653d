use Rattle.std.proofs.Common.{◌↔◌, sym, subst}
use Rattle.adp_model.specs.declared.cell.Cell.{Cell}
use Rattle.adp_model.specs.PosedProblem.{PosedProblem}
use Rattle.adp_model.specs.Demand.{IsDemanded}
use Rattle.adp_model.proofs.CellLists.{same_count}
use Rattle.cell_answers.specs.Entries.{HasEntry}
use Rattle.cell_tables.specs.Marks.{CellMarks, IsMarkedInRow}
use Rattle.seq_reference.proofs.solving.solve_suffixes.Goals as goal

pub new-requires-clause-marked : goal.new-requires-clause-marked
new-requires-clause-marked c =
    let M : CellMarks → Type 0 = λ marks. (cell : Cell) → IsMarkedInRow marks cell ↔ IsDemanded c.args.prepared cell in
    let P : PosedProblem → Type 0 = λ p. (cell : Cell) → IsMarkedInRow c.in_ok-visits.visits.marks cell ↔ IsDemanded p cell in
    subst M (sym c.into_marks-marks.ensures) (subst P c.lines-lines.ensures c.in_ok-visits.ensures.rows)

pub new-requires-clause-scored : goal.new-requires-clause-scored
new-requires-clause-scored c =
    subst (λ (p : PosedProblem). (cell : Cell) → IsDemanded p cell → HasEntry c.in_ok-scores.scores cell) c.lines-lines.ensures
    c.in_ok-scores.ensures.scored

pub new-requires-clause-counted : goal.new-requires-clause-counted
new-requires-clause-counted c =
    let P : PosedProblem → Type 0 = λ p. (cell : Cell) → IsMarkedInRow c.in_ok-visits.visits.marks cell ↔ IsDemanded p cell in
    same_count (IsMarkedInRow c.in_ok-visits.visits.marks) (IsDemanded c.args.prepared)
    (subst P c.lines-lines.ensures c.in_ok-visits.ensures.rows) c.cells-cells.result c.cells-cells.ensures
