use Rattle.std.proofs.Common.{◌↔◌, sym, subst, ◌∙◌}
use Rattle.adp_model.specs.declared.cell.Cell.{Cell}
use Rattle.adp_model.specs.PosedProblem.{PosedProblem}
use Rattle.adp_model.specs.Demand.{IsDemanded, IsDemandedCount}
use Rattle.cell_answers.specs.Entries.{HasEntry}
use Rattle.cell_tables.specs.Marks.{IsMarkedInRow}
use Rattle.seq_reference.proofs.solving.solve_cells.Goals as goal

pub demanded_marks-requires : goal.demanded_marks-requires
demanded_marks-requires c = c.layout-layout.ensures ∙ sym c.lines-lines.ensures

pub filled_scores-requires-clause-same_problem : goal.filled_scores-requires-clause-same_problem
filled_scores-requires-clause-same_problem c = c.in_ok-marks.ensures.problem

pub filled_scores-requires-clause-same_layout : goal.filled_scores-requires-clause-same_layout
filled_scores-requires-clause-same_layout c = c.layout-layout.ensures ∙ sym c.lines-lines.ensures

pub filled_scores-requires-clause-marked : goal.filled_scores-requires-clause-marked
filled_scores-requires-clause-marked c = c.in_ok-marks.ensures.rows

pub count-cells-requires : goal.count-cells-requires
count-cells-requires c =
    let R : PosedProblem → Type 0 = λ p. (cell : Cell) → IsMarkedInRow c.in_ok-marks.marks cell ↔ IsDemanded p cell in
    subst R (sym c.in_ok-marks.ensures.problem) c.in_ok-marks.ensures.rows

pub new-requires-clause-same_problem : goal.new-requires-clause-same_problem
new-requires-clause-same_problem c = c.in_ok-scores.ensures.problem ∙ c.lines-lines.ensures

pub new-requires-clause-marked : goal.new-requires-clause-marked
new-requires-clause-marked c =
    subst (λ (p : PosedProblem). (cell : Cell) → IsMarkedInRow c.in_ok-marks.marks cell ↔ IsDemanded p cell) c.lines-lines.ensures
    c.in_ok-marks.ensures.rows

pub new-requires-clause-scored : goal.new-requires-clause-scored
new-requires-clause-scored c =
    subst (λ (p : PosedProblem). (cell : Cell) → IsDemanded p cell → HasEntry c.in_ok-scores.scores cell) c.lines-lines.ensures
    c.in_ok-scores.ensures.scored

pub new-requires-clause-counted : goal.new-requires-clause-counted
new-requires-clause-counted c =
    subst (λ (p : PosedProblem). IsDemandedCount p c.count-cells.result) (c.in_ok-marks.ensures.problem ∙ c.lines-lines.ensures)
    c.count-cells.ensures

pub returns : goal.returns
returns c = c.new.ensures
