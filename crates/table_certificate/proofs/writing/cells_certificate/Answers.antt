use Rattle.std.proofs.Common.{slice_index_or, subst}
use Rattle.adp_model.specs.declared.cell.Cell.{Cell}
use Rattle.adp_model.specs.PosedProblem.{PosedProblem}
use Rattle.table_certificate.specs.BestScores.{IsBestScore}
use Rattle.table_certificate.proofs.ListedCells.{at_any, contains_at}
use Rattle.table_certificate.proofs.WrittenLines.{one_more_line}
use Rattle.table_certificate.proofs.writing.cells_certificate.Goals as goal

pub push_cell_line-requires : goal.push_cell_line-requires
push_cell_line-requires g c =
    let none : Cell = record { rule = 0; from = 0; to = 0 } in
    let cell = slice_index_or c.args.cells.now c.loop-cell.cell-index none in
    let needed = c.requires.cells.each cell (contains_at c.args.cells.now c.loop-cell.cell-index none c.loop-cell-test.true) in
    (c.demanded_cells_are_counted.ensures c.args.problem.now c.admissible.ensures.checked.well_formed cell needed).rule

pub loop-cell-preserved : goal.loop-cell-preserved
loop-cell-preserved g c =
    let none : Cell = record { rule = 0; from = 0; to = 0 } in
    let cell = slice_index_or c.args.cells.now c.loop-cell.cell-index none in
    let best = subst (λ (p : PosedProblem). IsBestScore p cell c.best_score.result) c.requires.scores c.best_score.ensures in
    one_more_line c.args.problem.now c.args.number c.args.cells.now c.loop-cell.cell-index c.loop-cell.out.items c.push_cell_line.new.out.items cell c.best_score.result
    c.loop-cell.invariant c.loop-cell-test.true (at_any c.args.cells.now c.loop-cell.cell-index cell none c.loop-cell-test.true) best c.in_ok-push_cell_line.ensures
