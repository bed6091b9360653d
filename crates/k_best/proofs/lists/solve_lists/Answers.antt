use Rattle.std.proofs.Common.{◌↔◌, sym, subst}
use Rattle.adp_model.specs.declared.cell.Cell.{Cell}
use Rattle.adp_model.specs.PosedProblem.{PosedProblem}
use Rattle.adp_model.specs.Demand.{IsDemanded}
use Rattle.cell_tables.specs.Marks.{IsMarkedInRow}
use Rattle.k_best.specs.ListTables.{AreListed}
use Rattle.k_best.proofs.lists.solve_lists.Goals as goal

pub invariant_of-result : goal.invariant_of-result
invariant_of-result c =
    let L : PosedProblem → Type 0 = λ p. (cell : Cell) → IsMarkedInRow c.in_ok-marks.marks cell ↔ IsDemanded p cell in
    record {
      marked = subst L (sym c.problem-problem.ensures) c.in_ok-marks.ensures.rows;
      listed = subst (λ (p : PosedProblem). AreListed p c.args.k c.in_ok-table.table (IsDemanded p)) (sym c.problem-problem.ensures) c.in_ok-table.ensures;
    }
