use Rattle.std.proofs.Common.{subst}
use Rattle.std.specs.Prelude.{length}
use Rattle.adp_model.specs.declared.cell.Cell.{Cell}
use Rattle.adp_model.specs.PosedProblem.{PosedProblem}
use Rattle.adp_model.specs.Cells.{IsCounted}
use Rattle.cell_tables.proofs.noted.Noted.new.Goals as goal

pub invariant_of-result : goal.invariant_of-result
invariant_of-result c =
    let C : Cell → PosedProblem → Type 0 = λ cell q. IsCounted q.grammar (length q.word) cell in
    let no_row = c.in_ok-rows.ensures.none in
    let no_column = c.in_ok-columns.ensures.none in
    record {
      row_there = λ cell is. c.in_ok-rows.ensures.there cell.rule cell.from cell.to (subst (C cell) c.problem.ensures is);
      column_there = λ cell is.
          c.in_ok-columns.ensures.there cell.rule cell.to cell.from (subst (C cell) c.problem.ensures is);
      together = λ cell. (
        λ set. absurd (no_row cell.rule cell.from cell.to set),
        λ set. absurd (no_column cell.rule cell.to cell.from set),
      );
      counted = λ cell set. absurd (no_row cell.rule cell.from cell.to set);
    }

pub returns-clause-none : goal.returns-clause-none
returns-clause-none c = λ cell set. c.in_ok-rows.ensures.none cell.rule cell.from cell.to set
