use Rattle.std.proofs.Common.{◌*◌, ◌^◌, ◌<◌, ◌≤◌}
use Rattle.adp_model.specs.Cells.{IsCountOf}
use Rattle.cell_tables.specs.Marks.{IsMarkedInRow}
use Rattle.cell_tables.proofs.marks.Marks.count.Given as goal

abbrev pub invariant-loop-rule : goal.invariant-loop-rule
invariant-loop-rule l = record {
  counted : IsCountOf (λ cell. IsMarkedInRow l.self cell × (cell.rule < l.rule)) l.count;
  few : l.count ≤ l.rule * 2 ^ 32;
}
