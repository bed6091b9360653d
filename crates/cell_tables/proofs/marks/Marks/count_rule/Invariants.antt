use Rattle.std.proofs.Common.{◌≡◌, ◌*◌, ◌<◌, ◌≤◌}
use Rattle.adp_model.specs.Cells.{IsCountOf}
use Rattle.cell_tables.specs.Marks.{IsMarkedInRow}
use Rattle.cell_tables.proofs.marks.Marks.count_rule.Given as goal

abbrev pub invariant-loop-from : goal.invariant-loop-from
invariant-loop-from l = record {
  counted : IsCountOf (λ cell. IsMarkedInRow l.self cell × (cell.rule ≡ l.rule) × (cell.from < l.from)) l.count;
  few : l.count ≤ l.from * 65536;
}
