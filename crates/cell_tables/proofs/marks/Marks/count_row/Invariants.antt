use Rattle.std.proofs.Common.{◌≡◌, ◌*◌, ◌/◌, ◌<◌, ◌≤◌}
use Rattle.adp_model.specs.Cells.{IsCountOf}
use Rattle.cell_tables.specs.Marks.{IsMarkedInRow}
use Rattle.cell_tables.proofs.marks.Marks.count_row.Given as goal

abbrev pub invariant-loop-number : goal.invariant-loop-number
invariant-loop-number l = record {
  counted : IsCountOf (λ cell. IsMarkedInRow l.self cell × (cell.rule ≡ l.rule) × (cell.from ≡ l.from) × (cell.to / 64 < l.number)) l.count;
  few : l.count ≤ l.number * 64;
}
