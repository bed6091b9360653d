use Rattle.std.proofs.Common.{◌≡◌, []}
use Rattle.adp_model.specs.declared.cell.Cell.{Cell}
use Rattle.seq_reference.specs.Filling.{IsFilledBeforeRule}
use Rattle.k_best.specs.ListTables.{AreListed, HasList}
use Rattle.k_best.proofs.filling.fill_span.Given as goal

abbrev pub invariant-loop-rule : goal.invariant-loop-rule
invariant-loop-rule l = record {
  listed : AreListed l.sweep.lines.now l.sweep.k l.table (IsFilledBeforeRule l.sweep.rules.now l.from l.to l.rule-index);
  kept : (cell : Cell) → HasList l.sweep.k l.fn.table cell → HasList l.sweep.k l.table cell;
  empty : l.list.items ≡ [];
}
