use Rattle.std.proofs.Common.{◌≡◌, []}
use Rattle.seq_reference.specs.Filling.{IsFromStart}
use Rattle.k_best.specs.ListTables.{AreListed}
use Rattle.k_best.proofs.filling.fill_all.Given as goal

abbrev pub invariant-loop-from : goal.invariant-loop-from
invariant-loop-from l = record {
  listed : AreListed l.sweep.lines.now l.sweep.k l.table (IsFromStart l.from);
  empty : l.list.items ≡ [];
}
