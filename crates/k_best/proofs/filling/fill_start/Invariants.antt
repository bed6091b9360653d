use Rattle.std.proofs.Common.{◌≡◌, ◌+◌, ◌-◌, [], length}
use Rattle.seq_reference.specs.Filling.{IsFilledBefore}
use Rattle.k_best.specs.ListTables.{AreListed}
use Rattle.k_best.proofs.filling.fill_start.Given as goal

abbrev pub invariant-loop-to : goal.invariant-loop-to
invariant-loop-to l = record {
  listed : AreListed l.sweep.lines.now l.sweep.k l.table (IsFilledBefore l.from (l.from + 1) l.least);
  empty : l.list.items ≡ [];
}

abbrev pub decreases-loop-to : goal.decreases-loop-to
decreases-loop-to l = length l.sweep.lines.now.word + 1 - l.least
