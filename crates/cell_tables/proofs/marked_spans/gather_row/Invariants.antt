use Rattle.std.proofs.Common.{◌↔◌, ℕ, ◌/◌, ◌<◌, ◌≤◌, IsTrue}
use Rattle.cell_tables.specs.Bits.{AreSetToo, IsSet}
use Rattle.cell_tables.proofs.marked_spans.gather_row.Given as goal

abbrev pub invariant-loop-number : goal.invariant-loop-number
invariant-loop-number l = record {
  set : AreSetToo l.initial.rows l.rows l.rule l.from (λ to. (l.first ≤ to) × (to < l.past) × (to / 64 < l.number) × IsSet l.columns l.rule to l.from);
  any : IsTrue l.any ↔ ((to : ℕ) × ((l.first ≤ to) × (to < l.past) × (to / 64 < l.number) × IsSet l.columns l.rule to l.from));
}
