use Rattle.std.proofs.Common.{ℕ, ◌↔◌, ◌<◌, ◌≤◌}
use Rattle.cell_tables.specs.Bits.{IsBitIn, IsSet}
use Rattle.cell_tables.proofs.marked_spans.turned_bits.Given as goal

abbrev pub invariant-loop-to : goal.invariant-loop-to
invariant-loop-to l = (to : ℕ) → IsBitIn l.bits l.number to ↔ ((l.first ≤ to) × (to < l.to) × IsSet l.columns l.rule to l.from)
