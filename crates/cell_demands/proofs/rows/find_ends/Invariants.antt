use Rattle.std.proofs.Common.{◌≡◌, ◌↔◌, ℕ, ◌<◌, ◌≤◌, length}
use Rattle.cell_tables.specs.Marks.{IsMarkedInRow}
use Rattle.cell_demands.specs.PlaceBits.{HasBit}
use Rattle.cell_demands.proofs.rows.find_ends.Given as goal

abbrev pub invariant-loop-to : goal.invariant-loop-to
invariant-loop-to l = record {
  as_many : length l.ends ≡ length l.initial.ends;
  exact : (to : ℕ) → HasBit l.ends to ↔ ((l.fn.range.start ≤ to) × (to < l.to)
      × IsMarkedInRow l.marks (record { rule = l.rule; from = l.from; to = to }));
}
