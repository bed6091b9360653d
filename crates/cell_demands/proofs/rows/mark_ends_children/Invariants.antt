use Rattle.std.proofs.Common.{ℕ}
use Rattle.cell_demands.specs.PlaceBits.{HasBit}
use Rattle.cell_demands.specs.Rows.{AreMarkedInRows, HaveAllBits}
use Rattle.cell_demands.proofs.LineDemands.{DemandsByFirst}
use Rattle.cell_demands.proofs.rows.mark_ends_children.Given as goal

abbrev pub invariant-loop-number : goal.invariant-loop-number
invariant-loop-number l = record {
  bits : HaveAllBits l.lines l.boundaries;
  marked : AreMarkedInRows l.initial.marks l.marks
      (λ child. (to : ℕ) × HasBit l.ends to
      × DemandsByFirst l.lines (record { rule = l.rule; from = l.from; to = to }) l.number child);
}
