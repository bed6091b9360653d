use Rattle.std.proofs.Common.{ℕ, ◌/◌, ◌<◌, ◌≤◌}
use Rattle.cell_tables.specs.Marks.{IsSpanMarked}
use Rattle.cell_tables.proofs.marks.Marks.numbers.Given as goal

-- the ends of marked spans from the starts so far lie between them
abbrev pub invariant-loop-from : goal.invariant-loop-from
invariant-loop-from l =
    (from to : ℕ) → l.first ≤ from → from < l.from → IsSpanMarked l.self l.rules from to → (l.low ≤ to / 64) × (to / 64 < l.high)
