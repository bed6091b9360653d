use Rattle.std.proofs.Common.{ℕ, ◌*◌, ◌<◌, ◌≤◌}
use Rattle.cell_tables.specs.Marks.{IsSpanMarked}
use Rattle.cell_tables.proofs.marks.Marks.last_before.Given as goal

-- none of the ends from this number on is marked
abbrev pub invariant-loop-number : goal.invariant-loop-number
invariant-loop-number l = (to : ℕ) → 64 * l.number ≤ to → to < 64 * l.past → IsSpanMarked l.self l.rules l.from to → ⊥
