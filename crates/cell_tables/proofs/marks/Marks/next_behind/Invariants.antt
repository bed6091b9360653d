use Rattle.std.proofs.Common.{ℕ, ◌*◌, ◌<◌, ◌≤◌}
use Rattle.cell_tables.specs.Marks.{IsEndMarked}
use Rattle.cell_tables.proofs.marks.Marks.next_behind.Given as goal

-- none of the ends before this number is marked
abbrev pub invariant-loop-number : goal.invariant-loop-number
invariant-loop-number l = (to : ℕ) → 64 * l.least ≤ to → to < 64 * l.number → IsEndMarked l.self l.rules l.first l.past to → ⊥
