use Rattle.std.proofs.Common.{◌≤◌, ◌^◌, ℕ, ◌-◌, ◌*◌}
use Rattle.memo_words.proofs.bits.bits_for.Given as goal

abbrev pub invariant-loop-bits : goal.invariant-loop-bits
invariant-loop-bits l = (1 ≤ l.bits) × (l.bits ≤ 22) × ((fewer : ℕ) → 1 ≤ fewer → 2 * l.cells ≤ 2 ^ fewer
    → l.bits ≤ fewer)

abbrev pub decreases-loop-bits : goal.decreases-loop-bits
decreases-loop-bits l = 22 - l.bits
