use Rattle.std.proofs.Common.{ℕ, ◌/◌, ◌<◌}
use Rattle.cell_tables.specs.Bits.{IsBitOf, IsSet}
use Rattle.cell_tables.proofs.bits.Grid+u64.first_missing.Given as goal

-- of the numbers so far all are set
abbrev pub invariant-loop-number : goal.invariant-loop-number
invariant-loop-number l =
    (far : ℕ) → IsBitOf l.bits l.first l.past far → far / 64 < l.number → IsSet l.self l.rule l.near far
