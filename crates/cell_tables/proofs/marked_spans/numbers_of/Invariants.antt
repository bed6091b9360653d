use Rattle.std.proofs.Common.{ℕ, ◌<◌, ◌≤◌}
use Rattle.std.specs.Prelude.{IsSome, slice_index}
use Rattle.cell_tables.specs.Spans.{value_at}
use Rattle.cell_tables.proofs.marked_spans.numbers_of.Given as goal

-- the bits of the rules so far lie between them
abbrev pub invariant-loop-rule : goal.invariant-loop-rule
invariant-loop-rule l =
    (k number : ℕ) → k < l.rule-index → IsSome (value_at l.spans (slice_index l.rules k) l.near number) → (l.low ≤ number) × (number < l.high)
