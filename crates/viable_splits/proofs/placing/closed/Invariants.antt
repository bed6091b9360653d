use Rattle.std.proofs.Common.{◌≡◌, ℕ, ◌<◌, ◌≤◌, length, take, get_or}
use Rattle.viable_splits.proofs.placing.closed.Given as goal

-- the boundaries so far stand at the end, and those before them as they did
abbrev pub invariant-loop-boundary : goal.invariant-loop-boundary
invariant-loop-boundary l =
    (l.cuts.turns ≡ l.initial.cuts.turns)
    × (length l.cuts.at ≡ 3)
    × (take l.number l.cuts.at ≡ take l.number l.initial.cuts.at)
    × ((k : ℕ) → l.number ≤ k → k < l.boundary → get_or l.cuts.at k 0 ≡ l.cell.to)
