use Rattle.std.specs.Prelude.{◌≡◌, ℕ, ◌+◌, ◌<◌, length, slice_index, take}
use Rattle.argument_search.proofs.skipping.moved.Given as goal

abbrev pub invariant-loop-number : goal.invariant-loop-number
invariant-loop-number l = record {
  front : take l.first l.moved ≡ take l.first l.cuts;
  behind : (k : ℕ) → l.first + l.between < k → slice_index l.moved k ≡ slice_index l.cuts k;
  size : length l.moved ≡ 3;
}
