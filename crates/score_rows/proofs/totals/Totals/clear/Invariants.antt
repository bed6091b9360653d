use Rattle.std.proofs.Common.{◌≡◌, ◌⊎◌, ◌<◌, ◌≤◌, ◌<ℤ◌, ℕ, ℤ, Some, length, map, slice_get}
use Rattle.score_rows.specs.Numbers.{least}
use Rattle.score_rows.proofs.totals.Totals.clear.Given as goal

abbrev pub invariant-loop-position : goal.invariant-loop-position
invariant-loop-position g l = record {
  long : length l.self-inside.numbers.items ≡ length l.initial.self-inside.numbers.items;
  dead : (k : ℕ) (number : ℤ) → slice_get (map g.N.RowNumber.value l.self-inside.numbers.items) k ≡ Some number
      → ((k < l.position) ⊎ (l.position-end ≤ k)) → number <ℤ least g.N.RowNumber.width;
}
