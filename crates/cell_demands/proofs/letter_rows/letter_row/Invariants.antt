use Rattle.std.proofs.Common.{◌≡◌, ℕ, ◌+◌, ◌*◌, ◌<◌, ◌≤◌, Some, length, slice_get}
use Rattle.cell_demands.specs.PlaceBits.{HasBit}
use Rattle.cell_demands.proofs.letter_rows.letter_row.Given as goal

abbrev pub invariant-loop-place : goal.invariant-loop-place
invariant-loop-place l = record {
  many : length l.word + 1 ≤ 64 * length l.bits.items;
  set : (other : ℕ) → other < l.place → slice_get l.word other ≡ Some l.letter → HasBit l.bits.items other;
}
