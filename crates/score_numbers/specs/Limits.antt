-- Positions of a word told by limits of sums of 16 bits, side by side: where there is no limit, a sum counts.
use Rattle.std.specs.Prelude.{◌≡◌, ◌↔◌, ◌⊎◌, ℕ, ◌+◌, ◌-◌, ◌^◌, ◌<◌, ◌≤◌, ℤ, pos, Some, List, length, slice_get, slice_index}
use Rattle.std.specs.List.{Contains}
use Rattle.score_numbers.specs.Packing.{short}

-- the limit that no sum passes: the greatest number of 16 bits
abbrev pub no_limit : ℤ
no_limit = pos (2 ^ 15 - 1)

-- each of them is none, or the mark
abbrev pub AreLimits : List ℤ → Type 0
AreLimits limits = (k : ℕ) (limit : ℤ) → slice_get limits k ≡ Some limit → (limit ≡ no_limit) ⊎ (limit ≡ short.mark)

-- there is no limit at this position, among limits for the positions from `first` on
abbrev pub IsUnlimited : List ℤ → ℕ → ℕ → Type 0
IsUnlimited limits first position = (first ≤ position) × (slice_get limits (position - first) ≡ Some no_limit)

-- there is a limit for each position from the first of these to the last one: none where that is one of them, else the
-- mark
pub record AreLimited (positions : List ℕ) (limits : List ℤ) : Type 0 where
  pub proper : AreLimits limits
  pub exact : (position : ℕ) → Contains positions position ↔ IsUnlimited limits (slice_index positions 0) position
  pub last : 0 < length limits
      → IsUnlimited limits (slice_index positions 0) (slice_index positions 0 + length limits - 1)
