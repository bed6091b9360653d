-- Bits in numbers side by side, 64 in each.
use Rattle.std.specs.Prelude.{◌≡◌, ◌⊎◌, ◌↔◌, ℕ, ◌+◌, ◌-◌, ◌/◌, ◌%◌, ◌<◌, List, length, slice_index}
use Rattle.std.specs.Int.{bit_at}

-- the bits of which it holds, by their number and the place in it, are set now, and of the others those that were
pub record AreBitsSet (old new : List ℕ) (Holds : ℕ → ℕ → Type 0) : Type 0 where
  pub as_many : length new ≡ length old
  pub exact : (number place : ℕ) → place < 64 → (bit_at (slice_index new number) place ≡ 1)
      ↔ ((bit_at (slice_index old number) place ≡ 1) ⊎ Holds number place)

-- the bit is that of one of these far ends: the numbers of the far ends from `64 * low` on stand from `start` on
abbrev pub IsBitOfFar : ℕ → ℕ → (ℕ → Type 0) → ℕ → ℕ → Type 0
IsBitOfFar start low IsFar number place =
    (far : ℕ) × IsFar far × (number ≡ start + (far / 64 - low)) × (place ≡ far % 64)
