-- Places of a word told by bits.
use Rattle.std.specs.Prelude.{◌≡◌, ◌↔◌, ℕ, ◌+◌, ◌-◌, ◌*◌, ◌/◌, ◌%◌, ◌<◌, List, length, slice_index}
use Rattle.std.specs.Int.{bit_at}
use Rattle.std.specs.List.{Contains}
use Rattle.cell_tables.specs.Bits.{IsBitOf}

-- of bits for the positions from 0 on, 64 in a number, those of these positions are set, each moved by `shift`, and no
-- others
pub record AreBits (positions : List ℕ) (shift : ℕ) (bits : List ℕ) : Type 0 where
  pub room : (position : ℕ) → Contains positions position → position + shift < 64 * length bits
  pub exact : (at : ℕ) → (bit_at (slice_index bits (at / 64)) (at % 64) ≡ 1)
      ↔ ((position : ℕ) × Contains positions position × (at ≡ position + shift))

-- of the bits from that of the first of these positions to that of the last one, those of these positions are set, and
-- no others
pub record AreBitsAmong (positions : List ℕ) (shift : ℕ) (bits : List ℕ) : Type 0 where
  pub room : (position : ℕ) → Contains positions position → position + shift < 64 * length bits
  pub exact : 0 < length positions → (position : ℕ) → Contains positions position
      ↔ IsBitOf bits (slice_index positions 0 + shift) (slice_index positions (length positions - 1) + shift + 1)
      (position + shift)
