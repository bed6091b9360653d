-- Positions of a boundary told by bits.
use Rattle.std.proofs.Common.{◌≡◌, ℕ, ◌+◌, ◌-◌, ◌*◌, ◌<◌, ◌≤◌, List, length, get_or, subst, arith}
use Rattle.std.specs.List.{Contains}
use Rattle.cell_tables.specs.Bits.{IsBitOf}
use Rattle.split_lines.specs.Flags.{AreBitsAmong}
use Rattle.cell_demands.proofs.RisingPositions.{first_stands, last_stands}

-- ---- the positions of a boundary, moved

module _ (positions : List ℕ) (shift : ℕ) (bits : List ℕ) (told : AreBitsAmong positions shift bits) (some : 0 < length positions) where
  abbrev first : ℕ
  first = get_or positions 0 0

  abbrev last : ℕ
  last = get_or positions (length positions - 1) 0

  pub first_set : IsBitOf bits (first + shift) (last + shift + 1) (first + shift)
  first_set = (told.exact some first).0 (first_stands positions some)

  pub last_set : IsBitOf bits (first + shift) (last + shift + 1) (last + shift)
  last_set = (told.exact some last).0 (last_stands positions some)

  pub room_behind : last + shift + 1 ≤ 64 * length bits
  room_behind = omega (arith, told.room last (last_stands positions some))

  -- the position of a bit
  pub position_of_bit : (at : ℕ) → IsBitOf bits (first + shift) (last + shift + 1) at → (position : ℕ) × Contains positions position × (at ≡ position + shift)
  position_of_bit at is =
      let same : at ≡ at - shift + shift = omega (arith, is.from_first) in
      (at - shift, (told.exact some (at - shift)).1 (subst (IsBitOf bits (first + shift) (last + shift + 1)) same is), same)

  pub bit_of_position : (position : ℕ) → Contains positions position → IsBitOf bits (first + shift) (last + shift + 1) (position + shift)
  bit_of_position position contains = (told.exact some position).0 contains

-- ---- the positions of a boundary themselves

module _ (positions : List ℕ) (bits : List ℕ) (told : AreBitsAmong positions 0 bits) (some : 0 < length positions) where
  abbrev IsHere : ℕ → Type 0
  IsHere = IsBitOf bits (get_or positions 0 0) (get_or positions (length positions - 1) 0 + 1)

  here : (at : ℕ) → IsBitOf bits (get_or positions 0 0 + 0) (get_or positions (length positions - 1) 0 + 0 + 1) at → IsHere at
  here at is = record { from_first = omega (arith, is.from_first); before = omega (arith, is.before); bit = is.bit }

  moved : (at : ℕ) → IsHere at → IsBitOf bits (get_or positions 0 0 + 0) (get_or positions (length positions - 1) 0 + 0 + 1) at
  moved at is = record { from_first = omega (arith, is.from_first); before = omega (arith, is.before); bit = is.bit }

  pub here_of_position : (position : ℕ) → Contains positions position → IsHere position
  here_of_position position contains =
      let same : position + 0 ≡ position = omega arith in
      subst IsHere same (here (position + 0) (bit_of_position positions 0 bits told some position contains))

  pub position_here : (at : ℕ) → IsHere at → Contains positions at
  position_here at is =
      let found = position_of_bit positions 0 bits told some at (moved at is) in
      let same : found.0 ≡ at = omega (arith, found.2) in
      subst (Contains positions) same found.1

  pub first_here : IsHere (get_or positions 0 0)
  first_here = here_of_position (get_or positions 0 0) (first_stands positions some)

  pub last_here : IsHere (get_or positions (length positions - 1) 0)
  last_here = here_of_position (get_or positions (length positions - 1) 0) (last_stands positions some)

  pub room_here : get_or positions (length positions - 1) 0 + 1 ≤ 64 * length bits
  room_here = omega (arith, told.room (get_or positions (length positions - 1) 0) (last_stands positions some))
