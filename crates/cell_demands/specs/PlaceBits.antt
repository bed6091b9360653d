-- Bits for positions of a word, 64 in a number.
use Rattle.std.specs.Prelude.{◌≡◌, ◌↔◌, ◌⊎◌, ℕ, ◌+◌, ◌*◌, ◌/◌, ◌%◌, ◌≤◌, List, length, slice_index}
use Rattle.std.specs.Int.{bit_at}
use Rattle.adp_model.specs.PosedProblem.{PosedProblem}
use Rattle.cell_tables.specs.Bits.{IsBitIn, IsBitOf}

-- the bit of the place is set, among bits for the places from 0 on, 64 in a number
abbrev pub HasBit : List ℕ → ℕ → Type 0
HasBit bits place = bit_at (slice_index bits (place / 64)) (place % 64) ≡ 1

-- there is a bit for each position of the word
abbrev pub HaveBits : PosedProblem → List ℕ → Type 0
HaveBits p bits = length p.word + 1 ≤ 64 * length bits

-- the bits of the places of which it holds are set too, and of the others those that were
pub record HaveBitsToo (old new : List ℕ) (Holds : ℕ → Type 0) : Type 0 where
  pub as_many : length new ≡ length old
  pub exact : (place : ℕ) → HasBit new place ↔ (HasBit old place ⊎ Holds place)

-- of the 64 places of the number with this place, one from it on whose bit is set
abbrev pub IsAhead : ℕ → ℕ → ℕ → Type 0
IsAhead word place other = (place ≤ other) × IsBitIn word (place / 64) other

-- the first of these
pub record IsFirstAhead (word place found : ℕ) : Type 0 where
  pub set : IsAhead word place found
  pub first : (other : ℕ) → IsAhead word place other → found ≤ other

-- of the 64 places of the number with this place, one up to it whose bit is set
abbrev pub IsBehind : ℕ → ℕ → ℕ → Type 0
IsBehind word place other = (other ≤ place) × IsBitIn word (place / 64) other

-- the last of these
pub record IsLastBehind (word place found : ℕ) : Type 0 where
  pub set : IsBehind word place found
  pub last : (other : ℕ) → IsBehind word place other → other ≤ found

-- of the places from `first` on and before `past` whose bits are set, the last one
pub record IsLastBit (bits : List ℕ) (first past place : ℕ) : Type 0 where
  pub set : IsBitOf bits first past place
  pub last : (other : ℕ) → IsBitOf bits first past other → other ≤ place
