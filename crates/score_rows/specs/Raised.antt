-- Rows of numbers that were raised to the greatest of others.
use Rattle.std.specs.Prelude.{◌≡◌, ℕ, ◌+◌, ◌<◌, ◌≤◌, ◌⊎◌, ℤ, ◌+ℤ◌, ◌*ℤ◌, ◌<ℤ◌, ◌≤ℤ◌, nat_abs, Some, List, length, slice_get}
use Rattle.adp_model.specs.declared.grammar.Goal.{Goal}
use Rattle.score_numbers.specs.Packing.{Width}
use Rattle.score_numbers.specs.Turned.{turned}
use Rattle.score_rows.specs.Numbers.{least}

-- the number that was `before` is now the highest of that and of the numbers of which it holds; less than all scores, it
-- may be any
pub record IsHighest (width : Width) (Holds : ℤ → Type 0) (before after : ℤ) : Type 0 where
  pub risen : before ≤ℤ after
  pub all : (number : ℤ) → Holds number → number ≤ℤ after
  pub one : (after ≡ before) ⊎ (Holds after ⊎ (after <ℤ least width))

-- each number of a row is now the highest of itself and of the numbers that hold at its position, where these are low
pub record AreHighest (width : Width) (Holds : ℕ → ℤ → Type 0) (IsLow : ℕ → Type 0) (old new : List ℤ) : Type 0 where
  pub as_many : length new ≡ length old
  pub each : (k : ℕ) (before : ℤ) → slice_get old k ≡ Some before → IsLow k
      → (after : ℤ) × (slice_get new k ≡ Some after) × IsHighest width (Holds k) before after

-- at any position
abbrev pub IsAnywhere : ℕ → Type 0
IsAnywhere k = Unit {0}

-- this number, at this position
abbrev pub IsAt : ℕ → ℤ → ℕ → ℤ → Type 0
IsAt position number k other = (k ≡ position) × (other ≡ number)

-- the number of another row in this place, which lies between two positions
abbrev pub HasNumber : ℕ → ℕ → List ℤ → ℕ → ℤ → Type 0
HasNumber first past others k number = (first ≤ k) × (k < past) × (slice_get others k ≡ Some number)

-- the same, where the number stands for a score
abbrev pub HasScore : Width → ℕ → ℕ → List ℤ → ℕ → ℤ → Type 0
HasScore width first past others k number = HasNumber first past others k number × (least width ≤ℤ number)

-- the other number that stands at this position, where others stand side by side from a position on
abbrev pub IsBeside : ℕ → List ℤ → ℕ → ℤ → Type 0
IsBeside at others k other = (place : ℕ) × (k ≡ at + place) × (slice_get others place ≡ Some other)

-- the sum of one of the others, which is not the mark, and a number
abbrev pub HasSum : Width → ℤ → ℕ → List ℤ → ℕ → ℤ → Type 0
HasSum width add at others k sum =
    (other : ℤ) × IsBeside at others k other × (other ≡ width.mark → ⊥) × (sum ≡ (other +ℤ add))

-- where one of the others stands the number is within the limit, and so is the sum with it, if that is not the mark
abbrev pub AreLowSums : Width → ℤ → ℕ → List ℤ → ℕ → Type 0
AreLowSums width add at others k =
    (other : ℤ) → IsBeside at others k other
    → (nat_abs add ≤ width.limit) × ((other ≡ width.mark → ⊥) → nat_abs (other +ℤ add) ≤ width.limit)

-- the sum of the score that one of the others stands for, times a factor, and a number
abbrev pub HasProduct : Width → Goal → ℤ → ℤ → ℕ → List ℤ → ℕ → ℤ → Type 0
HasProduct width goal factor add at others k sum =
    (other : ℤ) × IsBeside at others k other × (other ≡ width.mark → ⊥)
    × (sum ≡ ((factor *ℤ turned goal other) +ℤ add))

-- where one of the others stands the number is within the limit, and so is such a sum
abbrev pub AreLowProducts : Width → Goal → ℤ → ℤ → ℕ → List ℤ → ℕ → Type 0
AreLowProducts width goal factor add at others k =
    (other : ℤ) → IsBeside at others k other
    → (nat_abs add ≤ width.limit)
    × ((other ≡ width.mark → ⊥) → nat_abs ((factor *ℤ turned goal other) +ℤ add) ≤ width.limit)
