-- Flags, by numbers.
use Rattle.std.specs.Prelude.{◌≡◌, ◌↔◌, ◌⊎◌, ℕ, Bool, true, IsTrue, Some, List, length, slice_get}

-- the flag of this number is set
abbrev pub IsFlagged : List Bool → ℕ → Type 0
IsFlagged flags number = slice_get flags number ≡ Some true

-- the flags that were set are set, and that of this number where the new one is, and no others
pub record IsRaised (old new : List Bool) (number : ℕ) (flag : Bool) : Type 0 where
  pub as_many : length new ≡ length old
  pub exact : (other : ℕ) → IsFlagged new other ↔ (IsFlagged old other ⊎ (IsTrue flag × (other ≡ number)))
