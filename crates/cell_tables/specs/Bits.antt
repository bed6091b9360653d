-- Bits for spans: the bits of 64 far ends stand in one number. That of a far end is the bit `far % 64` of the value of
-- the rule, the near end and `far / 64`.
use Rattle.std.specs.Prelude.{◌≡◌, ◌⊎◌, ◌↔◌, ℕ, ◌/◌, ◌%◌, ◌<◌, ◌≤◌, List, Some, slice_index}
use Rattle.std.specs.Int.{bit_at}
use Rattle.cell_tables.specs.Spans.{Spans, HasSameBlocks, value_at}

-- the bit of a span is there, and it is set
pub record IsSet (spans : Spans ℕ) (rule near far : ℕ) : Type 0 where
  pub word : ℕ
  pub there : value_at spans rule near (far / 64) ≡ Some word
  pub bit : bit_at word (far % 64) ≡ 1

-- the bits of this rule and near end whose far ends are these are set now, and of the others those that were
pub record AreSetToo (old new : Spans ℕ) (rule near : ℕ) (IsFar : ℕ → Type 0) : Type 0 where
  pub same : HasSameBlocks old new
  pub exact : (other_rule other_near far : ℕ) → IsSet new other_rule other_near far
      ↔ (IsSet old other_rule other_near far ⊎ ((other_rule ≡ rule) × (other_near ≡ near) × IsFar far))

-- the place is one of those from `first` on and before `past`, and its bit is set, among bits for the places from 0 on,
-- 64 in a number
pub record IsBitOf (bits : List ℕ) (first past place : ℕ) : Type 0 where
  pub from_first : first ≤ place
  pub before : place < past
  pub bit : bit_at (slice_index bits (place / 64)) (place % 64) ≡ 1

-- the far end is one of the 64 of this number, and its bit is set
pub record IsBitIn (word number far : ℕ) : Type 0 where
  pub number_is : far / 64 ≡ number
  pub bit : bit_at word (far % 64) ≡ 1

-- of the places from `first` on and before `past` whose bits are set, the first one at which it doesn't hold
pub record IsFirstMissing (bits : List ℕ) (first past : ℕ) (Holds : ℕ → Type 0) (place : ℕ) : Type 0 where
  pub set : IsBitOf bits first past place
  pub missing : Holds place → ⊥
  pub before : (other : ℕ) → IsBitOf bits first past other → other < place → Holds other
