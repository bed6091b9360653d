-- Values for spans: by a rule, a near end and a far end of a span. Those of one rule and one near end stand side by
-- side, in order of far ends.
use Rattle.std.specs.Prelude.{◌≡◌, ℕ, ◌+◌, ◌-◌, ◌*◌, ◌<◌, ◌≤◌, ◌&&◌, nat_le, nat_lt, Option, Some, None, List, length, slice_get, slice_index_or, if◌then◌else◌}
use Rattle.cell_layouts.specs.declared.layout.Block.{Block}
use Rattle.cell_layouts.specs.Layout.{AreLaid}

-- how many near ends a rule has, the block of each rule and near end, rule by rule, and the values of all blocks
pub record Spans (V : Type 0) : Type 0 where
  pub positions : ℕ
  pub blocks : List Block
  pub values : List V

-- the block of a rule and a near end; an empty one where there is none
abbrev pub block_at : {V : Type 0} → Spans V → ℕ → ℕ → Block
block_at spans rule near =
    slice_index_or spans.blocks (rule * spans.positions + near) (record { place = 0; first = 0; past = 0 })

-- the place of a span's value
abbrev pub place_of : {V : Type 0} → Spans V → ℕ → ℕ → ℕ → ℕ
place_of spans rule near far = (block_at spans rule near).place + (far - (block_at spans rule near).first)

-- the value of a span, where it has one
abbrev pub value_at : {V : Type 0} → Spans V → ℕ → ℕ → ℕ → Option V
value_at spans rule near far =
    if nat_lt near spans.positions
    && (nat_le (block_at spans rule near).first far && nat_lt far (block_at spans rule near).past)
    then slice_get spans.values (place_of spans rule near far)
    else None

-- the span stands in a block
pub record Stands {V : Type 0} (spans : Spans V) (rule near far : ℕ) : Type 0 where
  pub near_in : near < spans.positions
  pub low : (block_at spans rule near).first ≤ far
  pub high : far < (block_at spans rule near).past

-- the blocks lie one behind the other, and their values are there
abbrev pub AreBlocks : {V : Type 0} → Spans V → Type 0
AreBlocks spans = AreLaid spans.blocks (length spans.values)

-- the values at places of which it holds are this one now, and all others what they were
pub record AreSet {V : Type 0} (old new : List V) (Here : ℕ → Type 0) (value : V) : Type 0 where
  pub as_many : length new ≡ length old
  pub there : (place : ℕ) → Here place → place < length old → slice_get new place ≡ Some value
  pub others : (place : ℕ) → (Here place → ⊥) → slice_get new place ≡ slice_get old place

-- the spans have the same blocks
pub record HasSameBlocks {V : Type 0} (old new : Spans V) : Type 0 where
  pub positions : new.positions ≡ old.positions
  pub blocks : new.blocks ≡ old.blocks
  pub as_many : length new.values ≡ length old.values

-- one span has this value now, and all others have what they had
pub record IsWritten {V : Type 0} (old new : Spans V) (rule near far : ℕ) (value : V) : Type 0 where
  pub same : HasSameBlocks old new
  pub there : value_at new rule near far ≡ Some value
  pub others : (other_rule other_near other_far : ℕ)
      → ((other_rule ≡ rule) × (other_near ≡ near) × (other_far ≡ far) → ⊥)
      → value_at new other_rule other_near other_far ≡ value_at old other_rule other_near other_far

-- the spans of this rule and near end whose far end is one of these have this value now, and all others what they had
pub record AreWritten {V : Type 0} (old new : Spans V) (rule near : ℕ) (IsFar : ℕ → Type 0) (value : V) : Type 0 where
  pub same : HasSameBlocks old new
  pub there : (far : ℕ) → IsFar far → value_at new rule near far ≡ Some value
  pub others : (other_rule other_near other_far : ℕ)
      → ((other_rule ≡ rule) × (other_near ≡ near) × IsFar other_far → ⊥)
      → value_at new other_rule other_near other_far ≡ value_at old other_rule other_near other_far
