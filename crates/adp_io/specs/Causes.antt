-- Counts of faults: where they rise, and by how much.
use Rattle.std.specs.Prelude.{◌≡◌, ℕ, ◌+◌, ◌-◌, ◌^◌, ◌<◌, ◌≤◌, min, List, length, Result, Ok, Err}

-- a count of 64 bits after one more; at its greatest value it stands still
abbrev pub next_count : ℕ → ℕ
next_count count = min (count + 1) (2 ^ 64 - 1)

-- the count rose, or stands at its greatest value
abbrev pub Rose : ℕ → ℕ → Type 0
Rose before now = next_count before ≤ now

-- over a call the count rises by one where the call failed and stands still where it did not: it never falls
pub record RisesWhere (before now : ℕ) (failed : Type 0) : Type 0 where
  pub later : before ≤ now
  pub rises : failed → now ≡ next_count before
  pub stands : ¬ failed → now ≡ before

-- a write failed, or took nothing of a piece that is not empty
abbrev pub IsFailedWrite : {E : Type 0} → Result ℕ E → List ℕ → Type 0
IsFailedWrite (Ok count) piece = (count ≡ 0) × (0 < length piece)
IsFailedWrite (Err error) piece = Unit {0}
