-- Values of an alternative whose parts add up, and what the rows of its table have.
use Rattle.std.specs.Prelude.{◌≡◌, ℕ, ◌+◌, ◌-◌, ◌<◌, ◌≤◌, ◌&&◌, nat_le, if◌then◌else◌, List, length, drop}
use Rattle.adp_model.specs.LimitFaults.{told}
use Rattle.grammar_check.specs.declared.part.Part.{Part}
use Rattle.grammar_check.specs.declared.table.Table.{Table}
use Rattle.grammar_check.specs.declared.linear_alternative.LinearAlternative.{LinearAlternative}
use Rattle.grammar_check.specs.Tables.{entry}
use Rattle.grammar_check.specs.Plans.{ReadsRight, rooms, lows, spread, part_at}

-- the greatest value over all ways to give the alternative this length; 0 where there is none
abbrev pub alternative_value : (ℕ → ℕ → ℕ) → ℕ → List Part → ℕ → ℕ
alternative_value bound constant parts len =
    if nat_le (lows parts) len && nat_le (len - lows parts) (rooms parts)
    then constant + spread bound parts (len - lows parts) else 0

-- the value of what is kept of the alternative: constant, fixed length and other parts
abbrev pub linear_value : (ℕ → ℕ → ℕ) → ℕ → ℕ → List Part → ℕ → ℕ
linear_value bound constant fixed parts len =
    if nat_le fixed len then alternative_value bound constant parts (len - fixed) else 0

-- the rows have what the parts behind the first, and fewer of them, add over fewer spare letters than these
pub record AreSpread (bound : ℕ → ℕ → ℕ) (alternative : LinearAlternative) (count : ℕ) : Type 0 where
  pub rows : (place column : ℕ) → place + 1 < length alternative.parts.items → column < count
      → entry alternative.spreads place column
      ≡ told (spread bound (drop (place + 1) alternative.parts.items) column)

-- the table has the bounds that ways to give the parts this length need
abbrev pub AreRead : (ℕ → ℕ → ℕ) → Table → List Part → ℕ → Type 0
AreRead bound table parts len =
    (place l : ℕ) → place < length parts → l + lows parts ≤ len + (part_at parts place).low
    → ReadsRight bound table (part_at parts place).worth l
