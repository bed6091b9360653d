-- Bits of the alternatives of a rule that may begin with some letters.
use Rattle.std.specs.Prelude.{◌≡◌, ℕ, ◌+◌, ◌%◌, ◌<◌, Option, Some, None, List, slice_get, slice_index, slice_index_or}
use Rattle.std.specs.Int.{bit_at}
use Rattle.split_lines.specs.declared.beginnings.Beginnings.{Beginnings}
use Rattle.split_lines.specs.declared.beginnings.Candidates.{Candidates}
use Rattle.split_lines.specs.declared.beginnings.Place.{Place}
use Rattle.split_lines.specs.declared.kept.KeptAlternative.{KeptAlternative}
use Rattle.split_lines.specs.Kept.{first_text}

-- the bit of the alternative is set among those that have this letter at the place or, where there is none, any
abbrev pub IsToldAt : Place → ℕ → Option ℕ → Type 0
IsToldAt place alternative (Some letter) = bit_at (slice_index place.groups (letter % 32)) alternative ≡ 1
IsToldAt place alternative None = bit_at place.any alternative ≡ 1

-- the alternative that begins with these letters is told by each of the first three
pub record IsTold (beginnings : Beginnings) (alternative : ℕ) (letters : List ℕ) : Type 0 where
  pub first : IsToldAt beginnings.first alternative (slice_get letters 0)
  pub second : IsToldAt beginnings.second alternative (slice_get letters 1)
  pub third : IsToldAt beginnings.third alternative (slice_get letters 2)

-- each of the first so many alternatives is told by the letters with which it begins
abbrev pub AreTold : ℕ → List KeptAlternative → Beginnings → Type 0
AreTold count kept beginnings =
    (alternative : ℕ) (d : KeptAlternative) → alternative < count
    → IsTold beginnings alternative (first_text (slice_index_or kept alternative d).front.now)

-- the letters stand in the word from this position on
abbrev pub StandsAt : List ℕ → ℕ → List ℕ → Type 0
StandsAt word from letters =
    (place letter : ℕ) → slice_get letters place ≡ Some letter → slice_get word (from + place) ≡ Some letter

-- the bit of the alternative of this number is set
abbrev pub IsCandidate : Candidates → ℕ → Type 0
IsCandidate candidates alternative = bit_at candidates.bits alternative ≡ 1
