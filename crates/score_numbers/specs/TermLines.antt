-- What a wide term comes to where two of its arguments have other values at each position of a boundary.
use Rattle.std.specs.Prelude.{◌≡◌, ℕ, ◌+◌, ◌<◌, ◌≤◌, ℤ, nat_abs, Some, List, length, map, slice_get, slice_index, slice_set}
use Rattle.std.specs.List.{Contains}
use Rattle.adp_model.specs.WideForm.{WideForm}
use Rattle.adp_model.specs.WideTerms.{form_of}
use Rattle.adp_model.specs.Terms.{wide_magnitude, wide_value}
use Rattle.score_numbers.specs.declared.sums.Positions.{Positions}
use Rattle.score_numbers.specs.declared.term_lines.TermLine.{TermLine}
use Rattle.score_numbers.specs.Packing.{Width}
use Rattle.score_numbers.specs.Sums.{number_at}
use Rattle.score_numbers.specs.Turned.{turned}

-- the two are different arguments, and each has a place among the values
pub record AreTwo (line : TermLine) : Type 0 where
  pub in_order : line.before < line.behind
  pub within : line.behind < length line.values.now

-- the values of the arguments where the two have these numbers, turned
abbrev pub values_at : TermLine → ℤ → ℤ → List ℤ
values_at line before behind =
    slice_set (slice_set line.values.now line.before (turned line.goal before)) line.behind (turned line.goal behind)

-- each of the numbers is what the part of a term comes to at those in its place, where it is within the limit
abbrev pub HoldsValues : ℕ → TermLine → WideForm → List ℤ → List ℤ → List ℤ → Type 0
HoldsValues limit line part befores behinds numbers =
    (k : ℕ) (before behind : ℤ) → slice_get befores k ≡ Some before → slice_get behinds k ≡ Some behind
    → wide_magnitude part (map nat_abs (values_at line before behind)) ≤ limit
    → slice_get numbers k ≡ Some (wide_value part (values_at line before behind))

-- there are two numbers here, neither of which is the mark, and this is the one in their place
pub record HasLive (width : Width) (befores behinds numbers : List ℤ) (k : ℕ) (number : ℤ) : Type 0 where
  pub before : ℤ
  pub behind : ℤ
  pub before_there : slice_get befores k ≡ Some before
  pub behind_there : slice_get behinds k ≡ Some behind
  pub before_scores : before ≡ width.mark → ⊥
  pub behind_scores : behind ≡ width.mark → ⊥
  pub there : slice_get numbers k ≡ Some number

-- each number in the place of two of which neither is the mark is within the limit
abbrev pub AreLowLive : Width → List ℤ → List ℤ → List ℤ → Type 0
AreLowLive width befores behinds numbers =
    (k : ℕ) (number : ℤ) → HasLive width befores behinds numbers k number → nat_abs number ≤ width.limit

-- there are two numbers here, neither of which is the mark, and at them the term comes to this, turned
pub record HasTermValue (width : Width) (line : TermLine) (befores behinds : List ℤ) (k : ℕ) (number : ℤ) : Type 0 where
  pub before : ℤ
  pub behind : ℤ
  pub before_there : slice_get befores k ≡ Some before
  pub behind_there : slice_get behinds k ≡ Some behind
  pub before_scores : before ≡ width.mark → ⊥
  pub behind_scores : behind ≡ width.mark → ⊥
  pub is : number ≡ turned line.goal (wide_value (form_of line.term.now) (values_at line before behind))

-- at some position the term comes to it
abbrev pub HasTermValueAt : Width → TermLine → Positions → List ℤ → List ℤ → ℤ → Type 0
HasTermValueAt width line positions befores behinds number =
    (position : ℕ) × Contains positions.at.now position
    × HasTermValue width line befores behinds (number_at positions position) number

-- at one of the positions from this number on, as far as a lane reaches, the term comes to it
abbrev pub HasTermValueFrom : Width → TermLine → Positions → List ℤ → List ℤ → ℕ → ℤ → Type 0
HasTermValueFrom width line positions befores behinds begin number =
    (k : ℕ) × (k < 64) × (begin + k < length positions.at.now)
    × HasTermValue width line befores behinds (number_at positions (slice_index positions.at.now (begin + k))) number

-- at no position can a part of the term become greater than the limit
abbrev pub AreLowValues : Width → TermLine → Positions → List ℤ → List ℤ → Type 0
AreLowValues width line positions befores behinds =
    (position : ℕ) (number : ℤ) → Contains positions.at.now position
    → (it : HasTermValue width line befores behinds (number_at positions position) number)
    → wide_magnitude (form_of line.term.now) (map nat_abs (values_at line it.before it.behind)) ≤ width.limit

-- the lane has the numbers at the positions from this number on, and the mark behind the last of them
pub record AreNumbersFrom (mark : ℤ) (positions : Positions) (numbers : List ℤ) (begin : ℕ) (lane : List ℤ) : Type 0 where
  pub at : (k : ℕ) → k < 64 → begin + k < length positions.at.now
      → slice_get lane k ≡ slice_get numbers (number_at positions (slice_index positions.at.now (begin + k)))
  pub behind : (k : ℕ) (number : ℤ) → length positions.at.now ≤ begin + k → slice_get lane k ≡ Some number
      → number ≡ mark
  pub as_many : length lane ≡ 64
