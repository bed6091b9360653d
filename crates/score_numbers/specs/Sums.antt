-- Sums of two numbers of a width.
use Rattle.std.specs.Prelude.{◌≡◌, ℕ, ◌+◌, ◌-◌, ◌<◌, ◌≤◌, ℤ, ◌+ℤ◌, ◌*ℤ◌, nat_abs, Some, List, length, slice_get}
use Rattle.std.specs.List.{Contains}
use Rattle.adp_model.specs.ProblemFields.{greatest_score}
use Rattle.score_numbers.specs.declared.sums.Positions.{Positions}
use Rattle.score_numbers.specs.declared.sums.Scales.{Scales}
use Rattle.score_numbers.specs.Limits.{no_limit}
use Rattle.score_numbers.specs.Packing.{Width, short}

-- there are two numbers at this position, neither of them marks that there is no candidate, and this is their sum
pub record HasSum (width : Width) (firsts seconds : List ℤ) (k : ℕ) (sum : ℤ) : Type 0 where
  pub first : ℤ
  pub second : ℤ
  pub first_there : slice_get firsts k ≡ Some first
  pub second_there : slice_get seconds k ≡ Some second
  pub first_scores : first ≡ width.mark → ⊥
  pub second_scores : second ≡ width.mark → ⊥
  pub is : sum ≡ (first +ℤ second)

-- the same, where this is their sum after each was multiplied by its factor
pub record HasScaledSum (mark : ℤ) (scales : Scales) (firsts seconds : List ℤ) (k : ℕ) (sum : ℤ) : Type 0 where
  pub first : ℤ
  pub second : ℤ
  pub first_there : slice_get firsts k ≡ Some first
  pub second_there : slice_get seconds k ≡ Some second
  pub first_scores : first ≡ mark → ⊥
  pub second_scores : second ≡ mark → ⊥
  pub is : sum ≡ ((scales.before *ℤ first) +ℤ (scales.behind *ℤ second))

-- where the numbers for a position of a boundary stand among others
abbrev pub number_at : Positions → ℕ → ℕ
number_at positions position = position - positions.first

-- there are two numbers for each position of the boundary
pub record HaveNumbers (positions : Positions) (firsts seconds : List ℤ) : Type 0 where
  pub from_first : (position : ℕ) → Contains positions.at.now position → positions.first ≤ position
  pub before : (position : ℕ) → Contains positions.at.now position → number_at positions position < length firsts
  pub behind : (position : ℕ) → Contains positions.at.now position → number_at positions position < length seconds

-- at some position of the boundary the sum is this one
abbrev pub HasSumAt : Width → Positions → List ℤ → List ℤ → ℤ → Type 0
HasSumAt width positions firsts seconds sum =
    (position : ℕ) × Contains positions.at.now position × HasSum width firsts seconds (number_at positions position) sum

abbrev pub HasScaledSumAt : ℤ → Scales → Positions → List ℤ → List ℤ → ℤ → Type 0
HasScaledSumAt mark scales positions firsts seconds sum =
    (position : ℕ) × Contains positions.at.now position
    × HasScaledSum mark scales firsts seconds (number_at positions position) sum

-- at no position of the boundary the products that are added up are greater together than the greatest score
abbrev pub AreLowSums : ℤ → Scales → Positions → List ℤ → List ℤ → Type 0
AreLowSums mark scales positions firsts seconds =
    (position : ℕ) (sum : ℤ) → Contains positions.at.now position
    → (it : HasScaledSum mark scales firsts seconds (number_at positions position) sum)
    → nat_abs (scales.before *ℤ it.first) + nat_abs (scales.behind *ℤ it.second) ≤ greatest_score

-- there is no limit at this position, and the two numbers there have this sum
abbrev pub IsUnlimitedSum : List ℤ → List ℤ → List ℤ → ℕ → ℤ → Type 0
IsUnlimitedSum limits firsts seconds k sum = (slice_get limits k ≡ Some no_limit) × HasSum short firsts seconds k sum

-- two numbers side by side, where there is no limit, have this sum
abbrev pub HasUnlimitedSum : List ℤ → List ℤ → List ℤ → ℤ → Type 0
HasUnlimitedSum limits firsts seconds sum = (k : ℕ) × IsUnlimitedSum limits firsts seconds k sum
