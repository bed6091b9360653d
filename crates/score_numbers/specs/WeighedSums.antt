-- Sums of two numbers of a width and of what a letter between them weighs.
use Rattle.std.specs.Prelude.{◌≡◌, ℕ, ◌+◌, ◌^◌, ◌<◌, ◌≤◌, ℤ, pos, ◌+ℤ◌, ◌-ℤ◌, ◌*ℤ◌, nat_abs, Some, List, length, slice_get, slice_index_or}
use Rattle.std.specs.List.{Contains}
use Rattle.adp_model.specs.ProblemFields.{greatest_score}
use Rattle.score_numbers.specs.declared.sums.Positions.{Positions}
use Rattle.score_numbers.specs.declared.sums.Scales.{Scales}
use Rattle.score_numbers.specs.declared.weighed_sums.Weights.{Weights}
use Rattle.score_numbers.specs.Sums.{number_at}

-- what the letters before this number weigh together
abbrev pub sum_at : Weights → ℕ → ℤ
sum_at weights k = slice_index_or weights.sums.now k (pos 0)

-- what the letter of this number weighs
abbrev pub weight_at : Weights → ℕ → ℤ
weight_at weights k = sum_at weights (k + 1) -ℤ sum_at weights k

-- the letter of this number has a weight, which is no greater than the greatest score
pub record IsWeight (weights : Weights) (k : ℕ) : Type 0 where
  pub within : k + 1 < length weights.sums.now
  pub small : nat_abs (sum_at weights k) ≤ 2 ^ 100
  pub small_behind : nat_abs (sum_at weights (k + 1)) ≤ 2 ^ 100
  pub low : nat_abs (weight_at weights k) ≤ greatest_score

-- there is a weight for each position of the boundary
abbrev pub HaveWeights : Weights → Positions → Type 0
HaveWeights weights positions =
    (position : ℕ) → Contains positions.at.now position → IsWeight weights (number_at positions position)

-- there are two numbers at this position, neither of them marks that there is no candidate, and this is the sum of them
-- and of the weight there, after each was multiplied by its factor
pub record HasWeighedSum (mark : ℤ) (scales : Scales) (weights : Weights) (firsts seconds : List ℤ) (k : ℕ) (sum : ℤ)
    : Type 0 where
  pub first : ℤ
  pub second : ℤ
  pub first_there : slice_get firsts k ≡ Some first
  pub second_there : slice_get seconds k ≡ Some second
  pub first_scores : first ≡ mark → ⊥
  pub second_scores : second ≡ mark → ⊥
  pub is : sum ≡ (((scales.before *ℤ first) +ℤ (weights.factor *ℤ weight_at weights k)) +ℤ (scales.behind *ℤ second))

-- at some position of the boundary the sum is this one
abbrev pub HasWeighedSumAt : ℤ → Scales → Weights → Positions → List ℤ → List ℤ → ℤ → Type 0
HasWeighedSumAt mark scales weights positions firsts seconds sum =
    (position : ℕ) × Contains positions.at.now position
    × HasWeighedSum mark scales weights firsts seconds (number_at positions position) sum

-- at no position of the boundary the products that are added up are greater together than the greatest score
abbrev pub AreLowWeighed : ℤ → Scales → Weights → Positions → List ℤ → List ℤ → Type 0
AreLowWeighed mark scales weights positions firsts seconds =
    (position : ℕ) (sum : ℤ) → Contains positions.at.now position
    → (it : HasWeighedSum mark scales weights firsts seconds (number_at positions position) sum)
    → nat_abs (scales.before *ℤ it.first) + nat_abs (weights.factor *ℤ weight_at weights (number_at positions position))
    + nat_abs (scales.behind *ℤ it.second) ≤ greatest_score
