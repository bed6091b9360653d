-- Widths at which sums with the mark are less than those of scores.
use Rattle.std.specs.Prelude.{◌*◌, ◌<◌, ℤ, pos, neg_ℤ, ◌+ℤ◌, ◌<ℤ◌, ◌≤ℤ◌, nat_abs}
use Rattle.score_numbers.specs.Packing.{Width}

-- the least sum of two scores
abbrev pub least_sum : Width → ℤ
least_sum width = neg_ℤ (pos (2 * width.limit))

-- sums with the mark are less
pub record IsSpaced (width : Width) : Type 0 where
  pub apart : width.limit < nat_abs width.mark
  pub low : (width.mark +ℤ pos width.limit) <ℤ least_sum width
  pub negative : width.mark ≤ℤ pos 0
