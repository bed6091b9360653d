-- Numbers that stand for the greatest of some scores, or for none.
use Rattle.std.specs.Prelude.{◌≡◌, ℕ, ◌≤◌, ◌⊎◌, ℤ, pos, neg_ℤ, ◌+ℤ◌, ◌<ℤ◌, ◌≤ℤ◌, nat_abs, Some, List, slice_get}
use Rattle.score_numbers.specs.Greatest.{IsGreatestOf}
use Rattle.score_numbers.specs.Packing.{Width}

-- the least number that stands for a score
abbrev pub least : Width → ℤ
least width = neg_ℤ (pos width.limit)

-- the number stands for the greatest of the scores of which it holds: it is that, or less than all scores where it holds
-- of none
abbrev pub StandsFor : Width → (ℤ → Type 0) → ℤ → Type 0
StandsFor width Holds number =
    ((number <ℤ least width) × ((other : ℤ) → Holds other → ⊥)) ⊎ ((least width ≤ℤ number) × IsGreatestOf Holds (Some number))

-- what a number comes to with another one: their sum, where that is within the limit, and with the mark less than all
-- scores
pub record IsRaisedBy (width : Width) (number add result : ℤ) : Type 0 where
  pub scored : nat_abs (number +ℤ add) ≤ width.limit → result ≡ (number +ℤ add)
  pub marked : number ≡ width.mark → nat_abs add ≤ width.limit → result <ℤ least width

-- none of the numbers stands for a score
abbrev pub AreDead : Width → List ℤ → Type 0
AreDead width numbers = (k : ℕ) (number : ℤ) → slice_get numbers k ≡ Some number → number <ℤ least width
