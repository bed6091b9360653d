-- The greatest of numbers.
use Rattle.std.specs.Prelude.{ℤ, ◌≤ℤ◌, Option, Some, None}

-- the greatest of the numbers of which it holds, or that it holds of none
abbrev pub IsGreatestOf : (ℤ → Type 0) → Option ℤ → Type 0
IsGreatestOf Holds None = (number : ℤ) → Holds number → ⊥
IsGreatestOf Holds (Some greatest) = Holds greatest × ((number : ℤ) → Holds number → number ≤ℤ greatest)
