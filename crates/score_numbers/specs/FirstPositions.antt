-- The first of positions of which something holds.
use Rattle.std.specs.Prelude.{ℕ, ◌≤◌, Option, Some, None, List}
use Rattle.std.specs.List.{Contains}

-- the first of the positions of which it holds
pub record IsFirstAmong (positions : List ℕ) (Holds : ℕ → Type 0) (position : ℕ) : Type 0 where
  pub stands : Contains positions position
  pub holds : Holds position
  pub first : (other : ℕ) → Contains positions other → Holds other → position ≤ other

-- the first of the positions of which it holds, or that it holds of none
abbrev pub IsFirstOf : List ℕ → (ℕ → Type 0) → Option ℕ → Type 0
IsFirstOf positions Holds None = (position : ℕ) → Contains positions position → Holds position → ⊥
IsFirstOf positions Holds (Some position) = IsFirstAmong positions Holds position
