-- Numbers side by side that were combined with others in the same places.
use Rattle.std.specs.Prelude.{◌≡◌, ℕ, ◌≤◌, ℤ, nat_abs, Some, List, slice_get}
use Rattle.adp_model.specs.declared.grammar.Goal.{Goal}
use Rattle.score_numbers.specs.Turned.{turned}

-- each of the numbers is what one and the other in its place come to, where that is within the limit
abbrev pub AreCombined : ℕ → (ℤ → ℤ → ℤ) → List ℤ → List ℤ → List ℤ → Type 0
AreCombined limit exact ones others numbers =
    (k : ℕ) (one other : ℤ) → slice_get ones k ≡ Some one → slice_get others k ≡ Some other
    → nat_abs (exact one other) ≤ limit → slice_get numbers k ≡ Some (exact one other)

-- each of the numbers is the one in its place, turned, where that is within the limit
abbrev pub AreTurned : ℕ → Goal → List ℤ → List ℤ → Type 0
AreTurned limit goal ones numbers =
    (k : ℕ) (one : ℤ) → slice_get ones k ≡ Some one → nat_abs one ≤ limit
    → slice_get numbers k ≡ Some (turned goal one)
