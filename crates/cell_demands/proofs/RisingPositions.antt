-- Positions that rise.
use Rattle.std.proofs.Common.{◌≡◌, ℕ, ◌-◌, ◌<◌, ◌≤◌, List, length, get_or, ◌∙◌, arith}
use Rattle.std.specs.List.{AllAdjacentBelow, Contains}
use Rattle.std.proofs.lemmas.List.{get_or_default}
use Rattle.std.proofs.lemmas.List.Elements.{Contains-get_or}
use Rattle.std.proofs.lemmas.List.Sorted.{IsNonDecreasingBy-from_all_adjacent}

-- in positions that rise each lies between the first one and the last one
pub between_ends : (positions : List ℕ) (position : ℕ)
    → AllAdjacentBelow (λ (a b : ℕ). a < b) positions (length positions) → Contains positions position
    → (get_or positions 0 0 ≤ position) × (position ≤ get_or positions (length positions - 1) 0)
between_ends positions position rising stands =
    let sorted = IsNonDecreasingBy-from_all_adjacent (λ (n : ℕ). n) positions (λ k d l. let rise = rising k d l in omega arith) in
    let at : get_or positions stands.0 0 ≡ position = get_or_default positions stands.0 0 position stands.1 ∙ stands.2 in
    let low = sorted 0 stands.0 0 (omega arith) stands.1 in
    let high = sorted stands.0 (length positions - 1) 0 (omega (arith, stands.1)) (omega (arith, stands.1)) in
    (omega arith, omega arith)

pub first_stands : (positions : List ℕ) → 0 < length positions → Contains positions (get_or positions 0 0)
first_stands positions l = Contains-get_or positions 0 0 l

pub last_stands : (positions : List ℕ) → 0 < length positions → Contains positions (get_or positions (length positions - 1) 0)
last_stands positions l = Contains-get_or positions (length positions - 1) 0 (omega arith)
