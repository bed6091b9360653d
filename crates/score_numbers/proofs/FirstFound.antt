-- A walk over positions in order finds the first one of which something holds.
use Rattle.std.proofs.Common.{◌≡◌, ℕ, ◌-◌, ◌<◌, ◌≤◌, List, length, get_or, sym, subst, ◌∙◌, inl, inr, arith}
use Rattle.std.specs.List.{AllAdjacentBelow, Contains}
use Rattle.std.proofs.lemmas.Bool.{cases_lt}
use Rattle.std.proofs.lemmas.List.{get_or_default}
use Rattle.std.proofs.lemmas.List.Elements.{Contains-get_or}
use Rattle.std.proofs.lemmas.List.Sorted.{IsNonDecreasingBy-from_all_adjacent}
use Rattle.score_numbers.specs.FirstPositions.{IsFirstAmong}

-- none is behind the last one
pub below_last : (positions : List ℕ) → AllAdjacentBelow (λ (a b : ℕ). a < b) positions (length positions) → (position : ℕ) → Contains positions position → position ≤ get_or positions (length positions - 1) 0
below_last positions rising position stands =
    let sorted = IsNonDecreasingBy-from_all_adjacent (λ (n : ℕ). n) positions (λ k d l. let rise = rising k d l in omega arith) in
    let l = sorted stands.0 (length positions - 1) 0 (omega (arith, stands.1)) (omega (arith, stands.1)) in
    omega (arith, get_or_default positions stands.0 0 position stands.1 ∙ stands.2)

at_number : (positions : List ℕ) (position : ℕ) (stands : Contains positions position) → get_or positions stands.0 0 ≡ position
at_number positions position stands = get_or_default positions stands.0 0 position stands.1 ∙ stands.2

-- one that is less than another has a lesser number
pub stands_before : (positions : List ℕ) → AllAdjacentBelow (λ (a b : ℕ). a < b) positions (length positions) → (count : ℕ) → count < length positions → (other : ℕ) → Contains positions other → other < get_or positions count 0 → (number : ℕ) × number < count × get_or positions number 0 ≡ other
stands_before positions rising count within other stands less =
    elim (cases_lt stands.0 count) [
      | inl before ↦ (stands.0, before, at_number positions other stands)
      | inr behind ↦
          let sorted = IsNonDecreasingBy-from_all_adjacent (λ (n : ℕ). n) positions (λ k d l. let rise = rising k d l in omega arith) in
          let l = sorted count stands.0 0 behind stands.1 in
          absurd (omega (arith, l, less, at_number positions other stands))
    ]

module _ (positions : List ℕ) (Holds : ℕ → Type 0) where
  -- it holds of none of the positions before this number
  abbrev pub HoldsOfNone : ℕ → Type 0
  HoldsOfNone count = (number : ℕ) → number < count → Holds (get_or positions number 0) → ⊥

  pub found_first : (count : ℕ) → AllAdjacentBelow (λ (a b : ℕ). a < b) positions (length positions) → count < length positions → HoldsOfNone count → Holds (get_or positions count 0) → IsFirstAmong positions Holds (get_or positions count 0)
  found_first count rising within none holds = record {
    stands = Contains-get_or positions count 0 within;
    holds = holds;
    first = λ other stands holds'. elim (cases_lt other (get_or positions count 0)) [
      | inl less ↦ let before = stands_before positions rising count within other stands less in absurd (none before.0 before.1 (subst Holds (sym before.2) holds'))
      | inr up ↦ up
    ];
  }

  pub found_none : (count : ℕ) → length positions ≤ count → HoldsOfNone count → (position : ℕ) → Contains positions position → Holds position → ⊥
  found_none count all none position stands holds = none stands.0 (omega (arith, stands.1)) (subst Holds (sym (at_number positions position stands)) holds)
