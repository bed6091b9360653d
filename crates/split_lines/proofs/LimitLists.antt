-- Limits of sums at positions: of all positions of a list, and of those from the first of some to the last one.
use Rattle.std.proofs.Common.{◌≡◌, ◌↔◌, ℕ, zero, suc, ◌+◌, ◌-◌, ◌<◌, ◌≤◌, ℤ, Some, List, length, get_or, take, drop, replicate, slice_get, sym, ap, subst, ◌∙◌, inl, inr, arith, length-take, length-drop}
use Rattle.std.specs.List.{AllAdjacentBelow, Contains}
use Rattle.std.proofs.lemmas.Int.{ints}
use Rattle.std.proofs.lemmas.List.{length-replicate}
use Rattle.std.proofs.lemmas.Option.{slice_get_within, slice_get-get_or}
use Rattle.score_numbers.specs.Packing.{short}
use Rattle.score_numbers.specs.Limits.{no_limit, AreLimits, IsUnlimited, AreLimited}
use Rattle.cell_tables.specs.Spans.{AreSet}
use Rattle.split_lines.specs.Matching.{AreLimitsOf}
use Rattle.split_lines.proofs.Lists.{contained_or_not, slice_get-take, slice_get-drop}
use Rattle.split_lines.proofs.RisingPositions.{between_ends, first_stands, last_stands}

-- ---- the positions of a list

all_marked : (count position : ℕ) (limit : ℤ) → slice_get (replicate count short.mark) position ≡ Some limit → limit ≡ short.mark
all_marked zero position limit e = absurd cc
all_marked (suc count) zero limit e = cc
all_marked (suc count) (suc position) limit e = all_marked count position limit e

apart : no_limit ≡ short.mark → ⊥
apart e = omega (arith, ints)

-- what is left where the limits of these positions alone are taken away
pub limits_set : (count : ℕ) (positions : List ℕ) (old new : List ℤ) → ((position : ℕ) → Contains positions position → position < count) → old ≡ replicate count short.mark
    → AreSet old new (λ at. (position : ℕ) × Contains positions position × (at ≡ position + 0 - 0)) no_limit → AreLimitsOf count positions new
limits_set count positions old new below old_is set = record {
  each = set.as_many ∙ ap length old_is ∙ length-replicate count short.mark;
  proper = limits;
  told = λ position. (there position, back position);
}
  where
    there : (position : ℕ) → Contains positions position → slice_get new position ≡ Some no_limit
    there position contains =
        let few : position < length old = omega (arith, below position contains, ap length old_is, length-replicate count short.mark) in
        set.there position (position, contains, omega arith) few

    marked : (position : ℕ) (limit : ℤ) → (Contains positions position → ⊥) → slice_get new position ≡ Some limit → limit ≡ short.mark
    marked position limit none is =
        let kept : slice_get new position ≡ slice_get old position = set.others position (λ (other, contains, e). let same : other ≡ position = omega arith in none (subst (Contains positions) same contains)) in
        all_marked count position limit (ap (λ (xs : List ℤ). slice_get xs position) (sym old_is) ∙ sym kept ∙ is)

    limits : AreLimits new
    limits position limit is =
        elim (contained_or_not positions position) [
          | inl contains ↦ inl (let e = there position contains in cc)
          | inr none ↦ inr (marked position limit none is)
        ]

    back : (position : ℕ) → slice_get new position ≡ Some no_limit → Contains positions position
    back position is =
        elim (contained_or_not positions position) [ inl contains ↦ contains | inr none ↦ absurd (apart (marked position no_limit none is)) ]

-- ---- some of the positions, from the first to the last one

module _ (all part : List ℕ) (limits : List ℤ) (told : AreLimitsOf (length limits) all limits) (some : (position : ℕ) → Contains part position → Contains all position)
    (whole : (first position last : ℕ) → Contains part first → Contains part last → first ≤ position → position ≤ last → Contains all position → Contains part position)
    (rising : AllAdjacentBelow (λ (a b : ℕ). a < b) part (length part)) (first last : ℕ) (first_is : Some first ≡ slice_get part 0) (last_is : Some last ≡ slice_get part (length part - 1)) where
  not_empty : 0 < length part
  not_empty = slice_get_within part 0 first (sym first_is)

  first_read : get_or part 0 0 ≡ first
  first_read = let read = slice_get-get_or part 0 0 not_empty in cc

  last_read : get_or part (length part - 1) 0 ≡ last
  last_read = let read = slice_get-get_or part (length part - 1) 0 (omega (arith, not_empty)) in cc

  first_in : Contains part first
  first_in = subst (Contains part) first_read (first_stands part not_empty)

  last_in : Contains part last
  last_in = subst (Contains part) last_read (last_stands part not_empty)

  limit_of : (position : ℕ) → Contains all position → slice_get limits position ≡ Some no_limit
  limit_of position contains = (told.told position).0 contains

  pub first_before : first ≤ last
  first_before = omega (arith, between_ends part first rising first_in, last_read)

  pub last_within : last < length limits
  last_within = slice_get_within limits last no_limit (limit_of last (some last last_in))

  abbrev among : List ℤ
  among = take (last + 1 - first) (drop first limits)

  as_many : length among ≡ last + 1 - first
  as_many = simp (length-take, length-drop) (omega (arith, last_within))

  read_among : (position : ℕ) → first ≤ position → position ≤ last → slice_get among (position - first) ≡ slice_get limits position
  read_among position low high =
      let same : first + (position - first) ≡ position = omega arith in
      slice_get-take (last + 1 - first) (position - first) (drop first limits) (omega arith) ∙ slice_get-drop first (position - first) limits ∙ ap (slice_get limits) same

  limits_among : AreLimits among
  limits_among k limit is =
      let within = slice_get_within among k limit is in
      let same : first + k - first ≡ k = omega arith in
      told.proper (first + k) limit (sym (read_among (first + k) (omega arith) (omega (arith, within, as_many))) ∙ ap (slice_get among) same ∙ is)

  unlimited_there : (position : ℕ) → Contains part position → IsUnlimited among first position
  unlimited_there position contains =
      let ends = between_ends part position rising contains in
      let low : first ≤ position = omega (arith, ends.0, first_read) in
      let high : position ≤ last = omega (arith, ends.1, last_read) in
      (low, read_among position low high ∙ limit_of position (some position contains))

  unlimited_back : (position : ℕ) → IsUnlimited among first position → Contains part position
  unlimited_back position (low, is) =
      let within = slice_get_within among (position - first) no_limit is in
      let high : position ≤ last = omega (arith, within, as_many, low) in
      whole first position last first_in last_in low high ((told.told position).1 (sym (read_among position low high) ∙ is))

  pub limited_among : AreLimited part among
  limited_among =
      let F : ℕ → Type 0 = λ from. (position : ℕ) → Contains part position ↔ IsUnlimited among from position in
      let L : ℕ → Type 0 = λ from. 0 < length among → IsUnlimited among from (from + length among - 1) in
      let at_last : first + length among - 1 ≡ last = omega (arith, as_many, first_before) in
      record {
        proper = limits_among;
        exact = subst F (sym first_read) (λ position. (unlimited_there position, unlimited_back position));
        last = subst L (sym first_read) (λ _. subst (IsUnlimited among first) (sym at_last) (unlimited_there last last_in));
      }
