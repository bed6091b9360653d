-- Positions of a word told by bits: of all of a list, and of those from the first of some to the last one.
use Rattle.std.proofs.Common.{◌≡◌, ℕ, zero, suc, ◌+◌, ◌-◌, ◌*◌, ◌/◌, ◌%◌, ◌<◌, ◌≤◌, List, length, get_or, replicate, refl, sym, ap, subst, ⊎_elim, inr, ◌∙◌, arith}
use Rattle.std.specs.Int.{bit_at}
use Rattle.std.specs.List.{AllAdjacentBelow, Contains}
use Rattle.std.proofs.lemmas.List.{length-replicate}
use Rattle.std.proofs.lemmas.Nat.Bits.{bit_at-zero}
use Rattle.cell_tables.specs.Bits.{IsBitOf}
use Rattle.cell_tables.specs.WordBits.{AreBitsSet, IsBitOfFar}
use Rattle.split_lines.specs.Flags.{AreBits, AreBitsAmong}
use Rattle.split_lines.proofs.RisingPositions.{between_ends, first_stands, last_stands}

none_set : (count number : ℕ) → get_or (replicate {A = ℕ} count 0) number 0 ≡ 0
none_set zero number = refl
none_set (suc count) zero = refl
none_set (suc count) (suc number) = none_set count number

-- what is left where bits of these positions alone are set
pub bits_set : (count words : ℕ) (positions : List ℕ) (shift : ℕ) (old new : List ℕ) → count ≤ 64 * words → ((position : ℕ) → Contains positions position → position + shift < count) → old ≡ replicate {A = ℕ} words 0
    → AreBitsSet old new (IsBitOfFar 0 0 (λ at. (position : ℕ) × Contains positions position × (at ≡ position + shift))) → AreBits positions shift new
bits_set count words positions shift old new enough below old_is set =
    let many : length new ≡ words = set.as_many ∙ ap length old_is ∙ length-replicate {A = ℕ} words 0 in
    record {
      room = λ position contains. omega (arith, below position contains, many);
      exact = λ at. (there at, back at);
    }
  where
    there : (at : ℕ) → bit_at (get_or new (at / 64) 0) (at % 64) ≡ 1 → (position : ℕ) × Contains positions position × (at ≡ position + shift)
    there at one =
        ⊎_elim
        (λ was.
        let nothing : bit_at (get_or old (at / 64) 0) (at % 64) ≡ 0 = ap (λ (xs : List ℕ). bit_at (get_or xs (at / 64) 0) (at % 64)) old_is ∙ ap (λ word. bit_at word (at % 64)) (none_set words (at / 64)) ∙ bit_at-zero (at % 64) in
        absurd (omega (arith, nothing, was)))
        (λ (far, is, number_is, position_is). let same : far ≡ at = omega arith in (is.0, is.1, sym same ∙ is.2))
        ((set.exact (at / 64) (at % 64) (omega arith)).0 one)

    back : (at : ℕ) → (position : ℕ) × Contains positions position × (at ≡ position + shift) → bit_at (get_or new (at / 64) 0) (at % 64) ≡ 1
    back at is = (set.exact (at / 64) (at % 64) (omega arith)).1 (inr (at, is, omega arith, refl))

-- ---- some of the positions, from the first to the last one

module _ (all part : List ℕ) (shift : ℕ) (bits : List ℕ) (told : AreBits all shift bits) (some : (position : ℕ) → Contains part position → Contains all position)
    (whole : (first position last : ℕ) → Contains part first → Contains part last → first ≤ position → position ≤ last → Contains all position → Contains part position)
    (rising : AllAdjacentBelow (λ (a b : ℕ). a < b) part (length part)) where
  pub bits_among : AreBitsAmong part shift bits
  bits_among = record {
    room = λ position contains. told.room position (some position contains);
    exact = λ has position. (there has position, back has position);
  }
    where
      there : 0 < length part → (position : ℕ) → Contains part position → IsBitOf bits (get_or part 0 0 + shift) (get_or part (length part - 1) 0 + shift + 1) (position + shift)
      there has position contains =
          let ends = between_ends part position rising contains in
          record {
            from_first = omega (arith, ends.0);
            before = omega (arith, ends.1);
            bit = (told.exact (position + shift)).1 (position, some position contains, refl);
          }

      back : 0 < length part → (position : ℕ) → IsBitOf bits (get_or part 0 0 + shift) (get_or part (length part - 1) 0 + shift + 1) (position + shift) → Contains part position
      back has position is =
          let found = (told.exact (position + shift)).0 is.bit in
          let same : found.0 ≡ position = omega (arith, found.2) in
          whole (get_or part 0 0) position (get_or part (length part - 1) 0) (first_stands part has) (last_stands part has) (omega (arith, is.from_first)) (omega (arith, is.before)) (subst (Contains all) same found.1)
