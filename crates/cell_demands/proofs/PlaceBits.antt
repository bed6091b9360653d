-- Bits for positions of a word: those of one number from a place on and up to it.
use Rattle.std.proofs.Common.{◌≡◌, ◌↔◌, ℕ, ◌+◌, ◌-◌, ◌*◌, ◌/◌, ◌%◌, ◌^◌, ◌<◌, ◌≤◌, List, length, get_or, replicate, set, inl, inr, ⊎_elim, ap, sym, subst, ◌∙◌, arith}
use Rattle.std.specs.Prelude.{bit_and, bit_or}
use Rattle.std.specs.Int.{bit_at, bit_not, w64, leading_zeros, trailing_zeros}
use Rattle.std.proofs.lemmas.Bool.{cases_lt, cases_eq}
use Rattle.std.proofs.lemmas.List.{get_or-replicate, get_or_past, length-replicate}
use Rattle.std.proofs.lemmas.Nat.Bits.{bit_at-lt, bit_at-zero, bit_at_not, ones_shl, ones_shr, bit_at_ones}
use Rattle.std.proofs.lemmas.Nat.Bits.{bit_at_ones_above, bit_at_mask_inside, bit_at_mask_below}
use Rattle.cell_tables.specs.Bits.{IsBitIn, IsBitOf}
use Rattle.cell_tables.proofs.NumberBits.{one_word_set, shifted_bit}
use Rattle.cell_tables.proofs.SetBits.{both_bits, first_place, last_place}
use Rattle.cell_demands.specs.PlaceBits.{HasBit, HaveBitsToo, IsAhead, IsBehind, IsFirstAhead, IsLastBehind, IsLastBit}

-- ---- the bits of a number that a mask leaves

-- the mask has the bits of these places
module _ (word mask place : ℕ) (IsLeft : ℕ → Type 0)
    (exact : (other : ℕ) → IsBitIn mask (place / 64) other ↔ ((other / 64 ≡ place / 64) × IsLeft other)) where
  masked_bit : (other : ℕ) → IsBitIn (bit_and word mask) (place / 64) other
      ↔ (IsLeft other × IsBitIn word (place / 64) other)
  masked_bit other =
      let both = both_bits word mask (place / 64) other in (
        λ bit. let parts = both.0 bit in (((exact other).0 parts.1).1, parts.0),
        λ (left, bit). both.1 (bit, (exact other).1 (bit.number_is, left)),
      )

  none_left : bit_and word mask ≡ 0 → (other : ℕ) → IsLeft other × IsBitIn word (place / 64) other → ⊥
  none_left none other is =
      let bit = (masked_bit other).1 is in
      let same = ap (λ n. bit_at n (other % 64)) none in
      omega (arith, bit.bit, same, bit_at-zero (other % 64))

-- ---- the bits of a number from a place on

module _ (word place : ℕ) where
  abbrev ahead : ℕ
  ahead = bit_and word ((2 ^ 64 - 1) * 2 ^ (place % 64) % 2 ^ 64)

  from_place : (other : ℕ) → IsBitIn ((2 ^ 64 - 1) * 2 ^ (place % 64) % 2 ^ 64) (place / 64) other
      ↔ ((other / 64 ≡ place / 64) × (place ≤ other))
  from_place other =
      let j = place % 64 in
      let i = other % 64 in
      let mask : (2 ^ 64 - 1) * 2 ^ j % 2 ^ 64 ≡ 2 ^ 64 - 2 ^ j = ones_shl 64 j (omega arith) in
      let B : ℕ → Type 0 = λ m. bit_at m i ≡ 1 in (
        λ bit. elim (cases_lt i j) [
          | inl low ↦ let clear = bit_at_mask_below j 64 i low in let one = subst B mask bit.bit in absurd (omega arith)
          | inr high ↦ (bit.number_is, omega (arith, bit.number_is, high))
        ],
        λ (same, high).
            let inside = bit_at_mask_inside j 64 i (omega arith) (omega arith) in
            record { number_is = same; bit = subst B (sym mask) inside },
      )

  ahead_bit : (other : ℕ) → IsBitIn ahead (place / 64) other ↔ IsAhead word place other
  ahead_bit = masked_bit word ((2 ^ 64 - 1) * 2 ^ (place % 64) % 2 ^ 64) place (λ other. place ≤ other) from_place

  pub none_ahead : ahead ≡ 0 → (other : ℕ) → IsAhead word place other → ⊥
  none_ahead = none_left word ((2 ^ 64 - 1) * 2 ^ (place % 64) % 2 ^ 64) place (λ other. place ≤ other) from_place

  -- the first of them
  pub ahead_first : (found : ℕ) → ahead < 2 ^ 64 → (ahead ≡ 0 → ⊥)
      → found ≡ place / 64 * 64 + trailing_zeros w64 ahead → IsFirstAhead word place found
  ahead_first found fits some is =
      let least = first_place ahead (place / 64) found (omega arith) fits is in
      record { set = (ahead_bit found).0 least.0; first = λ other its. least.1 other ((ahead_bit other).1 its) }

-- ---- the bits of a number up to a place

module _ (word place : ℕ) where
  abbrev behind : ℕ
  behind = bit_and word ((2 ^ 64 - 1) / 2 ^ (63 - place % 64))

  up_to_place : (other : ℕ) → IsBitIn ((2 ^ 64 - 1) / 2 ^ (63 - place % 64)) (place / 64) other
      ↔ ((other / 64 ≡ place / 64) × (other ≤ place))
  up_to_place other =
      let j = place % 64 in
      let i = other % 64 in
      let count : ℕ = 64 - (63 - j) in
      let mask : (2 ^ 64 - 1) / 2 ^ (63 - j) ≡ 2 ^ count - 1 = ones_shr 64 (63 - j) (omega arith) in
      let B : ℕ → Type 0 = λ m. bit_at m i ≡ 1 in (
        λ bit. elim (cases_lt j i) [
          | inl high ↦
              let clear = bit_at_ones_above count i (omega arith) in
              let one = subst B mask bit.bit in
              absurd (omega arith)
          | inr low ↦ (bit.number_is, omega (arith, bit.number_is, low))
        ],
        λ (same, low). record { number_is = same; bit = subst B (sym mask) (bit_at_ones count i (omega arith)) },
      )

  behind_bit : (other : ℕ) → IsBitIn behind (place / 64) other ↔ IsBehind word place other
  behind_bit = masked_bit word ((2 ^ 64 - 1) / 2 ^ (63 - place % 64)) place (λ other. other ≤ place) up_to_place

  pub none_behind : behind ≡ 0 → (other : ℕ) → IsBehind word place other → ⊥
  none_behind = none_left word ((2 ^ 64 - 1) / 2 ^ (63 - place % 64)) place (λ other. other ≤ place) up_to_place

  -- the last of them
  pub behind_last : (found : ℕ) → behind < 2 ^ 64 → (behind ≡ 0 → ⊥)
      → found ≡ place / 64 * 64 + (63 - leading_zeros w64 behind) → IsLastBehind word place found
  behind_last found fits some is =
      let most = last_place behind (place / 64) found (omega arith) fits is in
      record { set = (behind_bit found).0 most.0; last = λ other its. most.1 other ((behind_bit other).1 its) }

-- ---- no bit

one_is_set : (a : ℕ) → a ≡ 0 → a ≡ 1 → ⊥
one_is_set a zero one = omega arith

pub none_set : (bits : List ℕ) (count : ℕ) → bits ≡ replicate count 0 → (place : ℕ) → HasBit bits place → ⊥
none_set bits count are place has =
    let number = place / 64 in
    let none : get_or (replicate count 0) number 0 ≡ 0 = elim (cases_lt number count) [
      | inl inside ↦ get_or-replicate count number 0 0 inside
      | inr past ↦ get_or_past (replicate count 0) number 0 (omega (arith, past, length-replicate {A = ℕ} count 0))
    ] in
    let read : get_or bits number 0 ≡ 0 = ap (λ words. get_or words number 0) are ∙ none in
    let bit : bit_at (get_or bits number 0) (place % 64) ≡ 0 = ap (λ n. bit_at n (place % 64)) read ∙ bit_at-zero (place % 64) in
    one_is_set _ bit has

-- ---- one more bit

pub one_more : (bits : List ℕ) (place : ℕ) → place / 64 < length bits → HaveBitsToo bits
    (set bits (place / 64) (bit_or (get_or bits (place / 64) 0) (1 * 2 ^ (place % 64) % 2 ^ 64))) (λ other. other ≡ place)
one_more bits place within =
    let more = one_word_set bits (place / 64) (1 * 2 ^ (place % 64) % 2 ^ 64) within in
    record {
      as_many = more.as_many;
      exact = λ other.
          let told = shifted_bit (place % 64) (other % 64) (omega arith) in
          let each = more.exact (other / 64) (other % 64) (omega arith) in (
            λ one. ⊎_elim (λ was. inl was) (λ (number, bit). let k = told.0 bit in inr (omega (arith, number, k))) (each.0 one),
            λ either. each.1 (⊎_elim (λ was. inl was) (λ same. inr (omega (arith, same), told.1 (omega (arith, same)))) either),
          );
    }

-- ---- the bits from a place on and before another one, of one number

module _ (bits : List ℕ) (first past : ℕ) (some : first < past) (one : (past - 1) / 64 ≡ first / 64)
    (there : first / 64 < length bits) where
  abbrev low_ones : ℕ
  low_ones = (2 ^ 64 - 1) * 2 ^ (first % 64) % 2 ^ 64

  abbrev high_ones : ℕ
  high_ones = (2 ^ 64 - 1) / 2 ^ (63 - (past - 1) % 64)

  ones_between : (other : ℕ) → IsBitIn (bit_and low_ones high_ones) (first / 64) other
      ↔ ((other / 64 ≡ first / 64) × (first ≤ other) × (other < past))
  ones_between other =
      let both = both_bits low_ones high_ones (first / 64) other in
      let low = from_place 0 first other in
      let high = up_to_place 0 (past - 1) other in
      let H : ℕ → Type 0 = λ number. IsBitIn high_ones number other in (
        λ bit.
            let parts = both.0 bit in
            let l = low.0 parts.0 in
            let h = high.0 (subst H (sym one) parts.1) in
            (l.0, l.1, omega (arith, h.1, some)),
        λ (same, l, h). both.1 (low.1 (same, l), subst H one (high.1 (omega (arith, same, one), omega (arith, h)))),
      )

  pub one_word_more : HaveBitsToo bits (set bits (first / 64) (bit_or (get_or bits (first / 64) 0) (bit_and low_ones high_ones)))
      (λ other. (first ≤ other) × (other < past))
  one_word_more =
      let more = one_word_set bits (first / 64) (bit_and low_ones high_ones) there in
      record {
        as_many = more.as_many;
        exact = λ other.
            let told = ones_between other in
            let each = more.exact (other / 64) (other % 64) (omega arith) in (
              λ bit. ⊎_elim (λ was. inl was) (λ (number, its). let t = told.0 (record { number_is = number; bit = its }) in inr (t.1, t.2)) (each.0 bit),
              λ either. each.1 (⊎_elim (λ was. inl was)
                  (λ (l, h). let its = told.1 (omega (arith, l, h, one), l, h) in inr (its.number_is, its.bit)) either),
            );
      }

-- ---- among bits for all places

module _ (bits : List ℕ) (place word other : ℕ) (is : word ≡ get_or bits (place / 64) 0)
    (same : other / 64 ≡ place / 64) where
  word_bit : bit_at word (other % 64) ≡ bit_at (get_or bits (other / 64) 0) (other % 64)
  word_bit = ap (λ n. bit_at n (other % 64)) (is ∙ ap (λ n. get_or bits n 0) (sym same))

  pub bit_there : bit_at word (other % 64) ≡ 1 → HasBit bits other
  bit_there one = sym word_bit ∙ one

  pub there_bit : HasBit bits other → IsBitIn word (place / 64) other
  there_bit has = record { number_is = same; bit = word_bit ∙ has }

  -- where the bit isn't among those that are not set
  pub set_there : word < 2 ^ 64 → place ≤ other → (IsAhead (bit_not w64 word) place other → ⊥) → HasBit bits other
  set_there fits behind none = elim (cases_eq (bit_at word (other % 64)) 1) [
    | inl one ↦ bit_there one
    | inr clear ↦
        let small = bit_at-lt word (other % 64) in
        let told = bit_at_not w64 word (other % 64) fits (omega arith) in
        absurd (none (behind, record { number_is = same; bit = omega (arith, told, small, clear) }))
  ]

  -- where it is
  pub clear_there : word < 2 ^ 64 → IsAhead (bit_not w64 word) place other → HasBit bits other → ⊥
  clear_there fits (_, clear) has =
      let one = (there_bit has).bit in
      let told = bit_at_not w64 word (other % 64) fits (omega arith) in
      let bit = clear.bit in
      omega (arith, told, one, bit)

-- ---- between the first and the last place whose bit is set

module _ (bits : List ℕ) (first past least last : ℕ) (from_first : first ≤ least)
    (none_before : (place : ℕ) → first ≤ place → place < least → HasBit bits place → ⊥)
    (most : IsLastBit bits first past last) (place : ℕ) where
  pub within_all : IsBitOf bits least (last + 1) place → IsBitOf bits first past place
  within_all is = record {
    from_first = omega (arith, is.from_first);
    before = omega (arith, is.before, most.set.before);
    bit = is.bit;
  }

  pub cut_to_set : IsBitOf bits first past place → IsBitOf bits least (last + 1) place
  cut_to_set is = record {
    from_first = elim (cases_lt place least) [
      | inl early ↦ absurd (none_before place is.from_first early is.bit)
      | inr late ↦ late
    ];
    before = omega (arith, most.last place is);
    bit = is.bit;
  }

-- ---- among bits for all places, in both of two lists

module _ (bits others : List ℕ) (place word other_word : ℕ) (is : word ≡ get_or bits (place / 64) 0)
    (other_is : other_word ≡ get_or others (place / 64) 0) (at : ℕ) where
  pub in_both : IsAhead (bit_and word other_word) place at → HasBit bits at × HasBit others at
  in_both (_, bit) =
      let both = (both_bits word other_word (place / 64) at).0 bit in (
        bit_there bits place word at is both.0.number_is both.0.bit,
        bit_there others place other_word at other_is both.1.number_is both.1.bit,
      )

  pub ahead_in_both : place ≤ at → at / 64 ≡ place / 64 → HasBit bits at → HasBit others at → IsAhead (bit_and word other_word) place at
  ahead_in_both low same has other_has = (
    low,
    (both_bits word other_word (place / 64) at).1
        (there_bit bits place word at is same has, there_bit others place other_word at other_is same other_has),
  )
