-- Bits of the 64 places of a number: of two numbers together, of masks, and the first and the last that is set.
use Rattle.std.proofs.Common.{◌≡◌, ◌↔◌, ℕ, ◌+◌, ◌-◌, ◌*◌, ◌/◌, ◌%◌, ◌^◌, ◌<◌, ◌≤◌, ◌⊎◌, min, suc, Bool, true, false, inl, inr, refl, sym, ap, subst, ◌∙◌, arith}
use Rattle.std.specs.Prelude.{bit_and, bit_or}
use Rattle.std.specs.Int.{bit_at, from_bool, w64, leading_zeros, trailing_zeros}
use Rattle.std.proofs.Math.Nat.{pow-suc}
use Rattle.std.proofs.lemmas.Bool.{cases_lt, cases_eq, false≢true}
use Rattle.std.proofs.lemmas.Nat.{pow_pos, le-div, div_below, leading_top, one_shl}
use Rattle.std.proofs.lemmas.Nat.Bits.{bit_at-lt, bit_at-zero, bit_at_and, bit_at_or, bit_at_ones, bit_at_ones_above, bit_at_above, bit_at_mask_inside, bit_at_mask_below, bit_at-pow_same, bit_at-pow_other, bit_at-trailing_zeros, ones_shr, ones_shl}
use Rattle.cell_tables.specs.Bits.{IsBitIn}

-- ---- two numbers together

module _ (a b number place : ℕ) where
  pub both_bits : IsBitIn (bit_and a b) number place ↔ (IsBitIn a number place × IsBitIn b number place)
  both_bits =
      let k = place % 64 in
      let joined = bit_at_and a b k in
      let low = bit_at-lt a k in
      let low' = bit_at-lt b k in (
        λ both. (record { number_is = both.number_is; bit = omega (arith, both.bit) }, record { number_is = both.number_is; bit = omega (arith, both.bit) }),
        λ (first, second). record { number_is = first.number_is; bit = omega (arith, first.bit, second.bit) },
      )

  pub either_bits : IsBitIn (bit_or a b) number place ↔ (IsBitIn a number place ⊎ IsBitIn b number place)
  either_bits =
      let k = place % 64 in
      let joined = bit_at_or a b k in
      let low = bit_at-lt a k in
      let low' = bit_at-lt b k in (
        λ either. elim (cases_eq (bit_at a k) 1) [
          | inl set ↦ inl (record { number_is = either.number_is; bit = set })
          | inr clear ↦ inr (record { number_is = either.number_is; bit = omega (arith, either.bit, clear) })
        ],
        λ either. elim either [
          | inl first ↦ record { number_is = first.number_is; bit = omega (arith, first.bit) }
          | inr second ↦ record { number_is = second.number_is; bit = omega (arith, second.bit) }
        ],
      )

-- 0 has no bit set
pub no_bit : (number place : ℕ) → IsBitIn 0 number place → ⊥
no_bit number place set = omega (arith, bit_at-zero (place % 64), set.bit)

-- ---- masks

-- the bits of the places before one
pub mask_before : (below number place k : ℕ) → 64 * number < below → k ≡ min 64 (below - number * 64) → IsBitIn ((2 ^ 64 - 1) / 2 ^ (64 - k)) number place ↔ ((place / 64 ≡ number) × (place < below))
mask_before below number place k inside is_k =
    let i = place % 64 in
    let width : 64 - (64 - k) ≡ k = omega arith in
    let mask : (2 ^ 64 - 1) / 2 ^ (64 - k) ≡ 2 ^ k - 1 = ones_shr 64 (64 - k) (omega arith) ∙ ap (λ n. 2 ^ n - 1) width in
    let B : ℕ → Type 0 = λ m. bit_at m i ≡ 1 in (
      λ set. elim (cases_lt i k) [
        | inl low ↦ (set.number_is, omega (arith, set.number_is))
        | inr high ↦ let clear = bit_at_ones_above k i high in let one = subst B mask set.bit in absurd (omega arith)
      ],
      λ (same, low). record { number_is = same; bit = subst B (sym mask) (bit_at_ones k i (omega arith)) },
    )

-- the bits of the places from one on
pub mask_from : (least number place k : ℕ) → least < 64 * number + 64 → k ≡ least - number * 64 → IsBitIn ((2 ^ 64 - 1) * 2 ^ k % 2 ^ 64) number place ↔ ((place / 64 ≡ number) × (least ≤ place))
mask_from least number place k inside is_k =
    let i = place % 64 in
    let mask : (2 ^ 64 - 1) * 2 ^ k % 2 ^ 64 ≡ 2 ^ 64 - 2 ^ k = ones_shl 64 k (omega arith) in
    let B : ℕ → Type 0 = λ m. bit_at m i ≡ 1 in (
      λ set. elim (cases_lt i k) [
        | inl low ↦ let clear = bit_at_mask_below k 64 i low in let one = subst B mask set.bit in absurd (omega arith)
        | inr high ↦ (set.number_is, omega (arith, set.number_is))
      ],
      λ (same, high). record { number_is = same; bit = subst B (sym mask) (bit_at_mask_inside k 64 i (omega arith) (omega arith)) },
    )

-- what a test tells as a number
pub flag_is : (b : Bool) (flag : ℕ) → flag ≡ from_bool b → (flag < 2) × ((flag ≡ 1) ↔ (b ≡ true))
flag_is true flag e = (omega arith, (λ _. refl, λ _. e))
flag_is false flag e = (omega arith, (λ set. absurd (omega arith), λ set. absurd (false≢true set)))

-- one bit, which is that of a place
pub one_bit : (flag number place other : ℕ) → flag < 2 → place / 64 ≡ number → IsBitIn (flag * 2 ^ (place % 64) % 2 ^ 64) number other ↔ ((other ≡ place) × (flag ≡ 1))
one_bit flag number place other small same =
    let k = place % 64 in
    let i = other % 64 in
    let F : ℕ → Type 0 = λ f. bit_at (f * 2 ^ k % 2 ^ 64) i ≡ 1 in
    let B : ℕ → Type 0 = λ m. bit_at m i ≡ 1 in
    let shifted : 1 * 2 ^ k % 2 ^ 64 ≡ 2 ^ k = one_shl k 64 (omega arith) in
    elim (cases_eq flag 1) [
      | inl set ↦ (
        λ bit. elim (cases_eq i k) [
          | inl one ↦ (omega (arith, bit.number_is), set)
          | inr apart ↦ absurd (omega (arith, bit_at-pow_other k i apart, subst B shifted (subst F set bit.bit)))
        ],
        λ (e, f).
            let one : i ≡ k = ap (λ n. n % 64) e in
            let there : bit_at (2 ^ k) i ≡ 1 = ap (bit_at (2 ^ k)) one ∙ bit_at-pow_same k in
            record { number_is = omega arith; bit = subst F (sym set) (subst B (sym shifted) there) },
      )
      | inr clear ↦ (
        λ bit.
            let none : flag ≡ 0 = omega arith in
            let empty : 0 * 2 ^ k % 2 ^ 64 ≡ 0 = omega arith in
            absurd (no_bit number other (record { number_is = bit.number_is; bit = subst B empty (subst F none bit.bit) })),
        λ (e, f). absurd (clear f),
      )
    ]

-- ---- the first and the last bit

module _ (bits number place : ℕ) (some : 0 < bits) (fits : bits < 2 ^ 64) where
  pub last_place : place ≡ number * 64 + (63 - leading_zeros w64 bits) → IsBitIn bits number place × ((other : ℕ) → IsBitIn bits number other → other ≤ place)
  last_place is =
      let top = leading_top 64 bits some fits in
      let j = top.0 in
      let is_j : 63 - leading_zeros w64 bits ≡ j = omega (arith, top.1) in
      let within : j < 64 = omega (arith, top.1) in
      let low : 1 ≤ bits / 2 ^ j = le-div 1 bits (2 ^ j) (pow_pos j) (omega (arith, top.2)) in
      let high : bits / 2 ^ j < 2 = div_below bits (2 ^ j) 2 (pow_pos j) (omega (arith, top.3, pow-suc 2 j)) in
      let set : bit_at bits j ≡ 1 = omega (arith, low, high) in
      let rest : place % 64 ≡ j = omega (arith, is_j, within, is) in (
        record { number_is = omega (arith, is_j, within, is); bit = ap (bit_at bits) rest ∙ set },
        λ other bit. elim (cases_lt j (other % 64)) [
          | inl above ↦ let clear = bit_at_above bits (suc j) (other % 64) top.3 (omega arith) in absurd (omega (arith, bit.bit))
          | inr below ↦ omega (arith, is_j, is, bit.number_is)
        ],
      )

  pub first_place : place ≡ number * 64 + trailing_zeros w64 bits → IsBitIn bits number place × ((other : ℕ) → IsBitIn bits number other → place ≤ other)
  first_place is =
      let low = bit_at-trailing_zeros w64 bits some fits in
      let j : ℕ = trailing_zeros w64 bits in
      let within : j < 64 = low.0 in
      let rest : place % 64 ≡ j = omega (arith, within, is) in (
        record { number_is = omega (arith, within, is); bit = ap (bit_at bits) rest ∙ low.1 },
        λ other bit. elim (cases_lt (other % 64) j) [
          | inl below ↦ let clear = low.2 (other % 64) below in absurd (omega (arith, bit.bit))
          | inr from ↦ omega (arith, is, bit.number_is)
        ],
      )

-- a number that is not 0 has a bit set
pub some_bit : (bits number : ℕ) → 0 < bits → bits < 2 ^ 64 → (place : ℕ) × IsBitIn bits number place
some_bit bits number some fits =
    let place : ℕ = number * 64 + trailing_zeros w64 bits in
    (place, (first_place bits number place some fits refl).0)
