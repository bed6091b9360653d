-- Of the bits of a number the first one from a place on, and the last one before a place.
use Rattle.std.proofs.Common.{◌≡◌, ℕ, suc, ◌+◌, ◌-◌, ◌/◌, ◌^◌, ◌<◌, ◌≤◌, sym, ap, subst, inl, inr, ◌∙◌, arith}
use Rattle.std.specs.Prelude.{bit_and}
use Rattle.std.specs.Int.{bit_at, w128, leading_zeros, trailing_zeros}
use Rattle.std.proofs.Math.Nat.{pow-suc}
use Rattle.std.proofs.lemmas.Bool.{cases_lt}
use Rattle.std.proofs.lemmas.Nat.{pow_pos, le-div, div_below, leading_top}
use Rattle.std.proofs.lemmas.Nat.Bits.{bit_at-lt, bit_at-zero, bit_at_and, bit_at_above, bit_at_ones, bit_at_ones_above, bit_at-trailing_zeros, ones_shr}
use Rattle.split_lines.proofs.OpeningBits.{bit_behind}
use Rattle.suffix_cells.specs.Visits.{IsFirstBit, IsLastBit}

module _ (bits : ℕ) (small : bits < 2 ^ 128) where
  -- a place whose bit is set
  pub place_below : (place : ℕ) → bit_at bits place ≡ 1 → place < 128
  place_below place set = elim (cases_lt place 128) [
    | inl below ↦ below
    | inr past ↦ let clear = bit_at_above bits 128 place small past in absurd (omega (arith, set, clear))
  ]

  -- ---- from a place on

  module _ (least : ℕ) where
    ahead_bit : (other : ℕ) → least ≤ other → bit_at bits other ≡ bit_at (bits / 2 ^ least) (other - least)
    ahead_bit other from = sym (bit_behind bits least other from)

    pub none_past : 128 ≤ least → (other : ℕ) → least ≤ other → bit_at bits other ≡ 1 → ⊥
    none_past past other from set = let below = place_below other set in omega (arith, past, from, below)

    pub none_ahead : bits / 2 ^ least ≡ 0 → (other : ℕ) → least ≤ other → bit_at bits other ≡ 1 → ⊥
    none_ahead none other from set =
        let clear : bit_at bits other ≡ 0 = ahead_bit other from ∙ ap (λ n. bit_at n (other - least)) none ∙ bit_at-zero (other - least) in
        omega (arith, clear, set)

    pub first_ahead : bits / 2 ^ least < 2 ^ 128 → (bits / 2 ^ least ≡ 0 → ⊥)
        → IsFirstBit bits least (least + trailing_zeros w128 (bits / 2 ^ least))
    first_ahead fits some =
        let ahead = bits / 2 ^ least in
        let first = bit_at-trailing_zeros w128 ahead (omega (arith, some)) fits in
        let place = least + trailing_zeros w128 ahead in
        let back : place - least ≡ trailing_zeros w128 ahead = omega arith in
        record {
          from_least = omega arith;
          set = ahead_bit place (omega arith) ∙ ap (bit_at ahead) back ∙ first.1;
          none_before = λ other from before set.
              let clear = first.2 (other - least) (omega (arith, from, before)) in
              let same = ahead_bit other from in
              omega (arith, clear, same, set);
        }

  -- ---- before a place

  module _ (below count : ℕ) (some : 1 ≤ count) (few : count ≤ 128) where
    abbrev behind : ℕ
    behind = bit_and bits ((2 ^ 128 - 1) / 2 ^ (128 - count))

    mask_is : (2 ^ 128 - 1) / 2 ^ (128 - count) ≡ 2 ^ count - 1
    mask_is =
        let width : 128 - (128 - count) ≡ count = omega arith in
        ones_shr 128 (128 - count) (omega arith) ∙ ap (λ n. 2 ^ n - 1) width

    bit_inside : (place : ℕ) → bit_at behind place ≡ 1 → (place < count) × (bit_at bits place ≡ 1)
    bit_inside place set =
        let both = bit_at_and bits ((2 ^ 128 - 1) / 2 ^ (128 - count)) place in
        let same = ap (λ m. bit_at m place) mask_is in
        let low = bit_at-lt bits place in
        elim (cases_lt place count) [
          | inl inside ↦ (inside, omega (arith, both, set, low))
          | inr past ↦ let clear = bit_at_ones_above count place past in absurd (omega (arith, both, set, same, clear))
        ]

    inside_bit : (place : ℕ) → place < count → bit_at bits place ≡ 1 → bit_at behind place ≡ 1
    inside_bit place inside set =
        let both = bit_at_and bits ((2 ^ 128 - 1) / 2 ^ (128 - count)) place in
        let same = ap (λ m. bit_at m place) mask_is in
        let one = bit_at_ones count place inside in
        omega (arith, both, set, same, one)

    module _ (within : count ≤ below) (whole : (place : ℕ) → place < below → place < 128 → place < count) where
      pub none_behind : behind ≡ 0 → (other : ℕ) → other < below → bit_at bits other ≡ 1 → ⊥
      none_behind none other before set =
          let one = inside_bit other (whole other before (place_below other set)) set in
          let same = ap (λ n. bit_at n other) none in
          omega (arith, one, same, bit_at-zero other)

      pub last_behind : behind < 2 ^ 128 → (behind ≡ 0 → ⊥) → IsLastBit bits below (127 - leading_zeros w128 behind)
      last_behind fits some =
          let top = leading_top 128 behind (omega (arith, some)) fits in
          let j = top.0 in
          let is_j : 127 - leading_zeros w128 behind ≡ j = omega (arith, top.1) in
          let low : 1 ≤ behind / 2 ^ j = le-div 1 behind (2 ^ j) (pow_pos j) (omega (arith, top.2)) in
          let high : behind / 2 ^ j < 2 = div_below behind (2 ^ j) 2 (pow_pos j) (omega (arith, top.3, pow-suc 2 j)) in
          let set : bit_at behind j ≡ 1 = omega (arith, low, high) in
          let inside = bit_inside j set in
          let L : ℕ → Type 0 = IsLastBit bits below in
          subst L (sym is_j) (record {
            before = omega (arith, inside.0, within);
            set = inside.1;
            none_behind = λ other later before other_set.
                let one = inside_bit other (whole other before (place_below other other_set)) other_set in
                let clear = bit_at_above behind (suc j) other top.3 (omega (arith, later)) in
                omega (arith, one, clear);
          })
