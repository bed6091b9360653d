-- Bits that are set among some and not among others: those of the 64 places of a number, and the first of all.
use Rattle.std.proofs.Common.{◌≡◌, ◌↔◌, ℕ, ◌+◌, ◌*◌, ◌/◌, ◌%◌, ◌^◌, ◌<◌, ◌≤◌, Option, Some, None, List, inl, inr, sym, subst, arith}
use Rattle.std.specs.Prelude.{bit_and, MatchOption}
use Rattle.std.specs.Int.{bit_at, bit_not, w64}
use Rattle.std.proofs.lemmas.Bool.{cases_lt, cases_eq}
use Rattle.std.proofs.lemmas.Nat.Bits.{bit_at-lt, bit_at_not}
use Rattle.cell_tables.specs.Spans.{Spans}
use Rattle.cell_tables.specs.Bits.{IsBitIn, IsBitOf, IsFirstMissing, IsSet}
use Rattle.cell_tables.proofs.NumberBits.{and_bit}
use Rattle.cell_tables.proofs.SetSpans.{set_in_word, word_at}

clear_bit : (a b place : ℕ) → b < 2 ^ 64 → place < 64 → (bit_at (bit_and a (bit_not w64 b)) place ≡ 1) ↔ ((bit_at a place ≡ 1) × (bit_at b place ≡ 1 → ⊥))
clear_bit a b place fits low =
    let both = and_bit a (bit_not w64 b) place in
    let other = bit_at_not w64 b place fits low in
    let small = bit_at-lt b place in (
      λ one. let all = both.0 one in (all.0, λ set. omega (arith, all.1, other, set)),
      λ (one, clear). both.1 (
        one,
        elim (cases_eq (bit_at b place) 1) [
          | inl set ↦ absurd (clear set)
          | inr none ↦ omega (arith, other, small, none)
        ],
      ),
    )

module _ (spans : Spans ℕ) (rule near first past : ℕ) (bits : List ℕ) (number word set : ℕ) (is : set ≡ word_at spans rule near number) (fits : set < 2 ^ 64) (told : (k : ℕ) → k < 64 → (bit_at word k ≡ 1) ↔ IsBitOf bits first past (64 * number + k)) where
  abbrev clear : ℕ
  clear = bit_and word (bit_not w64 set)

  set_at : (far : ℕ) → IsBitIn set number far ↔ ((far / 64 ≡ number) × IsSet spans rule near far)
  set_at far =
      let S : ℕ → Type 0 = λ n. IsBitIn n number far ↔ ((far / 64 ≡ number) × IsSet spans rule near far) in
      subst S (sym is) (set_in_word spans rule near number far)

  -- the places of this number whose bits are set, and which are not set in the span
  pub missing_in_word : (far : ℕ) → IsBitIn clear number far ↔ ((far / 64 ≡ number) × IsBitOf bits first past far × (IsSet spans rule near far → ⊥))
  missing_in_word far =
      let k = far % 64 in
      let low : k < 64 = omega arith in
      let bit = clear_bit word set k fits low in (
        λ missing.
            let both = bit.0 missing.bit in
            let at : 64 * number + k ≡ far = omega (arith, missing.number_is) in
            (missing.number_is, subst (IsBitOf bits first past) at ((told k low).0 both.0), λ there. both.1 ((set_at far).1 (missing.number_is, there)).bit),
        λ (same, of, missing).
            let at : 64 * number + k ≡ far = omega (arith, same) in
            record {
              number_is = same;
              bit = bit.1 ((told k low).1 (subst (IsBitOf bits first past) (sym at) of), λ one. missing ((set_at far).0 (record { number_is = same; bit = one })).1);
            },
      )

  -- where none of this number is missing before a place, all of them are set there
  set_before : (end far : ℕ) → ((other : ℕ) → IsBitIn clear number other → end ≤ other) → far < end → far / 64 ≡ number → IsBitOf bits first past far → IsSet spans rule near far
  set_before end far least before same of = elim (cases_eq (bit_at set (far % 64)) 1) [
    | inl one ↦ ((set_at far).0 (record { number_is = same; bit = one })).1
    | inr none ↦
        let missing = (missing_in_word far).1 (same, of, λ there. none ((set_at far).1 (same, there)).bit) in
        absurd (omega (arith, least far missing, before))
  ]

  module _ (early : (far : ℕ) → IsBitOf bits first past far → far / 64 < number → IsSet spans rule near far) where
    -- all of this number and before it are set
    pub set_up_to_here : ((far : ℕ) → IsBitIn clear number far → ⊥) → (far : ℕ) → IsBitOf bits first past far → far / 64 < number + 1 → IsSet spans rule near far
    set_up_to_here none far of below = elim (cases_lt (far / 64) number) [
      | inl before ↦ early far of before
      | inr here ↦ set_before (far + 1) far (λ other missing. absurd (none other missing)) (omega arith) (omega arith) of
    ]

    -- the first one that is missing in this number is the first of all
    pub first_missing : (far : ℕ) → IsBitIn clear number far → ((other : ℕ) → IsBitIn clear number other → far ≤ other) → IsFirstMissing bits first past (IsSet spans rule near) far
    first_missing far here least =
        let (same, of, missing) = (missing_in_word far).0 here in
        record {
          set = of;
          missing = missing;
          before = λ other its earlier. elim (cases_lt (other / 64) number) [
            | inl low ↦ early other its low
            | inr high ↦ set_before far other least earlier (omega arith) its
          ];
        }

-- the same where it holds of the same places
pub missing_like : (bits : List ℕ) (first past : ℕ) (Holds Other : ℕ → Type 0) → ((place : ℕ) → Holds place ↔ Other place) → (found : Option ℕ)
    → MatchOption found ((place : ℕ) → IsBitOf bits first past place → Holds place) (IsFirstMissing bits first past Holds)
    → MatchOption found ((place : ℕ) → IsBitOf bits first past place → Other place) (IsFirstMissing bits first past Other)
missing_like bits first past Holds Other told None all = λ place of. (told place).0 (all place of)
missing_like bits first past Holds Other told (Some found) is = record {
  set = is.set;
  missing = λ other. is.missing ((told found).1 other);
  before = λ place of earlier. (told place).0 (is.before place of earlier);
}
