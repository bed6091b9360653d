-- Bits of far ends among numbers side by side: those of one more far end, and those of one more number.
use Rattle.std.proofs.Common.{◌≡◌, ◌⊎◌, ◌↔◌, ℕ, ◌+◌, ◌-◌, ◌*◌, ◌/◌, ◌%◌, ◌^◌, ◌<◌, ◌≤◌, List, length, get_or, set, take, sym, ap, refl, subst, inl, inr, ⊎_elim, ◌∙◌, arith}
use Rattle.std.specs.Int.{bit_at}
use Rattle.std.specs.Prelude.{bit_or}
use Rattle.std.specs.List.{Contains}
use Rattle.std.proofs.lemmas.Bool.{cases_lt}
use Rattle.cell_tables.specs.Bits.{IsBitOf}
use Rattle.cell_tables.specs.WordBits.{AreBitsSet, IsBitOfFar}
use Rattle.cell_tables.proofs.Lists.{contained_later, contained_now, contained_cases}
use Rattle.cell_tables.proofs.NumberBits.{shifted_bit, one_word_set, bits_chained, bits_like}

-- the place is one of these, moved
abbrev pub IsMoved : List ℕ → ℕ → ℕ → Type 0
IsMoved fars shift place = (far : ℕ) × Contains fars far × (place ≡ far + shift)

pub one_more_far : (old words : List ℕ) (start low : ℕ) (fars : List ℕ) (shift i : ℕ) → i < length fars → start + ((get_or fars i 0 + shift) / 64 - low) < length words → AreBitsSet old words (IsBitOfFar start low (IsMoved (take i fars) shift))
    → AreBitsSet old (set words (start + ((get_or fars i 0 + shift) / 64 - low)) (bit_or (get_or words (start + ((get_or fars i 0 + shift) / 64 - low)) 0) (1 * 2 ^ ((get_or fars i 0 + shift) % 64) % 2 ^ 64))) (IsBitOfFar start low (IsMoved (take (i + 1) fars) shift))
one_more_far old words start low fars shift i l within before =
    let far = get_or fars i 0 in
    let at = start + ((far + shift) / 64 - low) in
    let word = 1 * 2 ^ ((far + shift) % 64) % 2 ^ 64 in
    let told = λ (place : ℕ). shifted_bit ((far + shift) % 64) place (omega arith) in
    bits_like old (set words at (bit_or (get_or words at 0) word))
    (λ number place. IsBitOfFar start low (IsMoved (take i fars) shift) number place ⊎ ((number ≡ at) × (bit_at word place ≡ 1)))
    (IsBitOfFar start low (IsMoved (take (i + 1) fars) shift))
    (λ number place below either. ⊎_elim
    (λ (moved, (other, is, e), number_is, place_is). (moved, (other, contained_later fars i 0 other l is, e), number_is, place_is))
    (λ (number_is, bit). (far + shift, (far, contained_now fars i 0 l, refl), number_is, (told place).0 bit)) either)
    (λ number place below (moved, (other, is, e), number_is, place_is). ⊎_elim
    (λ early. inl (moved, (other, early, e), number_is, place_is))
    (λ here.
    let same : moved ≡ far + shift = e ∙ ap (λ n. n + shift) (sym here) in
    inr (number_is ∙ ap (λ n. start + (n / 64 - low)) same, (told place).1 (place_is ∙ ap (λ n. n % 64) same))) (contained_cases fars i 0 other l is))
    (bits_chained old words (set words at (bit_or (get_or words at 0) word)) (IsBitOfFar start low (IsMoved (take i fars) shift)) (λ number place. (number ≡ at) × (bit_at word place ≡ 1)) before (one_word_set words at word within))

-- the far end is one of these, and its number comes before this one
abbrev pub IsEarly : List ℕ → ℕ → ℕ → ℕ → ℕ → Type 0
IsEarly bits first past number far = IsBitOf bits first past far × (far / 64 < number)

module _ (old words bits : List ℕ) (start first past number word : ℕ) (low : first / 64 ≤ number) (within : start + (number - first / 64) < length words) (told : (k : ℕ) → k < 64 → (bit_at word k ≡ 1) ↔ IsBitOf bits first past (64 * number + k)) where
  pub one_more_number : AreBitsSet old words (IsBitOfFar start (first / 64) (IsEarly bits first past number))
      → AreBitsSet old (set words (start + (number - first / 64)) (bit_or (get_or words (start + (number - first / 64)) 0) word)) (IsBitOfFar start (first / 64) (IsEarly bits first past (number + 1)))
  one_more_number before =
      let at = start + (number - first / 64) in
      bits_like old (set words at (bit_or (get_or words at 0) word))
      (λ n place. IsBitOfFar start (first / 64) (IsEarly bits first past number) n place ⊎ ((n ≡ at) × (bit_at word place ≡ 1)))
      (IsBitOfFar start (first / 64) (IsEarly bits first past (number + 1)))
      (λ n place below either. ⊎_elim
      (λ (far, (is, early), number_is, place_is). (far, (is, omega arith), number_is, place_is))
      (λ (number_is, bit).
      let far : ℕ = 64 * number + place in
      let far_number : far / 64 ≡ number = omega arith in
      (far, ((told place below).0 bit, omega arith), omega arith, omega arith)) either)
      (λ n place below (far, (is, early), number_is, place_is).
      elim (cases_lt (far / 64) number) [
        | inl before_it ↦ inl (far, (is, before_it), number_is, place_is)
        | inr behind ↦
            let same_number : far / 64 ≡ number = omega arith in
            let same : far ≡ 64 * number + place = omega arith in
            inr (number_is ∙ ap (λ x. start + (x - first / 64)) same_number, (told place below).1 (subst (IsBitOf bits first past) same is))
      ])
      (bits_chained old words (set words at (bit_or (get_or words at 0) word)) (IsBitOfFar start (first / 64) (IsEarly bits first past number)) (λ n place. (n ≡ at) × (bit_at word place ≡ 1)) before (one_word_set words at word within))

pub all_numbers : (old words bits : List ℕ) (start low first past number : ℕ) → (past - 1) / 64 < number → AreBitsSet old words (IsBitOfFar start low (IsEarly bits first past number)) → AreBitsSet old words (IsBitOfFar start low (IsBitOf bits first past))
all_numbers old words bits start low first past number high early =
    bits_like old words (IsBitOfFar start low (IsEarly bits first past number)) (IsBitOfFar start low (IsBitOf bits first past))
    (λ n place below (far, is, number_is, place_is). (far, is.0, number_is, place_is))
    (λ n place below (far, is, number_is, place_is). (far, (is, omega (arith, is.before)), number_is, place_is)) early

-- ---- the bits of one number, by masks

module _ (bits : List ℕ) (first past number word k : ℕ) (below : k < 64) (some : first < past) (low : first / 64 ≤ number) (high : number ≤ (past - 1) / 64) where
  -- where the bits are those of the far ends within
  pub masked : (bit_at word k ≡ 1) ↔ ((bit_at (get_or bits number 0) k ≡ 1) × (first ≤ 64 * number + k) × (64 * number + k < past)) → (bit_at word k ≡ 1) ↔ IsBitOf bits first past (64 * number + k)
  masked told =
      let number_is : (64 * number + k) / 64 ≡ number = omega arith in
      let place_is : (64 * number + k) % 64 ≡ k = omega arith in
      let same : bit_at (get_or bits ((64 * number + k) / 64) 0) ((64 * number + k) % 64) ≡ bit_at (get_or bits number 0) k = λ i. bit_at (get_or bits (number_is i) 0) (place_is i) in (
        λ one. let all = told.0 one in record { from_first = all.1; before = all.2; bit = same ∙ all.0 },
        λ is. told.1 (sym same ∙ is.bit, is.from_first, is.before),
      )

  pub from_first_masked : number ≡ first / 64 → (first % 64 ≤ k) ↔ (first ≤ 64 * number + k)
  from_first_masked e = (λ l. omega arith, λ l. omega arith)

  pub from_first_whole : (number ≡ first / 64 → ⊥) → first ≤ 64 * number + k
  from_first_whole apart = omega arith

  pub before_past_masked : number ≡ (past - 1) / 64 → (k ≤ (past - 1) % 64) ↔ (64 * number + k < past)
  before_past_masked e = (λ l. omega arith, λ l. omega arith)

  pub before_past_whole : (number ≡ (past - 1) / 64 → ⊥) → 64 * number + k < past
  before_past_whole apart = omega arith

-- a number between the first and the last one is not masked
pub whole_between : (bits : List ℕ) (first past number : ℕ) → first / 64 < number → number < (past - 1) / 64 → (k : ℕ) → k < 64 → (bit_at (get_or bits number 0) k ≡ 1) ↔ IsBitOf bits first past (64 * number + k)
whole_between bits first past number low high k below =
    masked bits first past number (get_or bits number 0) k below (omega arith) (omega arith) (omega arith)
    (λ one. (one, omega arith, omega arith), λ all. all.0)
