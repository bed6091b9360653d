-- Bits of numbers side by side: one number with more of its bits set, one after another.
use Rattle.std.proofs.Common.{◌≡◌, ◌⊎◌, ◌↔◌, ℕ, ◌*◌, ◌%◌, ◌^◌, ◌<◌, max, List, length, get_or, set, sym, ap, refl, subst, inl, inr, ⊎_elim, ◌∙◌, arith}
use Rattle.std.specs.Int.{bit_at}
use Rattle.std.specs.Prelude.{bit_or, bit_and}
use Rattle.std.proofs.lemmas.Bool.{cases_eq}
use Rattle.std.proofs.lemmas.List.{length-set, get_or-set_same, get_or-set_other}
use Rattle.std.proofs.lemmas.Nat.{one_shl}
use Rattle.std.proofs.lemmas.Nat.Bits.{bit_at-lt, bit_at_or, bit_at_and, bit_at-pow_same, bit_at-pow_other}
use Rattle.cell_tables.specs.WordBits.{AreBitsSet}

greatest_one : (a b : ℕ) → a < 2 → b < 2 → (max a b ≡ 1) ↔ ((a ≡ 1) ⊎ (b ≡ 1))
greatest_one a b l m = (
  λ e. elim (cases_eq a 1) [ inl here ↦ inl here | inr none ↦ inr (omega arith) ],
  λ either. ⊎_elim (λ here. omega arith) (λ here. omega arith) either,
)

pub or_bit : (a b place : ℕ) → (bit_at (bit_or a b) place ≡ 1) ↔ ((bit_at a place ≡ 1) ⊎ (bit_at b place ≡ 1))
or_bit a b place =
    let told = greatest_one (bit_at a place) (bit_at b place) (bit_at-lt a place) (bit_at-lt b place) in
    let both = bit_at_or a b place in
    (λ e. told.0 (sym both ∙ e), λ either. both ∙ told.1 either)

pub and_bit : (a b place : ℕ) → (bit_at (bit_and a b) place ≡ 1) ↔ ((bit_at a place ≡ 1) × (bit_at b place ≡ 1))
and_bit a b place =
    let both = bit_at_and a b place in
    let l = bit_at-lt a place in
    let m = bit_at-lt b place in
    (λ e. (omega (arith, both, l, m, e), omega (arith, both, l, m, e)), λ (one, two). omega (arith, both, one, two))

pub shifted_bit : (place other : ℕ) → place < 64 → (bit_at (1 * 2 ^ place % 2 ^ 64) other ≡ 1) ↔ (other ≡ place)
shifted_bit place other below =
    let shifted = one_shl place 64 below in
    let B : ℕ → ℕ → Type 0 = λ word k. bit_at word k ≡ 1 in (
      λ e. elim (cases_eq other place) [
        | inl same ↦ same
        | inr apart ↦
            let none = bit_at-pow_other place other apart in
            let one : bit_at (2 ^ place) other ≡ 1 = subst (λ word. B word other) shifted e in
            absurd (omega (arith, none, one))
      ],
      λ same. subst (λ word. B word other) (sym shifted) (subst (B (2 ^ place)) (sym same) (bit_at-pow_same place)),
    )

-- one number has more bits
pub one_word_set : (words : List ℕ) (at word : ℕ) → at < length words → AreBitsSet words (set words at (bit_or (get_or words at 0) word)) (λ number place. (number ≡ at) × (bit_at word place ≡ 1))
one_word_set words at word l = record {
  as_many = length-set words at (bit_or (get_or words at 0) word);
  exact = λ number place below. elim (cases_eq number at) [
    | inl e ↦
        let read : get_or (set words at (bit_or (get_or words at 0) word)) number 0 ≡ bit_or (get_or words at 0) word = ap (λ n. get_or (set words at (bit_or (get_or words at 0) word)) n 0) e ∙ get_or-set_same words at (bit_or (get_or words at 0) word) 0 l in
        let bits = ap (λ w. bit_at w place) read in
        let old = ap (λ n. bit_at (get_or words n 0) place) e in
        let told = or_bit (get_or words at 0) word place in (
          λ one. ⊎_elim (λ was. inl (old ∙ was)) (λ now. inr (e, now)) (told.0 (sym bits ∙ one)),
          λ either. bits ∙ told.1 (⊎_elim (λ was. inl (sym old ∙ was)) (λ now. inr now.1) either),
        )
    | inr apart ↦
        let bits = ap (λ w. bit_at w place) (get_or-set_other words at number (bit_or (get_or words at 0) word) 0 apart) in
        (λ one. inl (sym bits ∙ one), λ either. bits ∙ ⊎_elim (λ was. was) (λ now. absurd (apart now.0)) either)
  ];
}

pub bits_chained : (first second third : List ℕ) (Before After : ℕ → ℕ → Type 0) → AreBitsSet first second Before → AreBitsSet second third After → AreBitsSet first third (λ number place. Before number place ⊎ After number place)
bits_chained first second third Before After before after = record {
  as_many = after.as_many ∙ before.as_many;
  exact = λ number place below. (
    λ one. ⊎_elim
        (λ was. ⊎_elim (λ early. inl early) (λ here. inr (inl here)) ((before.exact number place below).0 was))
        (λ here. inr (inr here)) ((after.exact number place below).0 one),
    λ either. (after.exact number place below).1 (⊎_elim
        (λ early. inl ((before.exact number place below).1 (inl early)))
        (λ some. ⊎_elim (λ here. inl ((before.exact number place below).1 (inr here))) (λ here. inr here) some) either),
  );
}

pub bits_like : (old new : List ℕ) (Here There : ℕ → ℕ → Type 0) → ((number place : ℕ) → place < 64 → Here number place → There number place) → ((number place : ℕ) → place < 64 → There number place → Here number place)
    → AreBitsSet old new Here → AreBitsSet old new There
bits_like old new Here There to from bits = record {
  as_many = bits.as_many;
  exact = λ number place below. (
    λ one. ⊎_elim (λ was. inl was) (λ here. inr (to number place below here)) ((bits.exact number place below).0 one),
    λ either. (bits.exact number place below).1 (⊎_elim (λ was. inl was) (λ there. inr (from number place below there)) either),
  );
}

pub no_bits_set : (words : List ℕ) (Holds : ℕ → ℕ → Type 0) → ((number place : ℕ) → Holds number place → ⊥) → AreBitsSet words words Holds
no_bits_set words Holds none = record {
  as_many = refl;
  exact = λ number place below. (λ one. inl one, λ either. ⊎_elim (λ was. was) (λ here. absurd (none number place here)) either);
}
