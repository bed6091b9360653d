-- Bits of alternatives, and those that may begin where some letters stand.
use Rattle.std.proofs.Common.{◌≡◌, ℕ, ◌+◌, ◌-◌, ◌*◌, ◌/◌, ◌%◌, ◌^◌, ◌<◌, ◌≤◌, Option, Some, None, List, length, set, get_or, refl, sym, ap, subst, ◌∙◌, inl, inr, arith}
use Rattle.std.specs.Prelude.{bit_and, bit_or}
use Rattle.std.specs.Int.{bit_at}
use Rattle.std.proofs.lemmas.Bool.{cases_eq}
use Rattle.std.proofs.lemmas.List.{get_or-set_same, get_or-set_other}
use Rattle.std.proofs.lemmas.Nat.{one_shl, shr-shr}
use Rattle.std.proofs.lemmas.Nat.Bits.{bit_at-lt, bit_at_and, bit_at_or, bit_at-pow_same}
use Rattle.split_lines.specs.declared.beginnings.Place.{Place}
use Rattle.split_lines.specs.Beginnings.{IsToldAt}

-- ---- bits

-- a bit that is set stays set, whatever is added
pub set_left : (a b i : ℕ) → bit_at a i ≡ 1 → bit_at (bit_or a b) i ≡ 1
set_left a b i one = omega (arith, one, bit_at_or a b i, bit_at-lt b i)

pub set_right : (a b i : ℕ) → bit_at b i ≡ 1 → bit_at (bit_or a b) i ≡ 1
set_right a b i one = omega (arith, one, bit_at_or a b i, bit_at-lt a i)

-- the bit that is added is set
pub bit_set : (a k : ℕ) → k < 64 → bit_at (bit_or a (1 * 2 ^ k % 2 ^ 64)) k ≡ 1
bit_set a k l = set_right a _ k (ap (λ n. bit_at n k) (one_shl k 64 l) ∙ bit_at-pow_same k)

-- so it does where it stands in a list of which one number gets a bit
group_still : (groups : List ℕ) (k more other i : ℕ) → k < length groups → bit_at (get_or groups i 0) other ≡ 1 → bit_at (get_or (set groups k (bit_or (get_or groups k 0) more)) i 0) other ≡ 1
group_still groups k more other i l one =
    let new = bit_or (get_or groups k 0) more in
    elim (cases_eq i k) [
      | inl same ↦
          ap (λ n. bit_at (get_or (set groups k new) n 0) other) same
          ∙ ap (λ n. bit_at n other) (get_or-set_same groups k new 0 l)
          ∙ set_left (get_or groups k 0) more other (subst (λ n. bit_at (get_or groups n 0) other ≡ 1) same one)
      | inr apart ↦ ap (λ n. bit_at n other) (get_or-set_other groups k i new 0 apart) ∙ one
    ]

module _ (place : Place) (more other : ℕ) where
  pub told_still_grouped : (k : ℕ) (letter : Option ℕ) → k < length place.groups → IsToldAt place other letter
      → IsToldAt (record { any = place.any; groups = set place.groups k (bit_or (get_or place.groups k 0) more) }) other letter
  told_still_grouped k None l told = told
  told_still_grouped k (Some letter) l told = group_still place.groups k more other (letter % 32) l told

  pub told_still_any : (letter : Option ℕ) → IsToldAt place other letter → IsToldAt (record { any = bit_or place.any more; groups = place.groups }) other letter
  told_still_any None told = set_left place.any more other told
  told_still_any (Some letter) told = told

-- bits of a number without those before a place
pub bit_behind : (bits number other : ℕ) → number ≤ other → bit_at (bits / 2 ^ number) (other - number) ≡ bit_at bits other
bit_behind bits number other l =
    let there : number + (other - number) ≡ other = omega arith in
    ap (λ n. n % 2) (shr-shr bits number (other - number)) ∙ ap (bit_at bits) there

-- ---- alternatives whose letters stand there

-- an alternative that is told at a place is among those of the letter there, where that is its own, if it is known
pub told_there : (place : Place) (alternative bits : ℕ) (own there : Option ℕ)
    → (IsToldAt place alternative None → bit_at bits alternative ≡ 1) → (IsToldAt place alternative there → bit_at bits alternative ≡ 1)
    → IsToldAt place alternative own → ((letter : ℕ) → own ≡ Some letter → there ≡ Some letter) → bit_at bits alternative ≡ 1
told_there place alternative bits None there any letter told same = any told
told_there place alternative bits (Some own) there any letter told same = letter (subst (IsToldAt place alternative) (sym (same own refl)) told)

-- a bit that is set in three numbers
pub set_in_three : (a b c i : ℕ) → bit_at a i ≡ 1 → bit_at b i ≡ 1 → bit_at c i ≡ 1 → bit_at (bit_and (bit_and a b) c) i ≡ 1
set_in_three a b c i one two three = omega (arith, bit_at_and (bit_and a b) c i, bit_at_and a b i, one, two, three)
