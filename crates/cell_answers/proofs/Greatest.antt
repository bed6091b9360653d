-- The greatest of numbers.
use Rattle.std.proofs.Common.{◌≡◌, ℕ, ◌+◌, ◌<◌, ◌⊎◌, ℤ, ◌+ℤ◌, ◌≤ℤ◌, Option, Some, None, subst, inl, inr, arith}
use Rattle.std.proofs.lemmas.Bool.{cases_lt}
use Rattle.std.proofs.lemmas.Int.{ints}
use Rattle.score_numbers.specs.Greatest.{IsGreatestOf}

-- the same numbers
pub greatest_same : (A B : ℤ → Type 0) (greatest : Option ℤ) → ((number : ℤ) → A number → B number)
    → ((number : ℤ) → B number → A number) → IsGreatestOf A greatest → IsGreatestOf B greatest
greatest_same A B None to back none = λ number b. none number (back number b)
greatest_same A B (Some greatest) to back it = (to greatest it.0, λ number b. it.1 number (back number b))

-- the greater of two is the greatest of both
pub greatest_either : (A B : ℤ → Type 0) (a b both : Option ℤ) → IsGreatestOf A a → IsGreatestOf B b
    → IsGreatestOf (λ number. (a ≡ Some number) ⊎ (b ≡ Some number)) both
    → IsGreatestOf (λ number. A number ⊎ B number) both
greatest_either A B None None None none none' it = λ number h. elim h [ inl x ↦ none number x | inr y ↦ none' number y ]
greatest_either A B None None (Some both) none none' it = absurd (elim it.0 [ inl e ↦ absurd cc | inr e ↦ absurd cc ])
greatest_either A B (Some a) b None is is' it = absurd (it a (inl (λ i. Some a)))
greatest_either A B None (Some b) None none is' it = absurd (it b (inr (λ i. Some b)))
greatest_either A B (Some a) None (Some both) is none it =
    let same : a ≡ both = elim it.0 [ inl e ↦ cc | inr e ↦ absurd cc ] in
    (inl (subst A same is.0), λ number h. elim h [ inl x ↦ subst (λ z. number ≤ℤ z) same (is.1 number x) | inr y ↦ absurd (none number y) ])
greatest_either A B None (Some b) (Some both) none is it =
    let same : b ≡ both = elim it.0 [ inl e ↦ absurd cc | inr e ↦ cc ] in
    (inr (subst B same is.0), λ number h. elim h [ inl x ↦ absurd (none number x) | inr y ↦ subst (λ z. number ≤ℤ z) same (is.1 number y) ])
greatest_either A B (Some a) (Some b) (Some both) is is' it = (
  elim it.0 [ inl e ↦ inl (let same : a ≡ both = cc in subst A same is.0) | inr e ↦ inr (let same : b ≡ both = cc in subst B same is'.0) ],
  λ number h. elim h [
    | inl x ↦ let l = is.1 number x in let m = it.1 a (inl (λ i. Some a)) in omega (arith, ints)
    | inr y ↦ let l = is'.1 number y in let m = it.1 b (inr (λ i. Some b)) in omega (arith, ints)
  ],
)

-- the same number added to each
pub greatest_moved : (A : ℤ → Type 0) (more greatest : ℤ) → IsGreatestOf A (Some greatest)
    → IsGreatestOf (λ number. (other : ℤ) × A other × (number ≡ (more +ℤ other))) (Some (more +ℤ greatest))
greatest_moved A more greatest it = ((greatest, it.0, λ i. more +ℤ greatest), λ number h. let l = it.1 h.0 h.1 in let e = h.2 in omega (arith, ints))

-- it holds at some position before the bound
abbrev pub HasBefore : (ℕ → ℤ → Type 0) → ℕ → ℤ → Type 0
HasBefore At bound number = (position : ℕ) × (position < bound) × At position number

module _ (At : ℕ → ℤ → Type 0) (bound : ℕ) (before : Option ℤ) (is : IsGreatestOf (HasBefore At bound) before) where
  -- one position more
  pub before_more : (here both : Option ℤ) → IsGreatestOf (At bound) here
      → IsGreatestOf (λ number. (before ≡ Some number) ⊎ (here ≡ Some number)) both
      → IsGreatestOf (HasBefore At (bound + 1)) both
  before_more here both is_here either =
      greatest_same (λ number. HasBefore At bound number ⊎ At bound number) (HasBefore At (bound + 1)) both
      (λ number h. elim h [ inl it ↦ (it.0, omega (arith, it.1), it.2) | inr it ↦ (bound, omega arith, it) ])
      (λ number h. elim (cases_lt h.0 bound) [
        | inl l ↦ inl (h.0, l, h.2)
        | inr l ↦
            let same : h.0 ≡ bound = omega (arith, h.1) in
            inr (subst (λ position. At position number) same h.2)
      ])
      (greatest_either (HasBefore At bound) (At bound) before here both is is_here either)

  -- a position with no number changes nothing
  pub before_none : ((number : ℤ) → At bound number → ⊥) → IsGreatestOf (HasBefore At (bound + 1)) before
  before_none none =
      greatest_same (HasBefore At bound) (HasBefore At (bound + 1)) before
      (λ number h. (h.0, omega (arith, h.1), h.2))
      (λ number h. elim (cases_lt h.0 bound) [
        | inl l ↦ (h.0, l, h.2)
        | inr l ↦
            let same : h.0 ≡ bound = omega (arith, h.1) in
            absurd (none number (subst (λ position. At position number) same h.2))
      ])
      is
