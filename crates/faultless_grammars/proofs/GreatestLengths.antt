-- The greatest sizes of all rules are there: lengths that rise from 0, all at once, end at them.
use Rattle.std.proofs.Common.{◌≡◌, ℕ, zero, suc, ◌+◌, ◌-◌, ◌<◌, ◌≤◌, nat_le, if◌then◌else◌, ◌⊎◌, inl, inr, Bool, Option, Some, None, List, [], ◌∷◌, length, map, get_or, replicate, refl, sym, ap, ap₂, subst, ◌∙◌, arith, leb-true, leb-false}
use Rattle.std.proofs.lemmas.Bool.{cases_Bool, le-leb}
use Rattle.std.proofs.lemmas.List.{get_or-map, get_or_past, get_or-replicate, length-map, length-replicate}
use Rattle.adp_model.specs.declared.grammar.Arg.{Arg}
use Rattle.adp_model.specs.declared.grammar.Arg.TheVariants.{Rule, Literal, Letter, Run}
use Rattle.adp_model.specs.declared.grammar.Alt.{Alt}
use Rattle.adp_model.specs.declared.grammar.Rule as rules
use Rattle.adp_model.specs.declared.grammar.Grammar.{Grammar}
use Rattle.adp_model.specs.Parts.{alternatives_of}
use Rattle.adp_model.specs.Lengths.{high_of}
use Rattle.adp_model.specs.Sizes.{sum_of, greater_of, cut_to, greatest_of, greatest_sum, greatest_among, bounded, IsUpTo, AreStableSizes, AreGreatestSizes}

-- ---- what lengths count as

bounded_cases : (n : ℕ) → ((n ≤ 4000) × (bounded (Some n) ≡ Some n)) ⊎ ((4000 < n) × (bounded (Some n) ≡ None))
bounded_cases n = elim (cases_Bool (nat_le n 4000)) [
  | inl few ↦ inl (leb-true n 4000 few, ap (λ (b : Bool). if b then Some n else None) few)
  | inr many ↦ inr (leb-false n 4000 many, ap (λ (b : Bool). if b then Some n else None) many)
]

bounded_few : (n : ℕ) → n ≤ 4000 → bounded (Some n) ≡ Some n
bounded_few n few = ap (λ (b : Bool). if b then Some n else None) (le-leb n 4000 few)

bounded_fits : (a : Option ℕ) (len : ℕ) → bounded a ≡ Some len → len ≤ 4000
bounded_fits None len e = absurd (cc)
bounded_fits (Some a) len e = elim (bounded_cases a) [
  | inl few ↦ let same : a ≡ len = cc (few.1, e) in omega (arith, few.0)
  | inr many ↦ let wrong : None ≡ Some len = sym many.1 ∙ e in absurd (cc)
]

-- ---- the order of lengths

up_to_same : (a : Option ℕ) → IsUpTo a a
up_to_same None = tt
up_to_same (Some n) = omega arith

from_zero : (a : Option ℕ) → IsUpTo (Some 0) a
from_zero None = tt
from_zero (Some n) = omega arith

sum_up_to : (a b c d : Option ℕ) → IsUpTo a b → IsUpTo c d → IsUpTo (sum_of a c) (sum_of b d)
sum_up_to a None c d h k = tt
sum_up_to a (Some b) c None h k = tt
sum_up_to None (Some b) c (Some d) h k = absurd h
sum_up_to (Some a) (Some b) None (Some d) h k = absurd k
sum_up_to (Some a) (Some b) (Some c) (Some d) h k = omega arith

cut_up_to : (high a b : Option ℕ) → IsUpTo a b → IsUpTo (cut_to high a) (cut_to high b)
cut_up_to None a b h = h
cut_up_to (Some most) None None h = omega arith
cut_up_to (Some most) (Some a) None h = omega arith
cut_up_to (Some most) None (Some b) h = absurd h
cut_up_to (Some most) (Some a) (Some b) h = omega arith

greater_up_to : (a b c d : Option ℕ) → IsUpTo a b → IsUpTo c d → IsUpTo (greater_of a c) (greater_of b d)
greater_up_to a None c d h k = tt
greater_up_to a (Some b) c None h k = tt
greater_up_to None (Some b) c (Some d) h k = absurd h
greater_up_to (Some a) (Some b) None (Some d) h k = absurd k
greater_up_to (Some a) (Some b) (Some c) (Some d) h k = omega arith

bounded_up_to : (a b : Option ℕ) → IsUpTo a b → IsUpTo (bounded a) (bounded b)
bounded_up_to a None h = tt
bounded_up_to None (Some b) h = absurd h
bounded_up_to (Some a) (Some b) h = elim (bounded_cases b) [
  | inl few ↦
      let first = bounded_few a (omega (arith, few.0)) in
      subst (λ it. IsUpTo (bounded (Some a)) it) (sym few.1) (subst (λ it. IsUpTo it (Some b)) (sym first) h)
  | inr many ↦ subst (λ it. IsUpTo (bounded (Some a)) it) (sym many.1) tt
]

-- ---- greater lengths make greater ones

abbrev AreUpTo : List (Option ℕ) → List (Option ℕ) → Type 0
AreUpTo sizes others = (rule : ℕ) → IsUpTo (get_or sizes rule None) (get_or others rule None)

argument_up_to : (sizes others : List (Option ℕ)) → AreUpTo sizes others → (argument : Arg)
    → IsUpTo (greatest_of sizes argument) (greatest_of others argument)
argument_up_to sizes others below (Rule rule) = below rule
argument_up_to sizes others below (Literal text) = omega arith
argument_up_to sizes others below (Letter class) = omega arith
argument_up_to sizes others below (Run class low high) = up_to_same high

arguments_up_to : (sizes others : List (Option ℕ)) → AreUpTo sizes others → (arguments : List Arg)
    → IsUpTo (greatest_sum sizes arguments) (greatest_sum others arguments)
arguments_up_to sizes others below [] = omega arith
arguments_up_to sizes others below (argument ∷ arguments) =
    sum_up_to _ _ _ _ (argument_up_to sizes others below argument) (arguments_up_to sizes others below arguments)

among_up_to : (sizes others : List (Option ℕ)) → AreUpTo sizes others → (alternatives : List Alt)
    → IsUpTo (greatest_among sizes alternatives) (greatest_among others alternatives)
among_up_to sizes others below [] = omega arith
among_up_to sizes others below (alternative ∷ alternatives) =
    greater_up_to _ _ _ _
    (cut_up_to (high_of alternative.size) _ _ (arguments_up_to sizes others below alternative.args))
    (among_up_to sizes others below alternatives)

-- ---- how much lengths can rise

abbrev rise_of : Option ℕ → ℕ
rise_of None = 0
rise_of (Some len) = 4001 - len

abbrev rise_left : List (Option ℕ) → ℕ
rise_left [] = 0
rise_left (size ∷ sizes) = rise_of size + rise_left sizes

abbrev AreFew : List (Option ℕ) → Type 0
AreFew sizes = (rule len : ℕ) → get_or sizes rule None ≡ Some len → len ≤ 4000

one_rises : (a b : Option ℕ) → ((len : ℕ) → a ≡ Some len → len ≤ 4000) → IsUpTo a b
    → (a ≡ b) ⊎ (rise_of b < rise_of a)
one_rises None None few h = inl refl
one_rises (Some a) None few h = inr (omega (arith, few a refl))
one_rises None (Some b) few h = absurd h
one_rises (Some a) (Some b) few h = by (at_most a b (few a refl) h)
  where
    at_most : (m n : ℕ) → m ≤ 4000 → m ≤ n → (m ≡ n) ⊎ (4001 - n < 4001 - m)
    at_most m n low under = grind arith

    by : (a ≡ b) ⊎ (4001 - b < 4001 - a) → (Some a ≡ Some b) ⊎ (rise_of (Some b) < rise_of (Some a))
    by (inl same) = inl (ap (λ n. Some n) same)
    by (inr less) = inr less

-- lengths that rise are the same, or can rise less
same_or_less : (a b : List (Option ℕ)) → length a ≡ length b → AreFew a → AreUpTo a b
    → (a ≡ b) ⊎ (rise_left b < rise_left a)
same_or_less [] [] each few up = inl refl
same_or_less [] (y ∷ b) each few up = absurd (omega (arith, each))
same_or_less (x ∷ a) [] each few up = absurd (omega (arith, each))
same_or_less (x ∷ a) (y ∷ b) each few up =
    by (one_rises x y (few 0) (up 0))
    (same_or_less a b (omega (arith, each)) (λ rule. few (suc rule)) (λ rule. up (suc rule)))
  where
    by : (x ≡ y) ⊎ (rise_of y < rise_of x) → (a ≡ b) ⊎ (rise_left b < rise_left a)
        → (x ∷ a ≡ y ∷ b) ⊎ (rise_left (y ∷ b) < rise_left (x ∷ a))
    by (inl same) (inl all) = inl (ap₂ (λ size sizes. size ∷ sizes) same all)
    by (inl same) (inr less) = let e = ap rise_of same in inr (omega (arith, e, less))
    by (inr less) (inl all) = let e = ap rise_left all in inr (omega (arith, e, less))
    by (inr less) (inr less') = inr (omega (arith, less, less'))

-- ---- all rules at once

module _ (grammar : Grammar) where
  abbrev made_of : List (Option ℕ) → rules.Rule → Option ℕ
  made_of sizes rule = bounded (greatest_among sizes rule.alts)

  abbrev next : List (Option ℕ) → List (Option ℕ)
  next sizes = map (made_of sizes) grammar.rules

  next_each : (sizes : List (Option ℕ)) → length (next sizes) ≡ length grammar.rules
  next_each sizes = length-map grammar.rules (made_of sizes)

  next_at : (sizes : List (Option ℕ)) (rule : ℕ) → rule < length grammar.rules
      → get_or (next sizes) rule None ≡ bounded (greatest_among sizes (alternatives_of grammar rule))
  next_at sizes rule inside =
      get_or-map (made_of sizes) grammar.rules rule (record { name = []; alts = [] }) None inside

  past : (sizes : List (Option ℕ)) → length sizes ≡ length grammar.rules → (rule : ℕ) → length grammar.rules ≤ rule
      → get_or sizes rule None ≡ None
  past sizes each rule outside = get_or_past sizes rule None (omega (arith, each, outside))

  inside_or_past : (rule : ℕ) → (rule < length grammar.rules) ⊎ (length grammar.rules ≤ rule)
  inside_or_past rule = grind arith

  -- lengths that rise, and stay below all stable ones
  record AreRising (sizes : List (Option ℕ)) : Type 0 where
    each : length sizes ≡ length grammar.rules
    few : AreFew sizes
    up : AreUpTo sizes (next sizes)
    below : (others : List (Option ℕ)) → AreStableSizes grammar others → AreUpTo sizes others

  few_next : (sizes : List (Option ℕ)) → AreFew (next sizes)
  few_next sizes rule len is = by (inside_or_past rule)
    where
      by : (rule < length grammar.rules) ⊎ (length grammar.rules ≤ rule) → len ≤ 4000
      by (inl inside) =
          bounded_fits (greatest_among sizes (alternatives_of grammar rule)) len (sym (next_at sizes rule inside) ∙ is)
      by (inr outside) =
          let none = past (next sizes) (next_each sizes) rule outside in
          let wrong : None ≡ Some len = sym none ∙ is in
          absurd (cc)

  next_up : (sizes others : List (Option ℕ)) → AreUpTo sizes others → AreUpTo (next sizes) (next others)
  next_up sizes others up rule = by (inside_or_past rule)
    where
      by : (rule < length grammar.rules) ⊎ (length grammar.rules ≤ rule)
          → IsUpTo (get_or (next sizes) rule None) (get_or (next others) rule None)
      by (inl inside) =
          subst (λ size. IsUpTo size (get_or (next others) rule None)) (sym (next_at sizes rule inside))
          (subst (IsUpTo _) (sym (next_at others rule inside))
          (bounded_up_to _ _ (among_up_to sizes others up (alternatives_of grammar rule))))
      by (inr outside) = subst (IsUpTo _) (sym (past (next others) (next_each others) rule outside)) tt

  next_below : (sizes others : List (Option ℕ)) → AreStableSizes grammar others → AreUpTo sizes others
      → AreUpTo (next sizes) others
  next_below sizes others stable up rule = by (inside_or_past rule)
    where
      by : (rule < length grammar.rules) ⊎ (length grammar.rules ≤ rule)
          → IsUpTo (get_or (next sizes) rule None) (get_or others rule None)
      by (inl inside) =
          subst (IsUpTo _) (next_at others rule inside ∙ sym (stable.stable rule inside)) (next_up sizes others up rule)
      by (inr outside) = subst (IsUpTo _) (sym (past others stable.each rule outside)) tt

  rising_next : (sizes : List (Option ℕ)) → AreRising sizes → AreRising (next sizes)
  rising_next sizes rising = record {
    each = next_each sizes;
    few = few_next sizes;
    up = next_up sizes (next sizes) rising.up;
    below = λ others stable. next_below sizes others stable (rising.below others stable);
  }

  greatest_if_same : (sizes : List (Option ℕ)) → AreRising sizes → sizes ≡ next sizes → AreGreatestSizes grammar sizes
  greatest_if_same sizes rising same = record {
    are = record {
      each = rising.each;
      stable = λ rule inside. ap (λ list. get_or list rule None) same ∙ next_at sizes rule inside;
    };
    least = λ others stable rule inside. rising.below others stable rule;
  }

  greatest_above : (fuel : ℕ) (sizes : List (Option ℕ)) → rise_left sizes ≤ fuel → AreRising sizes
      → (greatest : List (Option ℕ)) × AreGreatestSizes grammar greatest
  greatest_above zero sizes little rising =
      elim (same_or_less sizes (next sizes) (rising.each ∙ sym (next_each sizes)) rising.few rising.up) [
        | inl same ↦ (sizes, greatest_if_same sizes rising same)
        | inr less ↦ absurd (omega (arith, less, little))
      ]
  greatest_above (suc fuel) sizes little rising =
      elim (same_or_less sizes (next sizes) (rising.each ∙ sym (next_each sizes)) rising.few rising.up) [
        | inl same ↦ (sizes, greatest_if_same sizes rising same)
        | inr less ↦ greatest_above fuel (next sizes) (omega (arith, less, little)) (rising_next sizes rising)
      ]

  abbrev all_zero : List (Option ℕ)
  all_zero = replicate (length grammar.rules) (Some 0)

  zero_at : (rule : ℕ) → rule < length grammar.rules → get_or all_zero rule None ≡ Some 0
  zero_at rule inside = get_or-replicate (length grammar.rules) rule (Some 0) None inside

  zero_each : length all_zero ≡ length grammar.rules
  zero_each = length-replicate (length grammar.rules) (Some 0)

  zero_few : AreFew all_zero
  zero_few rule len is = by (inside_or_past rule)
    where
      by : (rule < length grammar.rules) ⊎ (length grammar.rules ≤ rule) → len ≤ 4000
      by (inl inside) =
          let same : Some 0 ≡ Some len = sym (zero_at rule inside) ∙ is in
          let none : 0 ≡ len = cc (same) in
          omega (arith, none)
      by (inr outside) =
          let wrong : None ≡ Some len = sym (past all_zero zero_each rule outside) ∙ is in
          absurd (cc)

  zero_below : (others : List (Option ℕ)) → length others ≡ length grammar.rules → AreUpTo all_zero others
  zero_below others each rule = by (inside_or_past rule)
    where
      by : (rule < length grammar.rules) ⊎ (length grammar.rules ≤ rule)
          → IsUpTo (get_or all_zero rule None) (get_or others rule None)
      by (inl inside) =
          subst (λ size. IsUpTo size (get_or others rule None)) (sym (zero_at rule inside)) (from_zero (get_or others rule None))
      by (inr outside) = subst (IsUpTo _) (sym (past others each rule outside)) tt

  pub greatest_sizes : (greatest : List (Option ℕ)) × AreGreatestSizes grammar greatest
  greatest_sizes = greatest_above (rise_left all_zero) all_zero (omega arith) (record {
    each = zero_each;
    few = zero_few;
    up = zero_below (next all_zero) (next_each all_zero);
    below = λ others stable. zero_below others stable.each;
  })
