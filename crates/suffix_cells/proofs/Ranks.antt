-- Rules by rising ranks: a cell demands, on its own span, only cells of rules that stand before its own.
use Rattle.std.proofs.Common.{◌≡◌, ℕ, ◌+◌, ◌<◌, List, [], ◌∷◌, ◌++◌, length, get_or, sym, ap, subst, ◌∙◌, inl, inr, arith}
use Rattle.std.specs.Prelude.{slice_index}
use Rattle.std.specs.List.{Contains, IsDistinct}
use Rattle.std.specs.List.Sorted.{IsPermutation, IsNonDecreasingBy}
use Rattle.std.proofs.Math.Dec.{eqb}
use Rattle.std.proofs.lemmas.Bool.{cases_lt, eq-eqb, eqb-false, ne_eqb}
use Rattle.std.proofs.lemmas.Bool.Decides.{eqb_tells}
use Rattle.std.proofs.lemmas.Map.Keys.{apart_from_distinct, IsDistinct-from_apart, IsDistinct-IsPermutation}
use Rattle.std.proofs.lemmas.List.{get_or_append_left, get_or_default, get_or_push, get_or_read}
use Rattle.std.proofs.lemmas.List.Elements.{Contains-get_or}
use Rattle.std.proofs.lemmas.List.Sorted.{Contains-permutation, IsPermutation-sym, length_permutation}
use Rattle.adp_model.specs.declared.cell.Cell.{Cell}
use Rattle.adp_model.specs.PosedProblem.{PosedProblem}
use Rattle.adp_model.specs.Demand.{IsDemandedChild, IsBelow}
use Rattle.suffix_cells.specs.Ranks.{AreRanked}

-- numbers that are their places differ
numbers_distinct : (numbers : List ℕ) (count : ℕ) → length numbers ≡ count
    → ((number : ℕ) → number < count → slice_index numbers number ≡ number) → IsDistinct eqb numbers
numbers_distinct numbers count as_many are = IsDistinct-from_apart eqb numbers (λ i j d low within.
    let first = get_or_default numbers i d 0 (omega (arith, low, within)) ∙ are i (omega (arith, low, within, as_many)) in
    let second = get_or_default numbers j d 0 within ∙ are j (omega (arith, within, as_many)) in
    ne_eqb (get_or numbers i d) (get_or numbers j d) (λ same. omega (arith, first, second, same, low)))

-- what differs stands once
distinct_once : (rules : List ℕ) → IsDistinct eqb rules → (i j : ℕ) → i < length rules → j < length rules
    → slice_index rules i ≡ slice_index rules j → i ≡ j
distinct_once rules distinct i j within within' same =
    elim (cases_lt i j) [
      | inl before ↦ absurd (eqb-false (slice_index rules i) (slice_index rules j) (apart_from_distinct eqb rules i j 0 distinct before within') same)
      | inr behind ↦ elim (cases_lt j i) [
        | inl before ↦ absurd (eqb-false (slice_index rules j) (slice_index rules i) (apart_from_distinct eqb rules j i 0 distinct before within) (sym same))
        | inr past ↦ omega (arith, behind, past)
      ]
    ]

eqb_flips : (a b : ℕ) → eqb a b ≡ eqb b a
eqb_flips a b = elim (eqb_tells a b) [
  | inl (one, same) ↦ one ∙ sym (eq-eqb b a (sym same))
  | inr (none, apart) ↦ none ∙ sym (ne_eqb b a (λ same. apart (sym same)))
]

-- the numbers of rules, in order of ranks
pub ranked_rules : (p : PosedProblem) (ranks numbers rules : List ℕ) (count : ℕ) → count ≡ length p.grammar.rules
    → length numbers ≡ count → ((number : ℕ) → number < count → slice_index numbers number ≡ number) → IsPermutation numbers rules
    → ((cell child : Cell) → IsDemandedChild p cell child → IsBelow ranks child cell) → IsNonDecreasingBy (slice_index ranks) rules → AreRanked p rules
ranked_rules p ranks numbers rules count each as_many are permuted below sorted = record {
  each = length_permutation numbers rules permuted ∙ as_many ∙ each;
  known = λ rule stands.
      let there = Contains-permutation rules numbers rule (IsPermutation-sym numbers rules permuted) stands in
      let read : rule ≡ slice_index numbers there.0 = get_or_read numbers there.0 rule there.1 (sym there.2) 0 in
      let same = are there.0 (omega (arith, there.1, as_many)) in
      omega (arith, read, same, there.1, as_many, each);
  once = distinct_once rules (IsDistinct-IsPermutation eqb eqb_flips numbers rules permuted (numbers_distinct numbers count as_many are));
  all = λ rule known. Contains-permutation numbers rules rule permuted
      (subst (λ it. Contains numbers it) (are rule (omega arith)) (Contains-get_or numbers rule 0 (omega arith)));
  children_first = λ i j cell child l m here there begins ends is_child.
      elim (cases_lt j i) [
        | inl before ↦ before
        | inr behind ↦
            let rises = sorted i j 0 behind m in
            let of_cell = ap (slice_index ranks) here in
            let of_child = ap (slice_index ranks) there in
            let falls = below cell child is_child in
            absurd (elim falls.lesser [
              | inl shorter ↦ omega (arith, begins, ends, shorter)
              | inr same ↦ omega (arith, rises, of_cell, of_child, same.2)
            ])
      ];
}

-- one more of the numbers
pub number_pushed : (old new : List ℕ) (count : ℕ) → new ≡ old ++ count ∷ [] → length old ≡ count
    → ((number : ℕ) → number < count → slice_index old number ≡ number) → (number : ℕ) → number < count + 1 → slice_index new number ≡ number
number_pushed old new count pushed long are number l =
    ap (λ (it : List ℕ). slice_index it number) pushed
    ∙ elim (cases_lt number count) [
      | inl before ↦ get_or_append_left old (count ∷ []) 0 number (omega arith) ∙ are number before
      | inr past ↦
          let last : number ≡ count = omega arith in
          get_or_push old count 0 number (long ∙ sym last) ∙ sym last
    ]
