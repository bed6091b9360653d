-- Numbers that were raised to the highest of some, one time after another, and what they stand for then.
use Rattle.std.proofs.Common.{◌≡◌, ◌⊎◌, ℕ, ℤ, ◌<ℤ◌, ◌≤ℤ◌, Some, List, slice_get, slice_set, sym, ap, subst, ◌∙◌, refl, inl, inr, arith}
use Rattle.std.specs.Int.{int_max}
use Rattle.std.proofs.lemmas.Bool.{cases_eq}
use Rattle.std.proofs.lemmas.Int.{ints, int_max_is}
use Rattle.std.proofs.lemmas.List.{length-set}
use Rattle.score_numbers.specs.Packing.{Width}
use Rattle.score_rows.specs.Numbers.{StandsFor, least}
use Rattle.score_rows.specs.Raised.{AreHighest, IsHighest}
use Rattle.score_rows.proofs.Positions.{same_item, set_here, set_there, some_position}

pub max_cases : (a b : ℤ) → ((int_max a b ≡ a) × (b ≤ℤ a)) ⊎ ((int_max a b ≡ b) × (a ≤ℤ b))
max_cases a b = grind (arith, ints, int_max_is)

rises : (a b c : ℤ) → a ≤ℤ b → b ≤ℤ c → a ≤ℤ c
rises a b c l m = omega (arith, ints)

module _ (width : Width) where
  pub highest_still : (Holds : ℤ → Type 0) (number : ℤ) → ((other : ℤ) → Holds other → ⊥) → IsHighest width Holds number number
  highest_still Holds number none = record { risen = omega (arith, ints); all = λ other has. absurd (none other has); one = inl refl }

  -- the greater of a number and one of which it holds, or one that is less than all scores
  pub highest_max : (Holds : ℤ → Type 0) (before number : ℤ) → ((other : ℤ) → Holds other → other ≤ℤ number)
      → Holds number ⊎ (number <ℤ least width) → IsHighest width Holds before (int_max before number)
  highest_max Holds before number all one = elim (max_cases before number) [
    | inl (same, low) ↦ record {
      risen = subst (λ n. before ≤ℤ n) (sym same) (omega (arith, ints));
      all = λ other has. subst (λ n. other ≤ℤ n) (sym same) (rises other number before (all other has) low);
      one = inl same;
    }
    | inr (same, low) ↦ record {
      risen = subst (λ n. before ≤ℤ n) (sym same) low;
      all = λ other has. subst (λ n. other ≤ℤ n) (sym same) (all other has);
      one = inr (elim one [
        | inl has ↦ inl (subst Holds (sym same) has)
        | inr less ↦ inr (subst (λ n. n <ℤ least width) (sym same) less)
      ]);
    }
  ]

  pub highest_same : (Holds Other : ℤ → Type 0) (before after : ℤ) → ((number : ℤ) → Holds number → Other number)
      → ((number : ℤ) → Other number → Holds number) → IsHighest width Holds before after → IsHighest width Other before after
  highest_same Holds Other before after to back it = record {
    risen = it.risen;
    all = λ number has. it.all number (back number has);
    one = elim it.one [
      | inl same ↦ inl same
      | inr (inl has) ↦ inr (inl (to after has))
      | inr (inr less) ↦ inr (inr less)
    ];
  }

  pub highest_both : (Holds Other : ℤ → Type 0) (before between after : ℤ) → IsHighest width Holds before between
      → IsHighest width Other between after → IsHighest width (λ number. Holds number ⊎ Other number) before after
  highest_both Holds Other before between after first second = record {
    risen = rises before between after first.risen second.risen;
    all = λ number has. elim has [
      | inl h ↦ rises number between after (first.all number h) second.risen
      | inr h ↦ second.all number h
    ];
    one = elim second.one [
      | inl same ↦ elim first.one [
        | inl same' ↦ inl (same ∙ same')
        | inr (inl has) ↦ inr (inl (inl (subst Holds (sym same) has)))
        | inr (inr less) ↦ inr (inr (subst (λ n. n <ℤ least width) (sym same) less))
      ]
      | inr (inl has) ↦ inr (inl (inr has))
      | inr (inr less) ↦ inr (inr less)
    ];
  }

  -- ---- whole rows

  pub rows_same : (Holds Other : ℕ → ℤ → Type 0) (IsLow IsLow' : ℕ → Type 0) (old new : List ℤ)
      → ((k : ℕ) (number : ℤ) → IsLow' k → Holds k number → Other k number)
      → ((k : ℕ) (number : ℤ) → IsLow' k → Other k number → Holds k number) → ((k : ℕ) → IsLow' k → IsLow k)
      → AreHighest width Holds IsLow old new → AreHighest width Other IsLow' old new
  rows_same Holds Other IsLow IsLow' old new to back low it = record {
    as_many = it.as_many;
    each = λ k before there is.
        let one = it.each k before there (low k is) in
        (one.0, one.1, highest_same (Holds k) (Other k) before one.0 (λ number has. to k number is has) (λ number has. back k number is has) one.2);
  }

  pub rows_both : (Holds Other : ℕ → ℤ → Type 0) (IsLow IsLow' : ℕ → Type 0) (old between new : List ℤ)
      → AreHighest width Holds IsLow old between → AreHighest width Other IsLow' between new
      → AreHighest width (λ k number. Holds k number ⊎ Other k number) (λ k. IsLow k × IsLow' k) old new
  rows_both Holds Other IsLow IsLow' old between new first second = record {
    as_many = second.as_many ∙ first.as_many;
    each = λ k before there (low, low').
        let one = first.each k before there low in
        let two = second.each k one.0 one.1 low' in
        (two.0, two.1, highest_both (Holds k) (Other k) before one.0 two.0 one.2 two.2);
  }

  pub rows_still : (Holds : ℕ → ℤ → Type 0) (IsLow : ℕ → Type 0) (row : List ℤ) → ((k : ℕ) (number : ℤ) → Holds k number → ⊥)
      → AreHighest width Holds IsLow row row
  rows_still Holds IsLow row none = record { as_many = refl; each = λ k before there low. (before, there, highest_still (Holds k) before (none k)) }

  -- of the numbers that hold those that are less than all scores count for nothing
  pub rows_dropped : (Holds Other : ℕ → ℤ → Type 0) (IsLow : ℕ → Type 0) (old new : List ℤ)
      → ((k : ℕ) (number : ℤ) → Other k number → Holds k number)
      → ((k : ℕ) (number : ℤ) → Holds k number → Other k number ⊎ (number <ℤ least width))
      → AreHighest width Holds IsLow old new → AreHighest width Other IsLow old new
  rows_dropped Holds Other IsLow old new back to it = record {
    as_many = it.as_many;
    each = λ k before there low.
        let one = it.each k before there low in (
          one.0,
          one.1,
          record {
            risen = one.2.risen;
            all = λ number has. one.2.all number (back k number has);
            one = elim one.2.one [
              | inl same ↦ inl same
              | inr (inl has) ↦ inr (to k one.0 has)
              | inr (inr less) ↦ inr (inr less)
            ];
          },
        );
  }

  -- one number of a row is raised
  pub row_at : (Holds : ℕ → ℤ → Type 0) (IsLow : ℕ → Type 0) (row : List ℤ) (at : ℕ) (before after : ℤ)
      → slice_get row at ≡ Some before → ((k : ℕ) (number : ℤ) → Holds k number → k ≡ at)
      → (IsLow at → IsHighest width (Holds at) before after) → AreHighest width Holds IsLow row (slice_set row at after)
  row_at Holds IsLow row at before after there only highest = record {
    as_many = length-set row at after;
    each = λ k number there' low. elim (cases_eq k at) [
      | inl same ↦
          let first : before ≡ number = same_item row k before number (ap (slice_get row) same ∙ there) there' in (
            after,
            ap (slice_get (slice_set row at after)) same ∙ set_here row at after (some_position row at before there),
            subst (λ b. IsHighest width (Holds k) b after) first
                (subst (λ j. IsHighest width (Holds j) before after) (sym same) (highest (subst IsLow same low))),
          )
      | inr apart ↦ (number, set_there row at k after apart ∙ there', highest_still (Holds k) number (λ other has. apart (only k other has)))
    ];
  }

  -- ---- what they stand for

  -- what stood for no score stands for the greatest of all that are put together
  pub stands_now : (Steps Totals : ℤ → Type 0) (before after : ℤ) → before <ℤ least width → IsHighest width Steps before after
      → ((sum : ℤ) → Steps sum → Totals sum × (least width ≤ℤ sum))
      → ((total : ℤ) → Totals total → (sum : ℤ) × Steps sum × (total ≤ℤ sum)) → StandsFor width Totals after
  stands_now Steps Totals before after dead highest to below = go highest.one
    where
      none : after <ℤ least width → (total : ℤ) → Totals total → ⊥
      none less total has =
          let sum = below total has in
          let up = highest.all sum.0 sum.1 in
          let high = (to sum.0 sum.1).1 in
          omega (arith, ints)

      go : (after ≡ before) ⊎ (Steps after ⊎ (after <ℤ least width)) → StandsFor width Totals after
      go (inl same) = let less : after <ℤ least width = subst (λ n. n <ℤ least width) (sym same) dead in inl (less, none less)
      go (inr (inr less)) = inl (less, none less)
      go (inr (inl has)) =
          let it = to after has in
          inr (it.1, (it.0, λ total has'. let sum = below total has' in let up = highest.all sum.0 sum.1 in let l = sum.2 in omega (arith, ints)))

  -- what stood for the greatest of some scores stands for the greatest of these and more
  pub stands_more : (Before More : ℤ → Type 0) (before after : ℤ) → StandsFor width Before before → IsHighest width More before after
      → ((number : ℤ) → More number → least width ≤ℤ number) → StandsFor width (λ number. Before number ⊎ More number) after
  stands_more Before More before after stands highest high = go stands highest.one
    where
      go : StandsFor width Before before → (after ≡ before) ⊎ (More after ⊎ (after <ℤ least width))
          → StandsFor width (λ number. Before number ⊎ More number) after
      go (inl (less, none)) (inl same) =
          let less' : after <ℤ least width = subst (λ n. n <ℤ least width) (sym same) less in
          inl (less', λ number has. elim has [ inl h ↦ none number h | inr h ↦ let up = highest.all number h in let l = high number h in omega (arith, ints) ])
      go (inl (less, none)) (inr (inr less')) =
          inl (less', λ number has. elim has [ inl h ↦ none number h | inr h ↦ let up = highest.all number h in let l = high number h in omega (arith, ints) ])
      go (inl (less, none)) (inr (inl has)) =
          inr (high after has, (inr has, λ number has'. elim has' [ inl h ↦ absurd (none number h) | inr h ↦ highest.all number h ]))
      go (inr (live, greatest)) (inl same) =
          inr (
            subst (λ n. least width ≤ℤ n) (sym same) live,
            (
              inl (subst Before (sym same) greatest.0),
              λ number has. elim has [
                | inl h ↦ subst (λ n. number ≤ℤ n) (sym same) (greatest.1 number h)
                | inr h ↦ highest.all number h
              ],
            ),
          )
      go (inr (live, greatest)) (inr (inl has)) =
          inr (
            high after has,
            (
              inr has,
              λ number has'. elim has' [
                | inl h ↦ rises number before after (greatest.1 number h) highest.risen
                | inr h ↦ highest.all number h
              ],
            ),
          )
      go (inr (live, greatest)) (inr (inr less)) = absurd (let up = highest.risen in omega (arith, ints))
