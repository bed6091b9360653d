-- The greatest sum of two numbers of a width: low where one of them marks that there is no candidate.
use Rattle.std.proofs.Common.{◌≡◌, ℕ, zero, suc, ◌+◌, ◌-◌, ◌^◌, ◌<◌, ◌≤◌, ◌⊎◌, ℤ, pos, neg_ℤ, ◌+ℤ◌, ◌*ℤ◌, ◌≤ℤ◌, ◌<ℤ◌, nat_abs, IsTrue, MatchOption, Option, Some, None, List, [], ◌∷◌, length, map, get_or, slice_get, slice_index_or, FitsSigned, w16, w64, refl, sym, ap, subst, inl, inr, ◌∙◌, if◌then◌else◌, arith, rules}
use Rattle.std.proofs.Math.IntN.{*ℤ_comm, *ℤ-one}
use Rattle.std.specs.Int.{int_max, int_min}
use Rattle.std.specs.List.{AllAdjacentBelow, Contains}
use Rattle.std.specs.Option.{option_map}
use Rattle.std.specs.Ordering.{int_eq}
use Rattle.std.proofs.lemmas.Int.{ints, int_max_is, int_min_is, fits_signed_from_abs}
use Rattle.std.proofs.lemmas.Bool.{cases_Bool}
use Rattle.std.proofs.lemmas.Bool.Decides.{Decides-int_eq}
use Rattle.std.proofs.lemmas.List.{get_or_default, length-map, map-id}
use Rattle.std.proofs.lemmas.List.Elements.{Contains-get_or}
use Rattle.std.proofs.lemmas.Option.{slice_get-get_or, slice_get-map}
use Rattle.adp_model.specs.ProblemFields.{greatest_score}
use Rattle.score_numbers.specs.declared.sums.Positions.{Positions}
use Rattle.score_numbers.specs.declared.sums.Scales.{Scales}
use Rattle.score_numbers.specs.Packing.{Width, AreProper, IsProper, short}
use Rattle.score_numbers.specs.Spaced.{IsSpaced, least_sum}
use Rattle.score_numbers.specs.Entries.{no_candidate, score_of_entry}
use Rattle.score_numbers.specs.Limits.{no_limit, AreLimited}
use Rattle.score_numbers.specs.Sums.{HasSum, HasSumAt, HasUnlimitedSum, IsUnlimitedSum, HasScaledSum, HasScaledSumAt, HaveNumbers, number_at}
use Rattle.score_numbers.specs.Greatest.{IsGreatestOf}
use Rattle.score_numbers.proofs.Greatest.{greatest_same, HasBefore, before_more, before_none}
use lib.Signed.{lt_z}

-- the least entry that tells a score
abbrev pub least_entry : ℤ
least_entry = neg_ℤ (pos (2 ^ 63 - 1))

pub short_spaced : IsSpaced short
short_spaced = record { apart = omega arith; low = omega (arith, ints); negative = omega (arith, ints) }

-- a number of 16 bits and a sum of two have as many bits
pub short_fits : (a : ℤ) → IsProper short a → FitsSigned w16 a
short_fits a (inl e) = fits_signed_from_abs w16 a (let same = ap nat_abs e in omega arith)
short_fits a (inr l) = fits_signed_from_abs w16 a (omega arith)

pub short_sum_fits : (a b : ℤ) → IsProper short a → IsProper short b → FitsSigned w16 (a +ℤ b)
short_sum_fits a b (inl e) (inl e') = let same : (short.mark +ℤ short.mark) ≡ (a +ℤ b) = λ i. sym e i +ℤ sym e' i in subst (FitsSigned w16) same (search rules)
short_sum_fits a b (inl e) (inr m) = fits_signed_from_abs w16 (a +ℤ b) (omega (arith, ints))
short_sum_fits a b (inr l) (inl e) = fits_signed_from_abs w16 (a +ℤ b) (omega (arith, ints))
short_sum_fits a b (inr l) (inr m) = fits_signed_from_abs w16 (a +ℤ b) (omega (arith, ints))

-- the greatest of the sums of which it holds, less than the least of all where it holds of none
abbrev pub IsLargest : ℤ → (ℤ → Type 0) → ℤ → Type 0
IsLargest least Holds greatest =
    ((greatest <ℤ least) × ((number : ℤ) → Holds number → ⊥)) ⊎ ((least ≤ℤ greatest) × IsGreatestOf Holds (Some greatest))

pub less_is : (a b x y : ℤ) → a ≡ x → b ≡ y → IsTrue (lt_z a b) → x <ℤ y
less_is a b x y e e' less = grind (arith, ints)

pub max_cases : (a b : ℤ) → ((int_max a b ≡ a) × (b ≤ℤ a)) ⊎ ((int_max a b ≡ b) × (a ≤ℤ b))
max_cases a b = grind (arith, ints, int_max_is)

-- the greatest of numbers of which none is less than this, where it is less while there is none
module _ (least : ℤ) where
  pub nothing_yet : (At : ℕ → ℤ → Type 0) (number : ℤ) → number <ℤ least → IsLargest least (HasBefore At 0) number
  nothing_yet At number low = inl (low, λ other h. absurd (omega (arith, h.1)))

  pub largest_none : (Holds : ℤ → Type 0) (greatest : ℤ) → IsLargest least Holds greatest → greatest <ℤ least → IsGreatestOf Holds None
  largest_none Holds greatest (inl (low, none)) l = none
  largest_none Holds greatest (inr (high, is)) l = absurd (omega (arith, ints))

  pub largest_some : (Holds : ℤ → Type 0) (greatest : ℤ) → IsLargest least Holds greatest → least ≤ℤ greatest → IsGreatestOf Holds (Some greatest)
  largest_some Holds greatest (inl (low, none)) l = absurd (omega (arith, ints))
  largest_some Holds greatest (inr (high, is)) l = is

  pub largest_sum : (Holds : ℤ → Type 0) (greatest : ℤ) (sum : Option ℤ)
      → MatchOption sum (greatest <ℤ least) (λ sum. (sum ≡ greatest) × (least ≤ℤ sum)) → IsLargest least Holds greatest
      → IsGreatestOf Holds sum
  largest_sum Holds greatest None low is = largest_none Holds greatest is low
  largest_sum Holds greatest (Some sum) (same, high) is =
      subst (λ number. IsGreatestOf Holds (Some number)) (sym same)
      (largest_some Holds greatest is (subst (λ number. least ≤ℤ number) same high))

  pub largest_same : (A B : ℤ → Type 0) (greatest : ℤ) → ((number : ℤ) → A number → B number) → ((number : ℤ) → B number → A number) → IsLargest least A greatest → IsLargest least B greatest
  largest_same A B greatest to back (inl (low, none)) = inl (low, λ number b. none number (back number b))
  largest_same A B greatest to back (inr (high, is)) = inr (high, greatest_same A B (Some greatest) to back is)

  -- one more position, where this is the greatest, or less than the least where there is none
  module _ (At : ℕ → ℤ → Type 0) (bound : ℕ) (greatest new sum : ℤ) (max : new ≡ int_max greatest sum) (before : IsLargest least (HasBefore At bound) greatest) where
    pub more_low : sum <ℤ least → ((number : ℤ) → At bound number → ⊥) → IsLargest least (HasBefore At (bound + 1)) new
    more_low low nothing = go before (max_cases greatest sum)
      where
        go : IsLargest least (HasBefore At bound) greatest → ((int_max greatest sum ≡ greatest) × (sum ≤ℤ greatest)) ⊎ ((int_max greatest sum ≡ sum) × (greatest ≤ℤ sum)) → IsLargest least (HasBefore At (bound + 1)) new
        go (inl (l, none)) (inl (e, m)) = inl (let same : new ≡ greatest = max ∙ e in omega (arith, ints), before_none At bound None none nothing)
        go (inl (l, none)) (inr (e, m)) = inl (let same : new ≡ sum = max ∙ e in omega (arith, ints), before_none At bound None none nothing)
        go (inr (h, is)) (inl (e, m)) =
            let same : greatest ≡ new = sym (max ∙ e) in
            subst (IsLargest least (HasBefore At (bound + 1))) same (inr (h, before_none At bound (Some greatest) is nothing))
        go (inr (h, is)) (inr (e, m)) = absurd (omega (arith, ints))

    pub more_high : least ≤ℤ sum → IsGreatestOf (At bound) (Some sum) → IsLargest least (HasBefore At (bound + 1)) new
    more_high high here = go before (max_cases greatest sum)
      where
        go : IsLargest least (HasBefore At bound) greatest → ((int_max greatest sum ≡ greatest) × (sum ≤ℤ greatest)) ⊎ ((int_max greatest sum ≡ sum) × (greatest ≤ℤ sum)) → IsLargest least (HasBefore At (bound + 1)) new
        go (inl (l, none)) (inl (e, m)) = absurd (omega (arith, ints))
        go (inl (l, none)) (inr (e, m)) =
            let same : sum ≡ new = sym (max ∙ e) in
            subst (IsLargest least (HasBefore At (bound + 1))) same
            (inr (high, before_more At bound None none (Some sum) (Some sum) here (inr refl, λ number h. elim h [ inl e ↦ absurd cc | inr e ↦ (let same : sum ≡ number = cc in omega (arith, ints)) ])))
        go (inr (h, is)) (inl (e, m)) =
            let same : greatest ≡ new = sym (max ∙ e) in
            subst (IsLargest least (HasBefore At (bound + 1))) same
            (inr (h, before_more At bound (Some greatest) is (Some sum) (Some greatest) here (inl refl, λ number h. elim h [ inl e ↦ (let same : greatest ≡ number = cc in omega (arith, ints)) | inr e ↦ (let same : sum ≡ number = cc in omega (arith, ints)) ])))
        go (inr (h, is)) (inr (e, m)) =
            let same : sum ≡ new = sym (max ∙ e) in
            subst (IsLargest least (HasBefore At (bound + 1))) same
            (inr (high, before_more At bound (Some greatest) is (Some sum) (Some sum) here (inr refl, λ number h. elim h [ inl e ↦ (let same : greatest ≡ number = cc in omega (arith, ints)) | inr e ↦ (let same : sum ≡ number = cc in omega (arith, ints)) ])))

module _ (width : Width) (spaced : IsSpaced width) where
  pub score_apart : (a : ℤ) → nat_abs a ≤ width.limit → a ≡ width.mark → ⊥
  score_apart a low e = let same = ap nat_abs e in omega (arith, spaced.apart)

  sum_low : (a b : ℤ) → a ≡ width.mark → IsProper width b → (a +ℤ b) <ℤ least_sum width
  sum_low a b e (inl e') = let l = spaced.low in let n = spaced.negative in omega (arith, ints)
  sum_low a b e (inr m) = let l = spaced.low in omega (arith, ints)

  sum_low_behind : (a b : ℤ) → IsProper width a → b ≡ width.mark → (a +ℤ b) <ℤ least_sum width
  sum_low_behind a b (inl e') e = let l = spaced.low in let n = spaced.negative in omega (arith, ints)
  sum_low_behind a b (inr m) e = let l = spaced.low in omega (arith, ints)

  sum_of_scores : (a b : ℤ) → nat_abs a ≤ width.limit → nat_abs b ≤ width.limit → least_sum width ≤ℤ (a +ℤ b)
  sum_of_scores a b l m = omega (arith, ints)

  pub none_yet : (At : ℕ → ℤ → Type 0) → IsLargest (least_sum width) (HasBefore At 0) width.mark
  none_yet At = nothing_yet (least_sum width) At width.mark (let l = spaced.low in omega (arith, ints))

  -- the sum of the numbers at one more position
  pub sum_more : (firsts seconds : List ℤ) (at : ℕ → ℕ) (bound : ℕ) (greatest new a b : ℤ) → new ≡ int_max greatest (a +ℤ b) → slice_get firsts (at bound) ≡ Some a → slice_get seconds (at bound) ≡ Some b → IsProper width a → IsProper width b
      → IsLargest (least_sum width) (HasBefore (λ k. HasSum width firsts seconds (at k)) bound) greatest → IsLargest (least_sum width) (HasBefore (λ k. HasSum width firsts seconds (at k)) (bound + 1)) new
  sum_more firsts seconds at bound greatest new a b max there behind proper_a proper_b before = go proper_a proper_b
    where
      first_is : (number : ℤ) (it : HasSum width firsts seconds (at bound) number) → it.first ≡ a
      first_is number it = let e = it.first_there in cc

      second_is : (number : ℤ) (it : HasSum width firsts seconds (at bound) number) → it.second ≡ b
      second_is number it = let e = it.second_there in cc

      go : IsProper width a → IsProper width b → IsLargest (least_sum width) (HasBefore (λ k. HasSum width firsts seconds (at k)) (bound + 1)) new
      go (inl e) proper = more_low (least_sum width) (λ k. HasSum width firsts seconds (at k)) bound greatest new (a +ℤ b) max before (sum_low a b e proper) (λ number it. it.first_scores (first_is number it ∙ e))
      go (inr l) (inl e) = more_low (least_sum width) (λ k. HasSum width firsts seconds (at k)) bound greatest new (a +ℤ b) max before (sum_low_behind a b (inr l) e) (λ number it. it.second_scores (second_is number it ∙ e))
      go (inr l) (inr m) =
          more_high (least_sum width) (λ k. HasSum width firsts seconds (at k)) bound greatest new (a +ℤ b) max before (sum_of_scores a b l m) (
            record { first = a; second = b; first_there = there; second_there = behind; first_scores = score_apart a l; second_scores = score_apart b m; is = refl },
            λ number it. let e = it.is in let e' = first_is number it in let e'' = second_is number it in omega (arith, ints),
          )

-- the sum of the numbers at one more position, where there is no limit
pub unlimited_more : (limits : List ℤ) (firsts seconds : List ℤ) (bound : ℕ) (greatest new a b : ℤ) → slice_get limits bound ≡ Some no_limit → new ≡ int_max greatest (a +ℤ b) → slice_get firsts bound ≡ Some a → slice_get seconds bound ≡ Some b → IsProper short a → IsProper short b
    → IsLargest (least_sum short) (HasBefore (IsUnlimitedSum limits firsts seconds) bound) greatest → IsLargest (least_sum short) (HasBefore (IsUnlimitedSum limits firsts seconds) (bound + 1)) new
unlimited_more limits firsts seconds bound greatest new a b unlimited max there behind proper_a proper_b before = go proper_a proper_b
  where
    first_is : (number : ℤ) (it : HasSum short firsts seconds bound number) → it.first ≡ a
    first_is number it = let e = it.first_there in cc

    second_is : (number : ℤ) (it : HasSum short firsts seconds bound number) → it.second ≡ b
    second_is number it = let e = it.second_there in cc

    go : IsProper short a → IsProper short b → IsLargest (least_sum short) (HasBefore (IsUnlimitedSum limits firsts seconds) (bound + 1)) new
    go (inl e) proper = more_low (least_sum short) (IsUnlimitedSum limits firsts seconds) bound greatest new (a +ℤ b) max before (sum_low short short_spaced a b e proper) (λ number it. it.1.first_scores (first_is number it.1 ∙ e))
    go (inr l) (inl e) = more_low (least_sum short) (IsUnlimitedSum limits firsts seconds) bound greatest new (a +ℤ b) max before (sum_low_behind short short_spaced a b (inr l) e) (λ number it. it.1.second_scores (second_is number it.1 ∙ e))
    go (inr l) (inr m) =
        more_high (least_sum short) (IsUnlimitedSum limits firsts seconds) bound greatest new (a +ℤ b) max before (sum_of_scores short short_spaced a b l m) (
          (unlimited, record { first = a; second = b; first_there = there; second_there = behind; first_scores = score_apart short short_spaced a l; second_scores = score_apart short short_spaced b m; is = refl }),
          λ number it. let e = it.1.is in let e' = first_is number it.1 in let e'' = second_is number it.1 in omega (arith, ints),
        )

-- one more position, where the mark is the limit
pub limited_more : (limits firsts seconds : List ℤ) (bound : ℕ) (greatest new least : ℤ) → slice_get limits bound ≡ Some short.mark → new ≡ int_max greatest least → least ≤ℤ short.mark
    → IsLargest (least_sum short) (HasBefore (IsUnlimitedSum limits firsts seconds) bound) greatest → IsLargest (least_sum short) (HasBefore (IsUnlimitedSum limits firsts seconds) (bound + 1)) new
limited_more limits firsts seconds bound greatest new least limited max low before =
    more_low (least_sum short) (IsUnlimitedSum limits firsts seconds) bound greatest new least max before (omega (arith, ints))
    (λ number it. let same : no_limit ≡ short.mark = (let e = it.0 in cc) in omega (arith, ints))

pub limit_fits : (limit : ℤ) → (limit ≡ no_limit) ⊎ (limit ≡ short.mark) → FitsSigned w16 limit
limit_fits limit (inl e) = fits_signed_from_abs w16 limit (let same = ap nat_abs e in omega arith)
limit_fits limit (inr e) = short_fits limit (inl e)

-- the lesser of a sum and its limit
pub limit_cases : (sum limit least : ℤ) → FitsSigned w16 sum → (limit ≡ no_limit) ⊎ (limit ≡ short.mark) → least ≡ int_min sum limit → ((limit ≡ no_limit) × (least ≡ sum)) ⊎ ((limit ≡ short.mark) × (least ≤ℤ short.mark))
limit_cases sum limit least fits (inl e) is = inl (e, grind (arith, ints, int_min_is))
limit_cases sum limit least fits (inr e) is = inr (e, grind (arith, ints, int_min_is))

pub some_position : {A : Type 0} (items : List A) (position : ℕ) (item : A) → slice_get items position ≡ Some item → position < length items
some_position [] position item e = absurd cc
some_position (x ∷ items) zero item e = omega arith
some_position (x ∷ items) (suc position) item e = omega (arith, some_position items position item e)

-- sums side by side are those before the end of the shorter list
pub all_aligned : (width : Width) (firsts seconds : List ℤ) (count : ℕ) (greatest : ℤ) → ((k : ℕ) → k < length firsts → k < length seconds → k < count) → IsLargest (least_sum width) (HasBefore (λ k. HasSum width firsts seconds k) count) greatest
    → IsLargest (least_sum width) (λ sum. (k : ℕ) × HasSum width firsts seconds k sum) greatest
all_aligned width firsts seconds count greatest all (inl (low, none)) =
    inl (low, λ number h. none number (h.0, all h.0 (some_position firsts h.0 h.1.first h.1.first_there) (some_position seconds h.0 h.1.second h.1.second_there), h.1))
all_aligned width firsts seconds count greatest all (inr (high, is)) =
    inr (
      high,
      greatest_same (HasBefore (λ k. HasSum width firsts seconds k) count) (λ sum. (k : ℕ) × HasSum width firsts seconds k sum) (Some greatest)
          (λ number h. (h.0, h.2))
          (λ number h. (h.0, all h.0 (some_position firsts h.0 h.1.first h.1.first_there) (some_position seconds h.0 h.1.second h.1.second_there), h.1)) is,
    )

-- those at the positions are those at their numbers
module _ (positions : Positions) (Sum : ℕ → ℤ → Type 0) where
  -- it holds at some position
  abbrev pub SomePosition : ℤ → Type 0
  SomePosition number = (position : ℕ) × Contains positions.at.now position × Sum (number_at positions position) number

  -- it holds at the position of this number
  abbrev pub AtPosition : ℕ → ℤ → Type 0
  AtPosition k = Sum (number_at positions (get_or positions.at.now k 0))

  pub all_scattered : (least : ℤ) (count : ℕ) (greatest : ℤ) → count ≡ length positions.at.now → IsLargest least (HasBefore AtPosition count) greatest → IsLargest least SomePosition greatest
  all_scattered least count greatest all =
      largest_same least (HasBefore AtPosition count) SomePosition greatest
      (λ number h. (get_or positions.at.now h.0 0, Contains-get_or positions.at.now h.0 0 (omega (arith, h.1, all)), h.2))
      (λ number h.
      let at : get_or positions.at.now h.1.0 0 ≡ h.0 = get_or_default positions.at.now h.1.0 0 h.0 h.1.1 ∙ h.1.2 in
      (h.1.0, omega (arith, h.1.1, all), subst (λ position. Sum (number_at positions position) number) (sym at) h.2))

-- ---- positions that are as many as the numbers

-- so many rising numbers below a bound are all the numbers below it
module _ (f : ℕ → ℕ) (count : ℕ) (rising : (k : ℕ) → k + 1 < count → f k < f (k + 1)) (below : (k : ℕ) → k < count → f k < count) where
  not_less : (k : ℕ) → k < count → k ≤ f k
  not_less zero l = omega arith
  not_less (suc k) l =
      let same : k + 1 ≡ suc k = omega arith in
      let rise : f k < f (suc k) = subst (λ n. f k < f n) same (rising k (omega arith)) in
      omega (arith, not_less k (omega arith))

  rises_by : (more k : ℕ) → k + more < count → f k + more ≤ f (k + more)
  rises_by zero k l = let same : k + 0 ≡ k = omega arith in subst (λ n. f k + 0 ≤ f n) (sym same) (omega arith)
  rises_by (suc more) k l =
      let same : (k + more) + 1 ≡ k + suc more = omega arith in
      let rise : f (k + more) < f (k + suc more) = subst (λ n. f (k + more) < f n) same (rising (k + more) (omega arith)) in
      omega (arith, rises_by more k (omega arith))

  pub is_itself : (k : ℕ) → k < count → f k ≡ k
  is_itself k l =
      let most : k + (count - 1 - k) ≡ count - 1 = omega arith in
      let high : f k + (count - 1 - k) ≤ f (count - 1) = subst (λ n. f k + (count - 1 - k) ≤ f n) most (rises_by (count - 1 - k) k (omega arith)) in
      let top = below (count - 1) (omega arith) in
      omega (arith, not_less k l)

module _ (positions : Positions) (firsts seconds : List ℤ) (have : HaveNumbers positions firsts seconds) (rising : AllAdjacentBelow (λ (a b : ℕ). a < b) positions.at.now (length positions.at.now)) (as_many : length firsts ≡ length positions.at.now) where
  stands : (k : ℕ) → k < length positions.at.now → Contains positions.at.now (get_or positions.at.now k 0)
  stands k l = Contains-get_or positions.at.now k 0 l

  pub number_is : (k : ℕ) → k < length positions.at.now → number_at positions (get_or positions.at.now k 0) ≡ k
  number_is = is_itself (λ k. number_at positions (get_or positions.at.now k 0)) (length positions.at.now)
      (λ k l. omega (arith, rising k 0 l, have.from_first (get_or positions.at.now k 0) (stands k (omega arith))))
      (λ k l. omega (arith, have.before (get_or positions.at.now k 0) (stands k l)))

  pub aligned_positions : (width : Width) (greatest : Option ℤ) → IsGreatestOf (λ sum. (k : ℕ) × HasSum width firsts seconds k sum) greatest → IsGreatestOf (HasSumAt width positions firsts seconds) greatest
  aligned_positions width greatest =
      greatest_same (λ sum. (k : ℕ) × HasSum width firsts seconds k sum) (HasSumAt width positions firsts seconds) greatest
      (λ number h.
      let l : h.0 < length positions.at.now = omega (arith, some_position firsts h.0 h.1.first h.1.first_there, as_many) in
      (get_or positions.at.now h.0 0, stands h.0 l, subst (λ k. HasSum width firsts seconds k number) (sym (number_is h.0 l)) h.1))
      (λ number h.
      let at : get_or positions.at.now h.1.0 0 ≡ h.0 = get_or_default positions.at.now h.1.0 0 h.0 h.1.1 ∙ h.1.2 in
      let e : number_at positions h.0 ≡ h.1.0 = subst (λ position. number_at positions position ≡ h.1.0) at (number_is h.1.0 h.1.1) in
      (h.1.0, subst (λ k. HasSum width firsts seconds k number) e h.2))

-- sums with no limit are those before the end
pub all_limited : (limits firsts seconds : List ℤ) (count : ℕ) (greatest : ℤ) → count ≡ length limits → IsLargest (least_sum short) (HasBefore (IsUnlimitedSum limits firsts seconds) count) greatest
    → IsLargest (least_sum short) (HasUnlimitedSum limits firsts seconds) greatest
all_limited limits firsts seconds count greatest all (inl (low, none)) =
    inl (low, λ number h. none number (h.0, omega (arith, all, some_position limits h.0 no_limit h.1.0), h.1))
all_limited limits firsts seconds count greatest all (inr (high, is)) =
    inr (
      high,
      greatest_same (HasBefore (IsUnlimitedSum limits firsts seconds) count) (HasUnlimitedSum limits firsts seconds) (Some greatest)
          (λ number h. (h.0, h.2))
          (λ number h. (h.0, omega (arith, all, some_position limits h.0 no_limit h.1.0), h.1)) is,
    )

-- ---- positions that limits tell, from the first to the last

module _ (positions : Positions) (firsts seconds : List ℤ) (limits : List ℤ) (have : HaveNumbers positions firsts seconds) (limited : AreLimited positions.at.now limits) (as_many : length firsts ≡ length limits) where
  abbrev begin : ℕ
  begin = get_or positions.at.now 0 0

  -- the numbers begin with those of the first position
  begins : 0 < length limits → positions.first ≡ begin
  begins some =
      let last : Contains positions.at.now (begin + length limits - 1) = (limited.exact (begin + length limits - 1)).1 (limited.last some) in
      let first : Contains positions.at.now begin = Contains-get_or positions.at.now 0 0 (omega (arith, last.1)) in
      omega (arith, some, as_many, have.from_first (begin + length limits - 1) last, have.before (begin + length limits - 1) last, have.from_first begin first)

  -- where there is no limit, a position stands
  pub unlimited_stands : (k : ℕ) → slice_get limits k ≡ Some no_limit → Contains positions.at.now (positions.first + k)
  unlimited_stands k there =
      let at = begins (omega (arith, some_position limits k no_limit there)) in
      let same : k ≡ begin + k - begin = omega arith in
      let moved : begin + k ≡ positions.first + k = omega (arith, at) in
      subst (Contains positions.at.now) moved
      ((limited.exact (begin + k)).1 (omega arith, subst (λ n. slice_get limits n ≡ Some no_limit) same there))

  pub stands_unlimited : (position : ℕ) → Contains positions.at.now position
      → slice_get limits (number_at positions position) ≡ Some no_limit
  stands_unlimited position stands =
      let told = (limited.exact position).0 stands in
      let at = begins (omega (arith, some_position limits (position - begin) no_limit told.1)) in
      let same : position - begin ≡ number_at positions position = omega (arith, at) in
      subst (λ k. slice_get limits k ≡ Some no_limit) same told.1

  pub number_back : (k : ℕ) → k ≡ number_at positions (positions.first + k)
  number_back k = omega arith

  pub limited_positions : (greatest : Option ℤ) → IsGreatestOf (HasUnlimitedSum limits firsts seconds) greatest → IsGreatestOf (HasSumAt short positions firsts seconds) greatest
  limited_positions greatest =
      greatest_same (HasUnlimitedSum limits firsts seconds) (HasSumAt short positions firsts seconds) greatest
      (λ number h.
      (positions.first + h.0, unlimited_stands h.0 h.1.0, subst (λ k. HasSum short firsts seconds k number) (number_back h.0) h.1.1))
      (λ number h. (number_at positions h.0, (stands_unlimited h.0 h.1, h.2)))

-- ---- numbers with factors

one_product : (scale number : ℤ) → scale ≡ pos 1 → (scale *ℤ number) ≡ number
unfolding lib.IntN.one
one_product scale number e = ap (λ s. s *ℤ number) e ∙ *ℤ_comm (pos 1) number ∙ *ℤ-one number

-- factors that leave numbers as they are
module _ (width : Width) (scales : Scales) (before : scales.before ≡ pos 1) (behind : scales.behind ≡ pos 1) (firsts seconds : List ℤ) where
  pub plain_sum : (k : ℕ) (number : ℤ) → HasSum width firsts seconds k number → HasScaledSum width.mark scales firsts seconds k number
  plain_sum k number it =
      let e = it.is in
      let e' = one_product scales.before it.first before in
      let e'' = one_product scales.behind it.second behind in
      record {
        first = it.first;
        second = it.second;
        first_there = it.first_there;
        second_there = it.second_there;
        first_scores = it.first_scores;
        second_scores = it.second_scores;
        is = omega (arith, ints);
      }

  pub sum_plain : (k : ℕ) (number : ℤ) → HasScaledSum width.mark scales firsts seconds k number → HasSum width firsts seconds k number
  sum_plain k number it =
      let e = it.is in
      let e' = one_product scales.before it.first before in
      let e'' = one_product scales.behind it.second behind in
      record {
        first = it.first;
        second = it.second;
        first_there = it.first_there;
        second_there = it.second_there;
        first_scores = it.first_scores;
        second_scores = it.second_scores;
        is = omega (arith, ints);
      }

  pub plain_greatest : (positions : Positions) (greatest : Option ℤ) → IsGreatestOf (HasSumAt width positions firsts seconds) greatest → IsGreatestOf (HasScaledSumAt width.mark scales positions firsts seconds) greatest
  plain_greatest positions greatest =
      greatest_same (HasSumAt width positions firsts seconds) (HasScaledSumAt width.mark scales positions firsts seconds) greatest
      (λ number h. (h.0, h.1, plain_sum (number_at positions h.0) number h.2))
      (λ number h. (h.0, h.1, sum_plain (number_at positions h.0) number h.2))

-- the greatest of entries, as a score
pub largest_entry : (Holds : ℤ → Type 0) (greatest : ℤ) → FitsSigned w64 greatest → IsLargest least_entry Holds greatest → IsGreatestOf Holds (score_of_entry greatest)
largest_entry Holds greatest fits largest =
    elim (cases_Bool (int_eq greatest no_candidate)) [
      | inl there ↦
          let same : greatest ≡ no_candidate = (Decides-int_eq greatest no_candidate).0 there in
          subst (IsGreatestOf Holds) (sym (ap (λ b. if b then None else Some greatest) there)) (largest_none least_entry Holds greatest largest (omega (arith, ints)))
      | inr missing ↦
          let apart : greatest ≡ no_candidate → ⊥ = λ e. absurd (let there = (Decides-int_eq greatest no_candidate).1 e in cc) in
          subst (IsGreatestOf Holds) (sym (ap (λ b. if b then None else Some greatest) missing)) (largest_some least_entry Holds greatest largest (omega (arith, ints)))
    ]

-- one of two numbers is the mark, or neither
pub mark_cases : (mark a b : ℤ) → ((a ≡ mark) ⊎ (b ≡ mark)) ⊎ ((a ≡ mark → ⊥) × (b ≡ mark → ⊥))
mark_cases mark a b = go (cases_eq a) (cases_eq b)
  where
    cases_eq : (z : ℤ) → (z ≡ mark) ⊎ (z ≡ mark → ⊥)
    cases_eq z =
        elim (cases_Bool (int_eq z mark)) [
          | inl there ↦ inl ((Decides-int_eq z mark).0 there)
          | inr missing ↦ inr (λ e. absurd (let there = (Decides-int_eq z mark).1 e in cc))
        ]

    go : (a ≡ mark) ⊎ (a ≡ mark → ⊥) → (b ≡ mark) ⊎ (b ≡ mark → ⊥) → ((a ≡ mark) ⊎ (b ≡ mark)) ⊎ ((a ≡ mark → ⊥) × (b ≡ mark → ⊥))
    go (inl e) c = inl (inl e)
    go (inr apart) (inl e) = inl (inr e)
    go (inr apart) (inr apart') = inr (apart, apart')

-- a number that was read
pub read_number : {X : Type 0} (value : X → ℤ) (items : List X) (k : ℕ) (item : X) (number : ℤ) → k < length (map value items) → item ≡ slice_index_or items k item → number ≡ value item → slice_get (map value items) k ≡ Some number
read_number value items k item number l is e =
    slice_get-map value items k ∙ ap (option_map value) (slice_get-get_or items k item (omega (arith, l, length-map items value))) ∙ ap (λ x. Some (value x)) (sym is) ∙ ap Some (sym e)

-- as many items as values
pub below_values : {X : Type 0} (value : X → ℤ) (items : List X) (k : ℕ) → k < length (map value items) → k < length items
below_values value items k l = omega (arith, l, length-map items value)

pub upto_values : {X : Type 0} (value : X → ℤ) (items : List X) (k : ℕ) → k < length (map value items) → k ≤ length items
upto_values value items k l = omega (arith, l, length-map items value)

-- a value that stands there
pub value_there : {X : Type 0} (value : X → ℤ) (items : List X) (k : ℕ) (item : X) → slice_get items k ≡ Some item
    → slice_get (map value items) k ≡ Some (value item)
value_there value items k item there = slice_get-map value items k ∙ ap (option_map value) there

-- one more position, whose sum is this entry
module _ (mark : ℤ) (scales : Scales) (firsts seconds : List ℤ) (at : ℕ → ℕ) (bound : ℕ) (greatest new a b entry : ℤ) (max : new ≡ int_max greatest entry)
    (there : slice_get firsts (at bound) ≡ Some a) (behind : slice_get seconds (at bound) ≡ Some b)
    (before : IsLargest least_entry (HasBefore (λ k. HasScaledSum mark scales firsts seconds (at k)) bound) greatest) where
  first_is : (number : ℤ) (it : HasScaledSum mark scales firsts seconds (at bound) number) → it.first ≡ a
  first_is number it = let e = it.first_there in cc

  second_is : (number : ℤ) (it : HasScaledSum mark scales firsts seconds (at bound) number) → it.second ≡ b
  second_is number it = let e = it.second_there in cc

  pub scaled_marked : (a ≡ mark) ⊎ (b ≡ mark) → entry ≡ no_candidate → IsLargest least_entry (HasBefore (λ k. HasScaledSum mark scales firsts seconds (at k)) (bound + 1)) new
  scaled_marked marked e =
      more_low least_entry (λ k. HasScaledSum mark scales firsts seconds (at k)) bound greatest new entry max before (omega (arith, ints))
      (λ number it. elim marked [ inl e ↦ it.first_scores (first_is number it ∙ e) | inr e ↦ it.second_scores (second_is number it ∙ e) ])

  pub scaled_scored : (a ≡ mark → ⊥) → (b ≡ mark → ⊥) → entry ≡ ((scales.before *ℤ a) +ℤ (scales.behind *ℤ b)) → nat_abs (scales.before *ℤ a) + nat_abs (scales.behind *ℤ b) ≤ greatest_score
      → IsLargest least_entry (HasBefore (λ k. HasScaledSum mark scales firsts seconds (at k)) (bound + 1)) new
  scaled_scored apart apart' e low =
      more_high least_entry (λ k. HasScaledSum mark scales firsts seconds (at k)) bound greatest new entry max before (omega (arith, ints)) (
        record { first = a; second = b; first_there = there; second_there = behind; first_scores = apart; second_scores = apart'; is = e },
        λ number it.
            let is = it.is in
            let same : (scales.before *ℤ it.first) ≡ (scales.before *ℤ a) = ap (λ x. scales.before *ℤ x) (first_is number it) in
            let same' : (scales.behind *ℤ it.second) ≡ (scales.behind *ℤ b) = ap (λ x. scales.behind *ℤ x) (second_is number it) in
            omega (arith, ints),
      )

-- numbers that stay as they are
pub as_proper : (width : Width) (xs : List ℤ) → AreProper width xs → AreProper width (map (λ x. x) xs)
as_proper width xs = subst (AreProper width) (sym (map-id xs))

module _ (P : List ℤ → List ℤ → Type 0) (xs ys : List ℤ) where
  pub as_values : P xs ys → P (map (λ x. x) xs) (map (λ x. x) ys)
  as_values p = subst (λ zs. P zs (map (λ x. x) ys)) (sym (map-id xs)) (subst (P xs) (sym (map-id ys)) p)

  pub from_values : P (map (λ x. x) xs) (map (λ x. x) ys) → P xs ys
  from_values p = subst (λ zs. P zs ys) (map-id xs) (subst (P (map (λ x. x) xs)) (map-id ys) p)
