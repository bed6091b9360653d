-- The greatest of numbers in whose places neither of two others is the mark, and numbers at positions.
use Rattle.std.proofs.Common.{◌≡◌, ◌⊎◌, ℕ, zero, suc, ◌+◌, ◌<◌, ◌≤◌, ℤ, ◌<ℤ◌, Some, List, length, map, replicate, get_or, slice_get, slice_set, sym, ap, subst, ◌∙◌, inl, inr, arith}
use Rattle.std.specs.Int.{int_max}
use Rattle.std.specs.List.{AllAdjacentBelow}
use Rattle.std.specs.Ordering.{int_eq}
use Rattle.std.proofs.lemmas.Bool.{cases_Bool, cases_lt}
use Rattle.std.proofs.lemmas.Bool.Decides.{Decides-int_eq}
use Rattle.std.proofs.lemmas.Int.{ints}
use Rattle.std.proofs.lemmas.List.{length-map, length-replicate, length-set, map-set}
use Rattle.score_numbers.specs.declared.sums.Positions.{Positions}
use Rattle.score_numbers.specs.Greatest.{IsGreatestOf}
use Rattle.score_numbers.specs.Packing.{Width}
use Rattle.score_numbers.specs.Spaced.{IsSpaced, least_sum}
use Rattle.score_numbers.specs.TermLines.{AreLowLive, AreNumbersFrom, HasLive}
use Rattle.score_numbers.specs.Sums.{HaveNumbers, number_at}
use Rattle.score_numbers.proofs.Combined.{set_here, set_there}
use Rattle.score_numbers.proofs.Greatest.{HasBefore}
use Rattle.score_numbers.proofs.LargestSums.{IsLargest, largest_same, more_high, more_low, number_is as number_aligned, some_position}

cases_mark : (number mark : ℤ) → (number ≡ mark) ⊎ (number ≡ mark → ⊥)
cases_mark number mark = elim (cases_Bool (int_eq number mark)) [
  | inl there ↦ inl ((Decides-int_eq number mark).0 there)
  | inr missing ↦ inr (λ e. let there = (Decides-int_eq number mark).1 e in absurd cc)
]

-- the number in one more place
module _ (width : Width) (spaced : IsSpaced width) (befores behinds numbers : List ℤ) (low : AreLowLive width befores behinds numbers) (bound : ℕ) (greatest new x before behind number : ℤ)
    (max : new ≡ int_max greatest x) (before_there : slice_get befores bound ≡ Some before) (behind_there : slice_get behinds bound ≡ Some behind) (there : slice_get numbers bound ≡ Some number)
    (marked : (before ≡ width.mark) ⊎ (behind ≡ width.mark) → x ≡ width.mark) (live : (before ≡ width.mark → ⊥) → (behind ≡ width.mark → ⊥) → x ≡ number)
    (so_far : IsLargest (least_sum width) (HasBefore (λ k number. HasLive width befores behinds numbers k number) bound) greatest) where
  abbrev At : ℕ → ℤ → Type 0
  At k number = HasLive width befores behinds numbers k number

  low_mark : (before ≡ width.mark) ⊎ (behind ≡ width.mark) → x <ℤ least_sum width
  low_mark dead = let e = marked dead in let l = spaced.low in omega (arith, ints)

  before_is : (other : ℤ) (it : At bound other) → it.before ≡ before
  before_is other it = let e = it.before_there in cc

  behind_is : (other : ℤ) (it : At bound other) → it.behind ≡ behind
  behind_is other it = let e = it.behind_there in cc

  number_is : (other : ℤ) (it : At bound other) → other ≡ number
  number_is other it = let e = it.there in cc

  pub live_more : IsLargest (least_sum width) (HasBefore (λ k number. HasLive width befores behinds numbers k number) (bound + 1)) new
  live_more = go (cases_mark before width.mark) (cases_mark behind width.mark)
    where
      go : (before ≡ width.mark) ⊎ (before ≡ width.mark → ⊥) → (behind ≡ width.mark) ⊎ (behind ≡ width.mark → ⊥) → IsLargest (least_sum width) (HasBefore (λ k number. HasLive width befores behinds numbers k number) (bound + 1)) new
      go (inl e) other = more_low (least_sum width) At bound greatest new x max so_far (low_mark (inl e)) (λ number it. it.before_scores (before_is number it ∙ e))
      go (inr apart) (inl e) = more_low (least_sum width) At bound greatest new x max so_far (low_mark (inr e)) (λ number it. it.behind_scores (behind_is number it ∙ e))
      go (inr apart) (inr apart') =
          let here : At bound number = record { before = before; behind = behind; before_there = before_there; behind_there = behind_there; before_scores = apart; behind_scores = apart'; there = there } in
          let same : number ≡ x = sym (live apart apart') in
          let within = low bound number here in
          more_high (least_sum width) At bound greatest new x max so_far (omega (arith, ints))
          (subst (λ y. IsGreatestOf (At bound) (Some y)) same (here, λ other it. let e = number_is other it in omega (arith, ints)))

-- behind the last place all are found
pub all_live : (width : Width) (befores behinds numbers : List ℤ) (least : ℤ) (count : ℕ) (greatest : ℤ) → length numbers ≤ count → IsLargest least (HasBefore (λ k number. HasLive width befores behinds numbers k number) count) greatest
    → IsLargest least (λ number. (k : ℕ) × HasLive width befores behinds numbers k number) greatest
all_live width befores behinds numbers least count greatest all =
    largest_same least (HasBefore (λ k number. HasLive width befores behinds numbers k number) count) (λ number. (k : ℕ) × HasLive width befores behinds numbers k number) greatest
    (λ number h. (h.0, h.2)) (λ number h. (h.0, omega (arith, all, some_position numbers h.0 number h.1.there), h.1))

-- ---- numbers at positions, side by side

-- so many of the first places are filled, and the mark is behind them
pub record IsLoadedBefore (mark : ℤ) (place : ℕ → ℕ) (numbers lane : List ℤ) (bound : ℕ) : Type 0 where
  pub as_many : length lane ≡ 64
  pub at : (k : ℕ) → k < bound → slice_get lane k ≡ slice_get numbers (place k)
  pub behind : (k : ℕ) (number : ℤ) → bound ≤ k → slice_get lane k ≡ Some number → number ≡ mark

replicated : {A : Type 0} (value : A → ℤ) (count : ℕ) (x : A) (k : ℕ) (number : ℤ) → slice_get (map value (replicate count x)) k ≡ Some number → number ≡ value x
replicated value zero x k number e = absurd cc
replicated value (suc count) x zero number e = cc
replicated value (suc count) x (suc k) number e = replicated value count x k number e

pub none_loaded : {A : Type 0} (value : A → ℤ) (mark : ℤ) (place : ℕ → ℕ) (numbers : List ℤ) (x : A) → value x ≡ mark → IsLoadedBefore mark place numbers (map value (replicate 64 x)) 0
none_loaded value mark place numbers x is = record {
  as_many = length-map (replicate 64 x) value ∙ length-replicate 64 x;
  at = λ k l. absurd (omega (arith, l));
  behind = λ k number l there. replicated value 64 x k number there ∙ is;
}

module _ {A : Type 0} (value : A → ℤ) (mark : ℤ) (place : ℕ → ℕ) (numbers : List ℤ) (lane : List A) (bound : ℕ) (new : A) (fits : bound < 64) (is : slice_get numbers (place bound) ≡ Some (value new))
    (so_far : IsLoadedBefore mark place numbers (map value lane) bound) where
  changed : map value (slice_set lane bound new) ≡ slice_set (map value lane) bound (value new)
  changed = map-set value lane bound new

  here : slice_get (map value (slice_set lane bound new)) bound ≡ Some (value new)
  here = ap (λ xs. slice_get xs bound) changed ∙ set_here (map value lane) bound (value new) (omega (arith, fits, so_far.as_many))

  apart : (k : ℕ) → (k ≡ bound → ⊥) → slice_get (map value (slice_set lane bound new)) k ≡ slice_get (map value lane) k
  apart k other = ap (λ xs. slice_get xs k) changed ∙ set_there (map value lane) bound k (value new) other

  pub loaded_more : IsLoadedBefore mark place numbers (map value (slice_set lane bound new)) (bound + 1)
  loaded_more = record {
    as_many = length-map (slice_set lane bound new) value ∙ length-set lane bound new ∙ sym (length-map lane value) ∙ so_far.as_many;
    at = λ k l. elim (cases_lt k bound) [
      | inl m ↦ apart k (λ e. omega (arith, e, m)) ∙ so_far.at k m
      | inr m ↦
          let same : k ≡ bound = omega arith in
          ap (λ n. slice_get (map value (slice_set lane bound new)) n) same ∙ here ∙ sym is ∙ ap (λ n. slice_get numbers (place n)) (sym same)
    ];
    behind = λ k number l there. so_far.behind k number (omega arith) (sym (apart k (λ e. omega (arith, e, l))) ∙ there);
  }

module _ (mark : ℤ) (positions : Positions) (numbers lane : List ℤ) (begin bound : ℕ) (reaches : (k : ℕ) → k < 64 → begin + k < length positions.at.now → k < bound) (within : begin + bound ≤ length positions.at.now) where
  pub all_scattered_loaded : IsLoadedBefore mark (λ k. number_at positions (get_or positions.at.now (begin + k) 0)) numbers lane bound → AreNumbersFrom mark positions numbers begin lane
  all_scattered_loaded it = record {
    at = λ k l m. it.at k (reaches k l m);
    behind = λ k number l there. it.behind k number (omega (arith, within, l)) there;
    as_many = it.as_many;
  }

  pub all_aligned_loaded : HaveNumbers positions numbers numbers → AllAdjacentBelow (λ (a b : ℕ). a < b) positions.at.now (length positions.at.now) → length numbers ≡ length positions.at.now
      → IsLoadedBefore mark (λ k. begin + k) numbers lane bound → AreNumbersFrom mark positions numbers begin lane
  all_aligned_loaded have rising as_many it = record {
    at = λ k l m. it.at k (reaches k l m) ∙ ap (slice_get numbers) (sym (number_aligned positions numbers numbers have rising as_many (begin + k) m));
    behind = λ k number l there. it.behind k number (omega (arith, within, l)) there;
    as_many = it.as_many;
  }
