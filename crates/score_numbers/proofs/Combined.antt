-- Numbers side by side that are combined one after another.
use Rattle.std.proofs.Common.{◌≡◌, ℕ, zero, suc, ◌+◌, ◌<◌, ◌≤◌, ℤ, pos, ◌-ℤ◌, nat_abs, Some, List, [], ◌∷◌, length, map, replicate, get_or, slice_get, slice_set, sym, ap, subst, ◌∙◌, refl, inl, inr, arith}
use Rattle.std.proofs.lemmas.Bool.{cases_lt}
use Rattle.std.proofs.lemmas.Int.{ints}
use Rattle.std.proofs.lemmas.List.{length-map, map-set, length-set}
use Rattle.std.specs.Option.{option_map}
use Rattle.std.proofs.lemmas.Option.{slice_get-get_or, slice_get-map}
use Rattle.adp_model.specs.declared.grammar.Goal.TheVariants.{Least}
use Rattle.score_numbers.specs.Lanes.{AreCombined, AreTurned}
use Rattle.score_numbers.specs.Turned.{turned}
use Rattle.score_numbers.proofs.LargestSums.{some_position}

-- the numbers before the bound are combined, and the others as they were
pub record AreCombinedBefore (limit : ℕ) (exact : ℤ → ℤ → ℤ) (ones others numbers : List ℤ) (bound : ℕ) : Type 0 where
  pub as_many : length numbers ≡ length ones
  pub before : (k : ℕ) (one other : ℤ) → k < bound → slice_get ones k ≡ Some one → slice_get others k ≡ Some other
      → nat_abs (exact one other) ≤ limit → slice_get numbers k ≡ Some (exact one other)
  pub behind : (k : ℕ) → bound ≤ k → slice_get numbers k ≡ slice_get ones k

pub set_here : (xs : List ℤ) (k : ℕ) (x : ℤ) → k < length xs → slice_get (slice_set xs k x) k ≡ Some x
set_here [] k x l = absurd (omega arith)
set_here (y ∷ xs) zero x l = refl
set_here (y ∷ xs) (suc k) x l = set_here xs k x (omega arith)

pub set_there : (xs : List ℤ) (k j : ℕ) (x : ℤ) → (j ≡ k → ⊥) → slice_get (slice_set xs k x) j ≡ slice_get xs j
set_there [] k j x apart = refl
set_there (y ∷ xs) zero zero x apart = absurd (apart refl)
set_there (y ∷ xs) zero (suc j) x apart = refl
set_there (y ∷ xs) (suc k) zero x apart = refl
set_there (y ∷ xs) (suc k) (suc j) x apart = set_there xs k j x (λ e. apart (ap suc e))

-- one number more
module _ {A : Type 0} (value : A → ℤ) (limit : ℕ) (exact : ℤ → ℤ → ℤ) (ones others : List ℤ) (lane : List A) (bound : ℕ) (one other : ℤ) (new : A)
    (was : slice_get (map value lane) bound ≡ Some one) (beside : slice_get others bound ≡ Some other) (is : nat_abs (exact one other) ≤ limit → value new ≡ exact one other)
    (so_far : AreCombinedBefore limit exact ones others (map value lane) bound) where
  moved : map value (slice_set lane bound new) ≡ slice_set (map value lane) bound (value new)
  moved = map-set value lane bound new

  here : slice_get (map value (slice_set lane bound new)) bound ≡ Some (value new)
  here = ap (λ xs. slice_get xs bound) moved ∙ set_here (map value lane) bound (value new) (some_position (map value lane) bound one was)

  apart : (k : ℕ) → (k ≡ bound → ⊥) → slice_get (map value (slice_set lane bound new)) k ≡ slice_get (map value lane) k
  apart k other = ap (λ xs. slice_get xs k) moved ∙ set_there (map value lane) bound k (value new) other

  pub combined_more : AreCombinedBefore limit exact ones others (map value (slice_set lane bound new)) (bound + 1)
  combined_more = record {
    as_many = length-map (slice_set lane bound new) value ∙ length-set lane bound new ∙ sym (length-map lane value) ∙ so_far.as_many;
    before = λ k one' other' l there there' low. elim (cases_lt k bound) [
      | inl m ↦ apart k (λ e. omega (arith, e, m)) ∙ so_far.before k one' other' m there there' low
      | inr m ↦
          let same : k ≡ bound = omega arith in
          let first : one' ≡ one = (let e = sym (so_far.behind bound (omega arith)) ∙ was in let e' = subst (λ n. slice_get ones n ≡ Some one') same there in cc) in
          let second : other' ≡ other = (let e = subst (λ n. slice_get others n ≡ Some other') same there' in cc) in
          let is' : value new ≡ exact one' other' = subst (λ o. value new ≡ exact one' o) (sym second) (subst (λ o. value new ≡ exact o other) (sym first) (is (subst (λ o. nat_abs (exact o other) ≤ limit) first (subst (λ o. nat_abs (exact one' o) ≤ limit) second low)))) in
          ap (λ n. slice_get (map value (slice_set lane bound new)) n) same ∙ here ∙ ap Some is'
    ];
    behind = λ k l. apart k (λ e. omega (arith, e, l)) ∙ so_far.behind k (omega arith);
  }

-- behind the last number all are combined
pub all_combined : (limit : ℕ) (exact : ℤ → ℤ → ℤ) (ones others numbers : List ℤ) (bound : ℕ) → length ones ≤ bound → AreCombinedBefore limit exact ones others numbers bound → AreCombined limit exact ones others numbers
all_combined limit exact ones others numbers bound l it k one other there there' low = it.before k one other (omega (arith, l, some_position ones k one there)) there there' low

pub replicate_at : (count k : ℕ) (x : ℤ) → k < count → slice_get (replicate count x) k ≡ Some x
replicate_at zero k x l = absurd (omega arith)
replicate_at (suc count) zero x l = refl
replicate_at (suc count) (suc k) x l = replicate_at count k x (omega arith)

-- nothing without each of the numbers is that number, turned
pub turned_least : (limit count : ℕ) (ones zeros numbers : List ℤ) → length ones ≤ count → zeros ≡ replicate count (pos 0) → AreCombined limit (λ one other. one -ℤ other) zeros ones numbers → AreTurned limit Least ones numbers
turned_least limit count ones zeros numbers l are combined k one there low =
    let zero_there : slice_get zeros k ≡ Some (pos 0) = ap (λ xs. slice_get xs k) are ∙ replicate_at count k (pos 0) (omega (arith, l, some_position ones k one there)) in
    let same : (pos 0 -ℤ one) ≡ turned Least one = omega (arith, ints) in
    combined k (pos 0) one zero_there there (subst (λ z. nat_abs z ≤ limit) (sym same) (omega (arith, ints, low))) ∙ ap Some same

-- the value of an item
pub value_of : {X : Type 0} (value : X → ℤ) (items : List X) (k : ℕ) (d : X) → k < length items → slice_get (map value items) k ≡ Some (value (get_or items k d))
value_of value items k d l = slice_get-map value items k ∙ ap (option_map value) (slice_get-get_or items k d l)
