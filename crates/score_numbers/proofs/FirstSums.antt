-- The first of positions at which two numbers have a sum.
use Rattle.std.proofs.Common.{◌≡◌, ◌↔◌, ℕ, ◌+◌, ◌-◌, ◌<◌, ◌≤◌, ℤ, pos, ◌+ℤ◌, ◌*ℤ◌, ◌<ℤ◌, nat_abs, Bool, true, IsTrue, nat_eq, IfSome, Option, Some, None, List, length, map, take, drop, get_or, slice_get, FitsSigned, w64, to_z, of_z, refl, sym, ap, subst, inl, inr, ◌∙◌, arith}
use Rattle.std.specs.Bool.{Decides}
use Rattle.std.specs.List.{AllAdjacentBelow, Contains, between}
use Rattle.std.proofs.lemmas.Bool.{cases_lt}
use Rattle.std.proofs.lemmas.Bool.Decides.{Decides-eqb}
use Rattle.std.proofs.lemmas.Int.{ints, to_z-of_z}
use Rattle.std.proofs.lemmas.List.{drop-map, length-map, take-map}
use Rattle.std.proofs.lemmas.List.Edits.{length-between, get_or-between}
use Rattle.std.proofs.lemmas.Option.{get_or_from_slice_get, slice_get_read, slice_get_within}
use Rattle.adp_model.specs.ProblemFields.{greatest_score}
use Rattle.score_numbers.specs.declared.sums.Positions.{Positions}
use Rattle.score_numbers.specs.declared.sums.Scales.{Scales}
use Rattle.score_numbers.specs.FirstPositions.{IsFirstAmong, IsFirstOf}
use Rattle.score_numbers.specs.Greatest.{IsGreatestOf}
use Rattle.score_numbers.specs.Limits.{AreLimited, no_limit}
use Rattle.score_numbers.specs.Packing.{Width, AreProper, short}
use Rattle.score_numbers.specs.Sums.{HasScaledSum, HasSum, HaveNumbers, IsUnlimitedSum, number_at}
use Rattle.score_numbers.proofs.LargestSums.{number_back, number_is, plain_sum, stands_unlimited, sum_plain, unlimited_stands}

-- ---- numbers as bits

pub same_number : (a b : ℤ) → FitsSigned w64 a → FitsSigned w64 b → of_z w64 a ≡ of_z w64 b → a ≡ b
same_number a b fits_a fits_b same = sym (to_z-of_z w64 a fits_a) ∙ ap (to_z w64) same ∙ to_z-of_z w64 b fits_b

pub same_bits : (a b : ℤ) → FitsSigned w64 a → FitsSigned w64 b → nat_eq (of_z w64 a) (of_z w64 b) ≡ true → a ≡ b
same_bits a b fits_a fits_b same = same_number a b fits_a fits_b ((Decides-eqb (of_z w64 a) (of_z w64 b)).0 same)

pub bits_same : (a b : ℤ) → a ≡ b → nat_eq (of_z w64 a) (of_z w64 b) ≡ true
bits_same a b e = (Decides-eqb (of_z w64 a) (of_z w64 b)).1 (ap (of_z w64) e)

-- ---- one position

module _ (mark : ℤ) (scales : Scales) (firsts seconds : List ℤ) (k : ℕ) (a b : ℤ) (there : slice_get firsts k ≡ Some a) (behind : slice_get seconds k ≡ Some b) where
  pub scaled_low : ((number : ℤ) (it : HasScaledSum mark scales firsts seconds k number) → nat_abs (scales.before *ℤ it.first) + nat_abs (scales.behind *ℤ it.second) ≤ greatest_score)
      → (a ≡ mark → ⊥) → (b ≡ mark → ⊥) → nat_abs (scales.before *ℤ a) + nat_abs (scales.behind *ℤ b) ≤ greatest_score
  scaled_low low apart apart' =
      low ((scales.before *ℤ a) +ℤ (scales.behind *ℤ b))
      (record { first = a; second = b; first_there = there; second_there = behind; first_scores = apart; second_scores = apart'; is = refl })

  module _ (sum : ℤ) where
    scaled_there : (a ≡ mark → ⊥) → (b ≡ mark → ⊥) → sum ≡ ((scales.before *ℤ a) +ℤ (scales.behind *ℤ b)) → HasScaledSum mark scales firsts seconds k sum
    scaled_there apart apart' is =
        record { first = a; second = b; first_there = there; second_there = behind; first_scores = apart; second_scores = apart'; is = is }

    first_is : (it : HasScaledSum mark scales firsts seconds k sum) → it.first ≡ a
    first_is it = let e = it.first_there in cc

    second_is : (it : HasScaledSum mark scales firsts seconds k sum) → it.second ≡ b
    second_is it = let e = it.second_there in cc

    scaled_is : (it : HasScaledSum mark scales firsts seconds k sum) → sum ≡ ((scales.before *ℤ a) +ℤ (scales.behind *ℤ b))
    scaled_is it =
        it.is ∙ ap (λ x. (scales.before *ℤ x) +ℤ (scales.behind *ℤ it.second)) (first_is it)
        ∙ ap (λ x. (scales.before *ℤ a) +ℤ (scales.behind *ℤ x)) (second_is it)

    -- a test of the sum
    pub made : (test : Bool) → (IsTrue test → (a ≡ mark → ⊥) × (b ≡ mark → ⊥))
        → ((a ≡ mark → ⊥) → (b ≡ mark → ⊥) → IsTrue test ↔ (sum ≡ ((scales.before *ℤ a) +ℤ (scales.behind *ℤ b))))
        → Decides test (HasScaledSum mark scales firsts seconds k sum)
    made test apart exact = (
      λ yes. let far = apart yes in scaled_there far.0 far.1 ((exact far.0 far.1).0 yes),
      λ it.
          let far : a ≡ mark → ⊥ = λ e. it.first_scores (first_is it ∙ e) in
          let far' : b ≡ mark → ⊥ = λ e. it.second_scores (second_is it ∙ e) in
          (exact far far').1 (scaled_is it),
    )

-- a test of the sum of numbers side by side, where there is no limit
module _ (limits firsts seconds : List ℤ) (k : ℕ) (limit a b sum : ℤ) (limited : slice_get limits k ≡ Some limit) (there : slice_get firsts k ≡ Some a) (behind : slice_get seconds k ≡ Some b) where
  pub made_unlimited : (test : Bool) → IsTrue test ↔ ((limit ≡ no_limit) × (a ≡ short.mark → ⊥) × (b ≡ short.mark → ⊥) × (sum ≡ (a +ℤ b)))
      → Decides test (IsUnlimitedSum limits firsts seconds k sum)
  made_unlimited test exact = (
    λ yes.
        let it = exact.0 yes in
        (limited ∙ ap Some it.0, record { first = a; second = b; first_there = there; second_there = behind; first_scores = it.1; second_scores = it.2; is = it.3 }),
    λ it.
        let open_there = it.0 in
        let first_there = it.1.first_there in
        let second_there = it.1.second_there in
        let e : limit ≡ no_limit = cc in
        let e' : it.1.first ≡ a = cc in
        let e'' : it.1.second ≡ b = cc in
        exact.1 (e, λ m. it.1.first_scores (e' ∙ m), λ m. it.1.second_scores (e'' ∙ m), it.1.is ∙ ap (λ x. x +ℤ it.1.second) e' ∙ ap (λ x. a +ℤ x) e''),
  )

-- ---- blocks of numbers

-- a sum that is greater than the greatest is none
pub none_above : (Holds : ℤ → Type 0) (greatest : Option ℤ) (sum : ℤ) → IsGreatestOf Holds greatest → IfSome greatest (λ greatest. greatest <ℤ sum) → Holds sum → ⊥
none_above Holds None sum none less holds = none sum holds
none_above Holds (Some greatest) sum is less holds = let l = is.1 sum holds in absurd (omega (arith, ints))

module _ {X : Type 0} (items : List X) (from to : ℕ) (within : to ≤ length items) where
  pub in_block : (k : ℕ) (item : X) → from ≤ k → k < to → slice_get items k ≡ Some item → slice_get (between from to items) (k - from) ≡ Some item
  in_block k item l m there =
      let same : k ≡ from + (k - from) = omega arith in
      let there' : slice_get items (from + (k - from)) ≡ Some item = subst (λ n. slice_get items n ≡ Some item) same there in
      slice_get_read (between from to items) (to - from) (k - from) item (sym (length-between items from to within)) (omega arith)
      (sym (get_or-between items from to (k - from) item (omega arith) ∙ get_or_from_slice_get items (from + (k - from)) item item there'))

  pub from_block : (k : ℕ) (item : X) → slice_get (between from to items) k ≡ Some item → slice_get items (from + k) ≡ Some item
  from_block k item there =
      let l : k < to - from = omega (arith, slice_get_within (between from to items) k item there, length-between items from to within) in
      slice_get_read items (length items) (from + k) item refl (omega arith)
      (sym (sym (get_or-between items from to k item (omega arith)) ∙ get_or_from_slice_get (between from to items) k item item there))

pub block_proper : (width : Width) (numbers : List ℤ) (from to : ℕ) → to ≤ length numbers → AreProper width numbers → AreProper width (between from to numbers)
block_proper width numbers from to within proper k number there = proper (from + k) number (from_block numbers from to within k number there)

pub block_sum : (width : Width) (firsts seconds : List ℤ) (from to : ℕ) → to ≤ length firsts → to ≤ length seconds → (k : ℕ) (sum : ℤ) → from ≤ k → k < to
    → HasSum width firsts seconds k sum → HasSum width (between from to firsts) (between from to seconds) (k - from) sum
block_sum width firsts seconds from to within within' k sum l m it = record {
  first = it.first;
  second = it.second;
  first_there = in_block firsts from to within k it.first l m it.first_there;
  second_there = in_block seconds from to within' k it.second l m it.second_there;
  first_scores = it.first_scores;
  second_scores = it.second_scores;
  is = it.is;
}

map_block : {X : Type 0} (value : X → ℤ) (items : List X) (from to : ℕ) → between from to (map value items) ≡ map value (between from to items)
map_block value items from to = ap (take (to - from)) (drop-map value from items) ∙ take-map value (to - from) (drop from items)

-- numbers that are told by values
module _ {X : Type 0} (width : Width) (value : X → ℤ) (from to : ℕ) where
  pub values_proper : (items : List X) → to ≤ length items → AreProper width (map value items) → AreProper width (map value (between from to items))
  values_proper items within proper =
      subst (AreProper width) (map_block value items from to)
      (block_proper width (map value items) from to (omega (arith, within, length-map items value)) proper)

  pub values_sum : (firsts seconds : List X) → to ≤ length firsts → to ≤ length seconds → (k : ℕ) (sum : ℤ) → from ≤ k → k < to
      → HasSum width (map value firsts) (map value seconds) k sum → HasSum width (map value (between from to firsts)) (map value (between from to seconds)) (k - from) sum
  values_sum firsts seconds within within' k sum l m it =
      subst (λ numbers. HasSum width (map value (between from to firsts)) numbers (k - from) sum) (map_block value seconds from to)
      (subst (λ numbers. HasSum width numbers (between from to (map value seconds)) (k - from) sum) (map_block value firsts from to)
      (block_sum width (map value firsts) (map value seconds) from to (omega (arith, within, length-map firsts value)) (omega (arith, within', length-map seconds value)) k sum l m it))

-- so many more are passed over
pub none_before : (Holds : ℕ → Type 0) (passed end : ℕ) → ((k : ℕ) → k < passed → Holds k → ⊥) → ((k : ℕ) → passed ≤ k → k < end → Holds k → ⊥)
    → (k : ℕ) → k < end → Holds k → ⊥
none_before Holds passed end none block k l holds =
    elim (cases_lt k passed) [ inl before ↦ none k before holds | inr behind ↦ block k behind l holds ]

-- ---- positions

module _ (positions : Positions) (scales : Scales) (before : scales.before ≡ pos 1) (behind : scales.behind ≡ pos 1) (firsts seconds : List ℤ) (have : HaveNumbers positions firsts seconds) where
  -- the first numbers side by side are those at the first positions
  pub none_aligned : (width : Width) (passed : ℕ) (sum : ℤ) → AllAdjacentBelow (λ (a b : ℕ). a < b) positions.at.now (length positions.at.now) → length firsts ≡ length positions.at.now → passed ≤ length firsts
      → ((k : ℕ) → k < passed → HasSum width firsts seconds k sum → ⊥)
      → (k : ℕ) → k < passed → HasScaledSum width.mark scales firsts seconds (number_at positions (get_or positions.at.now k 0)) sum → ⊥
  none_aligned width passed sum rising as_many within none k l it =
      let same = number_is positions firsts seconds have rising as_many k (omega arith) in
      none k l (sum_plain width scales before behind firsts seconds k sum (subst (λ n. HasScaledSum width.mark scales firsts seconds n sum) same it))

  module _ (limits : List ℤ) (limited : AreLimited positions.at.now limits) (as_many : length firsts ≡ length limits) (sum : ℤ) where
    abbrev Holds : ℕ → Type 0
    Holds position = HasScaledSum short.mark scales firsts seconds (number_at positions position) sum

    unlimited : (position : ℕ) → Contains positions.at.now position → Holds position → IsUnlimitedSum limits firsts seconds (number_at positions position) sum
    unlimited position stands it = (
      stands_unlimited positions firsts seconds limits have limited as_many position stands,
      sum_plain short scales before behind firsts seconds (number_at positions position) sum it,
    )

    -- what is known of numbers side by side holds of the positions
    pub none_limited : ((k : ℕ) → IsUnlimitedSum limits firsts seconds k sum → ⊥) → IsFirstOf positions.at.now Holds None
    none_limited none position stands it = none (number_at positions position) (unlimited position stands it)

    pub first_limited : (k : ℕ) → IsUnlimitedSum limits firsts seconds k sum → ((other : ℕ) → other < k → IsUnlimitedSum limits firsts seconds other sum → ⊥)
        → IsFirstAmong positions.at.now Holds (positions.first + k)
    first_limited k it none = record {
      stands = unlimited_stands positions firsts seconds limits have limited as_many k it.0;
      holds = subst (λ n. HasScaledSum short.mark scales firsts seconds n sum) (number_back positions firsts seconds limits have limited as_many k) (plain_sum short scales before behind firsts seconds k sum it.1);
      first = λ other stands holds. elim (cases_lt (number_at positions other) k) [
        | inl before ↦ absurd (none (number_at positions other) before (unlimited other stands holds))
        | inr behind ↦ (let from = have.from_first other stands in omega arith)
      ];
    }
