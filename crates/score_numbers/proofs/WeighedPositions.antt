-- Sums of two numbers and of a weight at one more position.
use Rattle.std.proofs.Common.{◌≡◌, ◌↔◌, ℕ, ◌+◌, ◌≤◌, ◌⊎◌, ℤ, ◌+ℤ◌, ◌*ℤ◌, ◌≤ℤ◌, nat_abs, Bool, IsTrue, Some, List, slice_get, FitsSigned, w64, to_z, of_z, refl, ap, inl, inr, ◌∙◌, arith}
use Rattle.std.specs.Bool.{Decides}
use Rattle.std.specs.Int.{int_max}
use Rattle.std.proofs.lemmas.Int.{ints, to_z-of_z, fits_signed_from_abs}
use Rattle.adp_model.specs.ProblemFields.{greatest_score}
use Rattle.score_numbers.specs.declared.sums.Scales.{Scales}
use Rattle.score_numbers.specs.declared.weighed_sums.Weights.{Weights}
use Rattle.score_numbers.specs.Entries.{no_candidate}
use Rattle.score_numbers.specs.WeighedSums.{HasWeighedSum, weight_at}
use Rattle.score_numbers.proofs.Greatest.{HasBefore}
use Rattle.score_numbers.proofs.LargestSums.{IsLargest, least_entry, more_high, more_low}

abbrev pub Read : ℤ → ℤ
Read number = to_z w64 (of_z w64 number)

-- products that are low together, and their sums, as their bits are read
module _ (a x f w c y : ℤ) (fits_a : FitsSigned w64 a) (fits_x : FitsSigned w64 x) (fits_f : FitsSigned w64 f) (fits_w : FitsSigned w64 w) (fits_c : FitsSigned w64 c) (fits_y : FitsSigned w64 y)
    (low : nat_abs (a *ℤ x) + nat_abs (f *ℤ w) + nat_abs (c *ℤ y) ≤ greatest_score) where
  fits_first : FitsSigned w64 (a *ℤ x)
  fits_first = fits_signed_from_abs w64 (a *ℤ x) (omega (arith, low))

  fits_weight : FitsSigned w64 (f *ℤ w)
  fits_weight = fits_signed_from_abs w64 (f *ℤ w) (omega (arith, low))

  fits_second : FitsSigned w64 (c *ℤ y)
  fits_second = fits_signed_from_abs w64 (c *ℤ y) (omega (arith, low))

  fits_two : FitsSigned w64 ((a *ℤ x) +ℤ (f *ℤ w))
  fits_two = fits_signed_from_abs w64 ((a *ℤ x) +ℤ (f *ℤ w)) (omega (arith, ints))

  fits_all : FitsSigned w64 (((a *ℤ x) +ℤ (f *ℤ w)) +ℤ (c *ℤ y))
  fits_all = fits_signed_from_abs w64 (((a *ℤ x) +ℤ (f *ℤ w)) +ℤ (c *ℤ y)) (omega (arith, ints))

  pub product_first : FitsSigned w64 (Read a *ℤ Read x)
  product_first = simp to_z-of_z fits_first

  pub product_weight : FitsSigned w64 (Read f *ℤ Read w)
  product_weight = simp to_z-of_z fits_weight

  pub product_second : FitsSigned w64 (Read c *ℤ Read y)
  product_second = simp to_z-of_z fits_second

  pub sum_two : FitsSigned w64 (Read (Read a *ℤ Read x) +ℤ Read (Read f *ℤ Read w))
  sum_two = let fits = fits_first in let fits' = fits_weight in simp to_z-of_z fits_two

  pub sum_all : FitsSigned w64 (Read (Read (Read a *ℤ Read x) +ℤ Read (Read f *ℤ Read w)) +ℤ Read (Read c *ℤ Read y))
  sum_all = let fits = fits_first in let fits' = fits_weight in let fits'' = fits_two in let fits''' = fits_second in simp to_z-of_z fits_all

  pub all_is : Read (Read (Read (Read a *ℤ Read x) +ℤ Read (Read f *ℤ Read w)) +ℤ Read (Read c *ℤ Read y)) ≡ (((a *ℤ x) +ℤ (f *ℤ w)) +ℤ (c *ℤ y))
  all_is = let fits = fits_first in let fits' = fits_weight in let fits'' = fits_two in let fits''' = fits_second in let fits'''' = fits_all in simp to_z-of_z

-- ---- one more position, whose sum is this entry

module _ (mark : ℤ) (scales : Scales) (weights : Weights) (firsts seconds : List ℤ) (at : ℕ → ℕ) (bound : ℕ) (greatest new a b entry : ℤ) (max : new ≡ int_max greatest entry)
    (there : slice_get firsts (at bound) ≡ Some a) (behind : slice_get seconds (at bound) ≡ Some b)
    (before : IsLargest least_entry (HasBefore (λ k. HasWeighedSum mark scales weights firsts seconds (at k)) bound) greatest) where
  first_is : (number : ℤ) (it : HasWeighedSum mark scales weights firsts seconds (at bound) number) → it.first ≡ a
  first_is number it = let e = it.first_there in cc

  second_is : (number : ℤ) (it : HasWeighedSum mark scales weights firsts seconds (at bound) number) → it.second ≡ b
  second_is number it = let e = it.second_there in cc

  pub weighed_marked : (a ≡ mark) ⊎ (b ≡ mark) → entry ≡ no_candidate → IsLargest least_entry (HasBefore (λ k. HasWeighedSum mark scales weights firsts seconds (at k)) (bound + 1)) new
  weighed_marked marked e =
      more_low least_entry (λ k. HasWeighedSum mark scales weights firsts seconds (at k)) bound greatest new entry max before (omega (arith, ints))
      (λ number it. elim marked [ inl e ↦ it.first_scores (first_is number it ∙ e) | inr e ↦ it.second_scores (second_is number it ∙ e) ])

  pub weighed_scored : (a ≡ mark → ⊥) → (b ≡ mark → ⊥) → entry ≡ (((scales.before *ℤ a) +ℤ (weights.factor *ℤ weight_at weights (at bound))) +ℤ (scales.behind *ℤ b))
      → nat_abs (scales.before *ℤ a) + nat_abs (weights.factor *ℤ weight_at weights (at bound)) + nat_abs (scales.behind *ℤ b) ≤ greatest_score
      → IsLargest least_entry (HasBefore (λ k. HasWeighedSum mark scales weights firsts seconds (at k)) (bound + 1)) new
  weighed_scored apart apart' e low =
      let weight = weights.factor *ℤ weight_at weights (at bound) in
      more_high least_entry (λ k. HasWeighedSum mark scales weights firsts seconds (at k)) bound greatest new entry max before (high (scales.before *ℤ a) weight (scales.behind *ℤ b) e low) (
        record { first = a; second = b; first_there = there; second_there = behind; first_scores = apart; second_scores = apart'; is = e },
        λ number it.
            let same : (scales.before *ℤ it.first) ≡ (scales.before *ℤ a) = ap (λ x. scales.before *ℤ x) (first_is number it) in
            let same' : (scales.behind *ℤ it.second) ≡ (scales.behind *ℤ b) = ap (λ x. scales.behind *ℤ x) (second_is number it) in
            no_more (scales.before *ℤ it.first) (scales.before *ℤ a) (scales.behind *ℤ it.second) (scales.behind *ℤ b) weight number same same' it.is e,
      )
    where
      high : (x w y : ℤ) → entry ≡ ((x +ℤ w) +ℤ y) → nat_abs x + nat_abs w + nat_abs y ≤ greatest_score → least_entry ≤ℤ entry
      high x w y is low = omega (arith, ints)

      no_more : (x x' y y' w number : ℤ) → x ≡ x' → y ≡ y' → number ≡ ((x +ℤ w) +ℤ y) → entry ≡ ((x' +ℤ w) +ℤ y') → number ≤ℤ entry
      no_more x x' y y' w number same same' is is' = omega (arith, ints)

-- ---- one position

module _ (mark : ℤ) (scales : Scales) (weights : Weights) (firsts seconds : List ℤ) (k : ℕ) (a b : ℤ) (there : slice_get firsts k ≡ Some a) (behind : slice_get seconds k ≡ Some b) where
  pub weighed_low : ((number : ℤ) (it : HasWeighedSum mark scales weights firsts seconds k number) → nat_abs (scales.before *ℤ it.first) + nat_abs (weights.factor *ℤ weight_at weights k) + nat_abs (scales.behind *ℤ it.second) ≤ greatest_score)
      → (a ≡ mark → ⊥) → (b ≡ mark → ⊥) → nat_abs (scales.before *ℤ a) + nat_abs (weights.factor *ℤ weight_at weights k) + nat_abs (scales.behind *ℤ b) ≤ greatest_score
  weighed_low low apart apart' =
      low (((scales.before *ℤ a) +ℤ (weights.factor *ℤ weight_at weights k)) +ℤ (scales.behind *ℤ b))
      (record { first = a; second = b; first_there = there; second_there = behind; first_scores = apart; second_scores = apart'; is = refl })

  module _ (sum : ℤ) where
    one_first : (it : HasWeighedSum mark scales weights firsts seconds k sum) → it.first ≡ a
    one_first it = let e = it.first_there in cc

    one_second : (it : HasWeighedSum mark scales weights firsts seconds k sum) → it.second ≡ b
    one_second it = let e = it.second_there in cc

    weighed_is : (it : HasWeighedSum mark scales weights firsts seconds k sum) → sum ≡ (((scales.before *ℤ a) +ℤ (weights.factor *ℤ weight_at weights k)) +ℤ (scales.behind *ℤ b))
    weighed_is it =
        it.is ∙ ap (λ x. ((scales.before *ℤ x) +ℤ (weights.factor *ℤ weight_at weights k)) +ℤ (scales.behind *ℤ it.second)) (one_first it)
        ∙ ap (λ x. ((scales.before *ℤ a) +ℤ (weights.factor *ℤ weight_at weights k)) +ℤ (scales.behind *ℤ x)) (one_second it)

    -- a test of the sum
    pub made_weighed : (test : Bool) → (IsTrue test → (a ≡ mark → ⊥) × (b ≡ mark → ⊥))
        → ((a ≡ mark → ⊥) → (b ≡ mark → ⊥) → IsTrue test ↔ (sum ≡ (((scales.before *ℤ a) +ℤ (weights.factor *ℤ weight_at weights k)) +ℤ (scales.behind *ℤ b))))
        → Decides test (HasWeighedSum mark scales weights firsts seconds k sum)
    made_weighed test apart exact = (
      λ yes.
          let far = apart yes in
          record { first = a; second = b; first_there = there; second_there = behind; first_scores = far.0; second_scores = far.1; is = (exact far.0 far.1).0 yes },
      λ it.
          let far : a ≡ mark → ⊥ = λ e. it.first_scores (one_first it ∙ e) in
          let far' : b ≡ mark → ⊥ = λ e. it.second_scores (one_second it ∙ e) in
          (exact far far').1 (weighed_is it),
    )
