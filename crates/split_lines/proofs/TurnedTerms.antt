-- The score of a split, turned, is the turned constant and each turned factor times its value, added up.
use Rattle.std.proofs.Common.{◌≡◌, ℕ, zero, suc, negsuc, ◌*◌, ℤ, pos, neg_ℤ, ◌+ℤ◌, ◌*ℤ◌, nat_abs, List, [], ◌∷◌, length, take, map, refl, sym, ap, subst, ◌∙◌, ◌+◌, ◌≤◌, arith, length-take}
use Rattle.std.proofs.lemmas.Int.{ints}
use Rattle.std.proofs.lemmas.List.{length-map}
use Rattle.std.proofs.Math.IntN.{neg_ℤ-neg_ℤ, zero-*ℤ}
use Rattle.adp_model.specs.declared.grammar.Goal.{Goal}
use Rattle.adp_model.specs.declared.grammar.Goal.TheVariants.{Least, Greatest}
use Rattle.adp_model.specs.declared.grammar.Term.{Term}
use Rattle.adp_model.specs.PosedProblem.{PosedProblem}
use Rattle.adp_model.specs.Parts.{algebra_of, arguments_of, term_of}
use Rattle.adp_model.specs.Terms.{magnitude, term_value, weighted_sum, weighted_total}
use Rattle.score_numbers.specs.Turned.{turned}
use Rattle.term_values.specs.declared.lowering.LinearForm.{LinearForm}
use Rattle.term_values.specs.Lowering.{IsLowered}
use Rattle.split_lines.specs.Kept.{IsScoredBy}

turned_low : (goal : Goal) (number : ℤ) → nat_abs (turned goal number) ≡ nat_abs number
turned_low Least number = omega (arith, ints)
turned_low Greatest number = refl

turned_sum : (goal : Goal) (a b : ℤ) → turned goal (a +ℤ b) ≡ (turned goal a +ℤ turned goal b)
turned_sum Least a b = omega (arith, ints)
turned_sum Greatest a b = refl

product_negated : (a b : ℤ) → neg_ℤ (a *ℤ b) ≡ (neg_ℤ a *ℤ b)
product_negated (pos zero) b = ap neg_ℤ (zero-*ℤ b) ∙ sym (zero-*ℤ b)
product_negated (pos (suc m)) (pos n) = refl
product_negated (pos (suc m)) (negsuc n) = neg_ℤ-neg_ℤ (pos (suc m * suc n))
product_negated (negsuc m) (pos n) = neg_ℤ-neg_ℤ (pos (suc m * n))
product_negated (negsuc m) (negsuc n) = refl

turned_product : (goal : Goal) (a b : ℤ) → turned goal (a *ℤ b) ≡ (turned goal a *ℤ b)
turned_product Least a b = product_negated a b
turned_product Greatest a b = refl

turned_zero : (goal : Goal) → turned goal (pos 0) ≡ pos 0
turned_zero Least = refl
turned_zero Greatest = refl

turned_weighted : (goal : Goal) (factors values : List ℤ) → turned goal (weighted_sum factors values) ≡ weighted_sum (map (turned goal) factors) values
turned_weighted goal [] values = turned_zero goal
turned_weighted goal (factor ∷ factors) [] = turned_zero goal
turned_weighted goal (factor ∷ factors) (value ∷ values) =
    turned_sum goal (factor *ℤ value) (weighted_sum factors values) ∙ (λ i. turned_product goal factor value i +ℤ turned_weighted goal factors values i)

turned_total : (goal : Goal) (factors : List ℤ) (numbers : List ℕ) → weighted_total (map (turned goal) factors) numbers ≡ weighted_total factors numbers
turned_total goal [] numbers = refl
turned_total goal (factor ∷ factors) [] = refl
turned_total goal (factor ∷ factors) (number ∷ numbers) = rw (turned_low goal factor, turned_total goal factors numbers)

-- factors behind those of the values that there are add nothing
pub record FurtherAddNothing : Type 0 where
  pub sums : (factors values : List ℤ) → weighted_sum (take (length values) factors) values ≡ weighted_sum factors values
  pub totals : (factors : List ℤ) (numbers : List ℕ) → weighted_total (take (length numbers) factors) numbers ≡ weighted_total factors numbers

-- the constant and the factors that a term is lowered to, turned, score its alternatives
pub scored_by_turned : FurtherAddNothing → (p : PosedProblem) (rule alternative : ℕ) (constant : ℤ) (factors : List ℤ) (term : Term) (lowered : LinearForm)
    → term ≡ term_of p rule alternative → IsLowered term lowered
    → constant ≡ turned (algebra_of p).goal lowered.constant
    → take (length (arguments_of p.grammar rule alternative)) (map (turned (algebra_of p).goal) lowered.factors) ≡ factors
    → length (arguments_of p.grammar rule alternative) ≤ length lowered.factors
    → IsScoredBy p rule alternative constant factors
scored_by_turned law p rule alternative constant factors term lowered term_is is constant_is factors_are enough =
    let goal = (algebra_of p).goal in
    let count = length (arguments_of p.grammar rule alternative) in
    let all = map (turned goal) lowered.factors in
    let size = turned_low goal lowered.constant in
    let long : length (take count all) ≡ count = omega (arith, enough, length-take count all, length-map lowered.factors (turned goal)) in
    let V : Term → List ℤ → Type 0 = λ it values. turned goal (term_value it values) ≡ (turned goal lowered.constant +ℤ weighted_sum (take count all) values) in
    let M : Term → List ℕ → Type 0 = λ it numbers. nat_abs (turned goal lowered.constant) + weighted_total (take count all) numbers ≤ magnitude it numbers in
    let sum_is : (values : List ℤ) → length values ≡ count → weighted_sum all values ≡ weighted_sum (take count all) values =
    λ values many. sym (law.sums all values) ∙ ap (λ n. weighted_sum (take n all) values) many in
    let turned_scored : IsScoredBy p rule alternative (turned goal lowered.constant) (take count all) = record {
      each = long;
      value = λ values many.
          subst (λ it. V it values) term_is
          (ap (turned goal) (is.value values) ∙ turned_sum goal lowered.constant (weighted_sum lowered.factors values)
          ∙ ap (λ it. turned goal lowered.constant +ℤ it) (turned_weighted goal lowered.factors values ∙ sum_is values many));
      low = λ numbers many.
          let total_is : weighted_total (take count all) numbers ≡ weighted_total lowered.factors numbers =
          ap (λ n. weighted_total (take n all) numbers) (sym many) ∙ law.totals all numbers ∙ turned_total goal lowered.factors numbers in
          let low = is.low numbers in
          subst (λ it. M it numbers) term_is (omega arith);
    } in
    subst (λ (c : ℤ). IsScoredBy p rule alternative c factors) (sym constant_is)
    (subst (λ (fs : List ℤ). IsScoredBy p rule alternative (turned goal lowered.constant) fs) factors_are turned_scored)
