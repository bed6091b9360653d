-- Wide terms: their signs, their magnitude, and that they keep the order of scores.
use Rattle.std.proofs.Common.{◌≡◌, ℕ, zero, suc, ◌*◌, ◌≤◌, max, Bool, true, false, ◌||◌, inl, inr, ℤ, pos, negsuc, ◌*ℤ◌, ◌≤ℤ◌, nat_abs, List, [], ◌∷◌, map, slice_index, slice_index_or, refl, subst, arith}
use Rattle.std.proofs.Math.Nat.{mul-le-mul, mul-le-mul_right}
use Rattle.std.proofs.lemmas.Int.{ints, clamps, unsigned_abs-mul}
use Rattle.adp_model.specs.declared.grammar.Kind.{Kind}
use Rattle.adp_model.specs.declared.grammar.Kind.TheVariants.{Score, Token}
use Rattle.adp_model.specs.WideForm as wide
use Rattle.adp_model.specs.WideForm.{Number, Value, Sum, Difference, Product, Greater, Lesser}
use Rattle.adp_model.specs.Terms.{wide_value, wide_magnitude, AreAtMost, AreValues}
use Rattle.adp_model.specs.TermSigns.{kind_at, NamesNoScore, is_proved_not_negative, Rises, HasKnownSign}
use Rattle.adp_model.proofs.Monotone.{times_at_most}
use Rattle.adp_model.proofs.WellFormedParts.{and_first, and_second}

-- ---- numbers

times_from_zero : (a b : ℤ) → pos 0 ≤ℤ a → pos 0 ≤ℤ b → pos 0 ≤ℤ (a *ℤ b)
times_from_zero (pos a) (pos b) h k = omega (arith, ints)
times_from_zero (pos a) (negsuc b) h k = absurd (omega (arith, ints))
times_from_zero (negsuc a) b h k = absurd (omega (arith, ints))

times_rise : (a b c d : ℤ) → pos 0 ≤ℤ a → pos 0 ≤ℤ c → a ≤ℤ b → c ≤ℤ d → (a *ℤ c) ≤ℤ (b *ℤ d)
times_rise (pos a) (pos b) (pos c) (pos d) h k l m =
    let product : a * c ≤ b * d = mul-le-mul (omega (arith, ints)) (omega (arith, ints)) in omega (arith, ints)
times_rise (pos a) (pos b) (pos c) (negsuc d) h k l m = absurd (omega (arith, ints))
times_rise (pos a) (pos b) (negsuc c) d h k l m = absurd (omega (arith, ints))
times_rise (pos a) (negsuc b) c d h k l m = absurd (omega (arith, ints))
times_rise (negsuc a) b c d h k l m = absurd (omega (arith, ints))

pub times_at_most_right : (factor a b : ℤ) → pos 0 ≤ℤ factor → a ≤ℤ b → (a *ℤ factor) ≤ℤ (b *ℤ factor)
times_at_most_right (pos n) (pos a) (pos b) h k = let m : a * n ≤ b * n = mul-le-mul_right n (omega (arith, ints)) in omega (arith, ints)
times_at_most_right (pos n) (pos a) (negsuc b) h k = absurd (omega (arith, ints))
times_at_most_right (pos n) (negsuc a) (pos b) h k = omega (arith, ints)
times_at_most_right (pos n) (negsuc a) (negsuc b) h k = let m : suc b * n ≤ suc a * n = mul-le-mul_right n (omega (arith, ints)) in omega (arith, ints)
times_at_most_right (negsuc n) a b h k = absurd (omega (arith, ints))

-- ---- signs

either : {P : Type 0} (a b : Bool) → (a || b) ≡ true → (a ≡ true → P) → (b ≡ true → P) → P
either true b h f g = f refl
either false b h f g = g h

value_signed : (known : Kind → Bool) (kinds : List Kind) (values : List ℤ) (place : ℕ) → AreValues (HasKnownSign known) kinds values → known (kind_at kinds place) ≡ true → pos 0 ≤ℤ slice_index_or values place (pos 0)
value_signed known [] [] place are h = omega (arith, ints)
value_signed known [] (value ∷ values) place are h = absurd are
value_signed known (kind ∷ kinds) [] place are h = absurd are
value_signed known (kind ∷ kinds) (value ∷ values) zero are h = are.0 h
value_signed known (kind ∷ kinds) (value ∷ values) (suc place) are h = value_signed known kinds values place are.1 h

module _ (known : Kind → Bool) (kinds : List Kind) (values : List ℤ) (are : AreValues (HasKnownSign known) kinds values) where
  pub not_negative : (term : wide.WideForm) → is_proved_not_negative known kinds term ≡ true → pos 0 ≤ℤ wide_value term values
  not_negative (Number number) h = omega (arith, ints, h)
  not_negative (Value place) h = value_signed known kinds values place are h
  not_negative (Sum left right) h = let l = not_negative left (and_first _ _ h) in let r = not_negative right (and_second (is_proved_not_negative known kinds left) _ h) in omega (arith, ints, l, r)
  not_negative (Difference left right) h = absurd cc
  not_negative (Product left right) h = times_from_zero _ _ (not_negative left (and_first _ _ h)) (not_negative right (and_second (is_proved_not_negative known kinds left) _ h))
  not_negative (Greater left right) h = either (is_proved_not_negative known kinds left) _ h
      (λ l. let found = not_negative left l in omega (arith, ints, clamps, found))
      (λ r. let found = not_negative right r in omega (arith, ints, clamps, found))
  not_negative (Lesser left right) h = let l = not_negative left (and_first _ _ h) in let r = not_negative right (and_second (is_proved_not_negative known kinds left) _ h) in omega (arith, ints, clamps, l, r)

-- ---- order

pub value_at_most : (kinds : List Kind) (values values' : List ℤ) (place : ℕ) → AreAtMost kinds values values' → slice_index_or values place (pos 0) ≤ℤ slice_index_or values' place (pos 0)
value_at_most [] [] [] place h = omega (arith, ints)
value_at_most [] [] (value' ∷ values') place h = absurd h
value_at_most [] (value ∷ values) values' place h = absurd h
value_at_most (Score ∷ kinds) [] values' place h = absurd h
value_at_most (Token ∷ kinds) [] values' place h = absurd h
value_at_most (Score ∷ kinds) (value ∷ values) [] place h = absurd h
value_at_most (Token ∷ kinds) (value ∷ values) [] place h = absurd h
value_at_most (Score ∷ kinds) (value ∷ values) (value' ∷ values') zero h = h.0
value_at_most (Token ∷ kinds) (value ∷ values) (value' ∷ values') zero h = omega (arith, ints, h.0)
value_at_most (Score ∷ kinds) (value ∷ values) (value' ∷ values') (suc place) h = value_at_most kinds values values' place h.1
value_at_most (Token ∷ kinds) (value ∷ values) (value' ∷ values') (suc place) h = value_at_most kinds values values' place h.1

value_same : (kinds : List Kind) (values values' : List ℤ) (place : ℕ) → AreAtMost kinds values values' → kind_at kinds place ≡ Token → slice_index_or values place (pos 0) ≡ slice_index_or values' place (pos 0)
value_same [] [] [] place h token = refl
value_same [] [] (value' ∷ values') place h token = absurd h
value_same [] (value ∷ values) values' place h token = absurd h
value_same (Score ∷ kinds) [] values' place h token = absurd h
value_same (Token ∷ kinds) [] values' place h token = absurd h
value_same (Score ∷ kinds) (value ∷ values) [] place h token = absurd h
value_same (Token ∷ kinds) (value ∷ values) [] place h token = absurd h
value_same (Score ∷ kinds) (value ∷ values) (value' ∷ values') zero h token = absurd cc
value_same (Token ∷ kinds) (value ∷ values) (value' ∷ values') zero h token = h.0
value_same (Score ∷ kinds) (value ∷ values) (value' ∷ values') (suc place) h token = value_same kinds values values' place h.1 token
value_same (Token ∷ kinds) (value ∷ values) (value' ∷ values') (suc place) h token = value_same kinds values values' place h.1 token

module _ (kinds : List Kind) (values values' : List ℤ) (at_most : AreAtMost kinds values values') where
  -- a term that names no score has the same value
  pub same_value : (term : wide.WideForm) → NamesNoScore kinds term → wide_value term values ≡ wide_value term values'
  same_value (Number number) h = refl
  same_value (Value place) h = value_same kinds values values' place at_most h
  same_value (Sum left right) h = let l = same_value left h.0 in let r = same_value right h.1 in cc
  same_value (Difference left right) h = let l = same_value left h.0 in let r = same_value right h.1 in cc
  same_value (Product left right) h = let l = same_value left h.0 in let r = same_value right h.1 in cc
  same_value (Greater left right) h = let l = same_value left h.0 in let r = same_value right h.1 in cc
  same_value (Lesser left right) h = let l = same_value left h.0 in let r = same_value right h.1 in cc

  module _ (known : Kind → Bool) (are : AreValues (HasKnownSign known) kinds values) where
    -- a term that rises by its form has no lesser value
    pub rises : (term : wide.WideForm) → Rises known kinds term → wide_value term values ≤ℤ wide_value term values'
    rises (Number number) h = omega (arith, ints)
    rises (Value place) h = value_at_most kinds values values' place at_most
    rises (Sum left right) h = omega (arith, ints, rises left h.0, rises right h.1)
    rises (Difference left right) h = omega (arith, ints, rises left h.0, same_value right h.1)
    rises (Product left right) (inl h) =
        let l = same_value left h.0 in
        let r = same_value right h.1 in
        let same : (wide_value left values *ℤ wide_value right values) ≡ (wide_value left values' *ℤ wide_value right values') = cc in
        subst (λ x. (wide_value left values *ℤ wide_value right values) ≤ℤ x) same (omega (arith, ints))
    rises (Product left right) (inr (inl h)) =
        subst (λ x. (wide_value left values *ℤ wide_value right values) ≤ℤ (x *ℤ wide_value right values')) (same_value left h.0.0)
        (times_at_most (wide_value left values) _ _ (not_negative known kinds values are left h.0.1) (rises right h.1))
    rises (Product left right) (inr (inr (inl h))) =
        subst (λ x. (wide_value left values *ℤ wide_value right values) ≤ℤ (wide_value left values' *ℤ x)) (same_value right h.1.0)
        (times_at_most_right (wide_value right values) _ _ (not_negative known kinds values are right h.1.1) (rises left h.0))
    rises (Product left right) (inr (inr (inr h))) =
        times_rise _ _ _ _ (not_negative known kinds values are left h.2) (not_negative known kinds values are right h.3) (rises left h.0) (rises right h.1)
    rises (Greater left right) h = omega (arith, ints, clamps, rises left h.0, rises right h.1)
    rises (Lesser left right) h = omega (arith, ints, clamps, rises left h.0, rises right h.1)

-- ---- magnitude

-- each number is at most its counterpart
abbrev pub AreUpTo : List ℕ → List ℕ → Type 0
AreUpTo [] others = Unit {0}
AreUpTo (number ∷ numbers) [] = ⊥
AreUpTo (number ∷ numbers) (other ∷ others) = (number ≤ other) × AreUpTo numbers others

number_up_to : (numbers others : List ℕ) (place : ℕ) → AreUpTo numbers others → slice_index numbers place ≤ slice_index others place
number_up_to [] others place h = omega arith
number_up_to (number ∷ numbers) [] place h = absurd h
number_up_to (number ∷ numbers) (other ∷ others) zero h = h.0
number_up_to (number ∷ numbers) (other ∷ others) (suc place) h = number_up_to numbers others place h.1

-- greater numbers give no lesser magnitude
pub wide_grows : (term : wide.WideForm) (numbers others : List ℕ) → AreUpTo numbers others → wide_magnitude term numbers ≤ wide_magnitude term others
wide_grows (Number number) numbers others h = omega arith
wide_grows (Value place) numbers others h = number_up_to numbers others place h
wide_grows (Sum left right) numbers others h = omega (arith, wide_grows left numbers others h, wide_grows right numbers others h)
wide_grows (Difference left right) numbers others h = omega (arith, wide_grows left numbers others h, wide_grows right numbers others h)
wide_grows (Product left right) numbers others h =
    let l = wide_grows left numbers others h in
    let r = wide_grows right numbers others h in
    mul-le-mul (omega (arith, l)) (omega (arith, r))
wide_grows (Greater left right) numbers others h = omega (arith, wide_grows left numbers others h, wide_grows right numbers others h)
wide_grows (Lesser left right) numbers others h = omega (arith, wide_grows left numbers others h, wide_grows right numbers others h)

number_of_value : (values : List ℤ) (place : ℕ) → nat_abs (slice_index_or values place (pos 0)) ≡ slice_index (map nat_abs values) place
number_of_value [] place = refl
number_of_value (value ∷ values) zero = refl
number_of_value (value ∷ values) (suc place) = number_of_value values place

-- the value of a wide term is within its magnitude
pub wide_within : (term : wide.WideForm) (values : List ℤ) → nat_abs (wide_value term values) ≤ wide_magnitude term (map nat_abs values)
wide_within (Number number) values = omega arith
wide_within (Value place) values = omega (arith, number_of_value values place)
wide_within (Sum left right) values = omega (arith, ints, wide_within left values, wide_within right values)
wide_within (Difference left right) values = omega (arith, ints, wide_within left values, wide_within right values)
wide_within (Product left right) values =
    let l = wide_within left values in
    let r = wide_within right values in
    let product = unsigned_abs-mul (wide_value left values) (wide_value right values) in
    let both : nat_abs (wide_value left values) * nat_abs (wide_value right values) ≤ max 1 (wide_magnitude left (map nat_abs values)) * max 1 (wide_magnitude right (map nat_abs values)) = mul-le-mul (omega (arith, l)) (omega (arith, r)) in
    omega (arith, product, both)
wide_within (Greater left right) values = omega (arith, ints, clamps, wide_within left values, wide_within right values)
wide_within (Lesser left right) values = omega (arith, ints, clamps, wide_within left values, wide_within right values)
