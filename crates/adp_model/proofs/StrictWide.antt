-- Wide terms that rise with each score.
use Rattle.std.proofs.Common.{◌≡◌, ℕ, zero, suc, ◌*◌, ◌<◌, ◌⊎◌, inl, inr, true, ℤ, pos, negsuc, ◌*ℤ◌, ◌≤ℤ◌, List, [], ◌∷◌, length, slice_index_or, refl, subst, arith}
use Rattle.std.specs.Prelude.{◌<ℤ◌}
use Rattle.std.specs.Int.{int_max, int_min}
use Rattle.std.proofs.Math.Nat.{mul-lt-mul_of_pos_left}
use Rattle.std.proofs.lemmas.Int.{ints}
use Rattle.adp_model.specs.declared.grammar.Kind.{Kind}
use Rattle.adp_model.specs.declared.grammar.Kind.TheVariants.{Score, Token}
use Rattle.adp_model.specs.WideForm as wide
use Rattle.adp_model.specs.WideForm.{Number, Value, Sum, Difference, Product, Greater, Lesser}
use Rattle.adp_model.specs.Terms.{leaves, wide_value, AreAtMost, SomeScoreIsLess}
use Rattle.adp_model.specs.TermSigns.{kind_at, NamesNoScore, IsPositiveNumber, RisesWith}
use Rattle.adp_model.specs.WellFormed.{has_no_value_twice}
use Rattle.adp_model.proofs.Monotone.{times_at_most}
use Rattle.adp_model.proofs.WideTerms.{same_value, times_at_most_right, value_at_most}
use Rattle.adp_model.proofs.TwiceValues.{IsNamed, AreOnce, AreOnce-sides}

-- ---- numbers

pub times_less : (factor a b : ℤ) → pos 1 ≤ℤ factor → a <ℤ b → (factor *ℤ a) <ℤ (factor *ℤ b)
times_less (pos n) (pos a) (pos b) h k = let m : n * a < n * b = mul-lt-mul_of_pos_left {m = a} {n = b} {k = n} (omega (arith, ints)) (omega (arith, ints)) in omega (arith, ints)
times_less (pos n) (pos a) (negsuc b) h k = absurd (omega (arith, ints))
times_less (pos n) (negsuc a) (pos b) h k = let m : n * zero < n * suc a = mul-lt-mul_of_pos_left {m = zero} {n = suc a} {k = n} (omega arith) (omega (arith, ints)) in omega (arith, ints)
times_less (pos n) (negsuc a) (negsuc b) h k = let m : n * suc b < n * suc a = mul-lt-mul_of_pos_left {m = suc b} {n = suc a} {k = n} (omega (arith, ints)) (omega (arith, ints)) in omega (arith, ints)
times_less (negsuc n) a b h k = absurd (omega (arith, ints))

times_less_right : (factor a b : ℤ) → pos 1 ≤ℤ factor → a <ℤ b → (a *ℤ factor) <ℤ (b *ℤ factor)
times_less_right (pos n) (pos a) (pos b) h k = let m : n * a < n * b = mul-lt-mul_of_pos_left {m = a} {n = b} {k = n} (omega (arith, ints)) (omega (arith, ints)) in omega (arith, ints)
times_less_right (pos n) (pos a) (negsuc b) h k = absurd (omega (arith, ints))
times_less_right (pos n) (negsuc a) (pos b) h k = let m : n * zero < n * suc a = mul-lt-mul_of_pos_left {m = zero} {n = suc a} {k = n} (omega arith) (omega (arith, ints)) in omega (arith, ints)
times_less_right (pos n) (negsuc a) (negsuc b) h k = let m : n * suc b < n * suc a = mul-lt-mul_of_pos_left {m = suc b} {n = suc a} {k = n} (omega (arith, ints)) (omega (arith, ints)) in omega (arith, ints)
times_less_right (negsuc n) a b h k = absurd (omega (arith, ints))

-- ---- arguments that stand in a term

-- a term rises with arguments that stand in it
named_by_rising : (place : ℕ) (term : wide.WideForm) → RisesWith place term → IsNamed place term
named_by_rising place (Number number) h = absurd h
named_by_rising place (Value other) h = h
named_by_rising place (Sum left right) (inl h) = inl (named_by_rising place left h)
named_by_rising place (Sum left right) (inr h) = inr (named_by_rising place right h)
named_by_rising place (Difference left right) h = inl (named_by_rising place left h)
named_by_rising place (Product left right) (inl h) = inl (named_by_rising place left h.0)
named_by_rising place (Product left right) (inr h) = inr (named_by_rising place right h.1)
named_by_rising place (Greater left right) h = absurd h
named_by_rising place (Lesser left right) h = absurd h

-- the term rises with each score that stands in it
abbrev RisesWithScores : List Kind → wide.WideForm → Type 0
RisesWithScores kinds term = (place : ℕ) → kind_at kinds place ≡ Score → IsNamed place term → RisesWith place term

-- no score stands in it
abbrev HasNoScore : List Kind → wide.WideForm → Type 0
HasNoScore kinds term = (place : ℕ) → kind_at kinds place ≡ Score → IsNamed place term → ⊥

kind_or : (kind : Kind) → (kind ≡ Score) ⊎ (kind ≡ Token)
kind_or Score = inl refl
kind_or Token = inr refl

names_none : (kinds : List Kind) (term : wide.WideForm) → HasNoScore kinds term → NamesNoScore kinds term
names_none kinds (Number number) none = tt
names_none kinds (Value place) none = by (kind_or (kind_at kinds place))
  where
    by : (kind_at kinds place ≡ Score) ⊎ (kind_at kinds place ≡ Token) → kind_at kinds place ≡ Token
    by (inl score) = absurd (none place score refl)
    by (inr token) = token
names_none kinds (Sum left right) none = (names_none kinds left (λ place score h. none place score (inl h)), names_none kinds right (λ place score h. none place score (inr h)))
names_none kinds (Difference left right) none = (names_none kinds left (λ place score h. none place score (inl h)), names_none kinds right (λ place score h. none place score (inr h)))
names_none kinds (Product left right) none = (names_none kinds left (λ place score h. none place score (inl h)), names_none kinds right (λ place score h. none place score (inr h)))
names_none kinds (Greater left right) none = (names_none kinds left (λ place score h. none place score (inl h)), names_none kinds right (λ place score h. none place score (inr h)))
names_none kinds (Lesser left right) none = (names_none kinds left (λ place score h. none place score (inl h)), names_none kinds right (λ place score h. none place score (inr h)))

-- ---- sides

sum_left : (kinds : List Kind) (left right : wide.WideForm) → AreOnce left right → ((place : ℕ) → kind_at kinds place ≡ Score → IsNamed place left ⊎ IsNamed place right → RisesWith place left ⊎ RisesWith place right) → RisesWithScores kinds left
sum_left kinds left right once all place score named = by (all place score (inl named))
  where
    by : RisesWith place left ⊎ RisesWith place right → RisesWith place left
    by (inl h) = h
    by (inr h) = absurd (once.apart place named (named_by_rising place right h))

sum_right : (kinds : List Kind) (left right : wide.WideForm) → AreOnce left right → ((place : ℕ) → kind_at kinds place ≡ Score → IsNamed place left ⊎ IsNamed place right → RisesWith place left ⊎ RisesWith place right) → RisesWithScores kinds right
sum_right kinds left right once all place score named = by (all place score (inr named))
  where
    by : RisesWith place left ⊎ RisesWith place right → RisesWith place right
    by (inl h) = absurd (once.apart place (named_by_rising place left h) named)
    by (inr h) = h

difference_right : (kinds : List Kind) (left right : wide.WideForm) → AreOnce left right → ((place : ℕ) → kind_at kinds place ≡ Score → IsNamed place left ⊎ IsNamed place right → RisesWith place left) → HasNoScore kinds right
difference_right kinds left right once all place score named = once.apart place (named_by_rising place left (all place score (inr named))) named

positive_or : (term : wide.WideForm) → IsPositiveNumber term ⊎ (IsPositiveNumber term → ⊥)
positive_or (Number (pos zero)) = inr (λ h. absurd (omega (arith, ints, h)))
positive_or (Number (pos (suc n))) = inl (omega (arith, ints))
positive_or (Number (negsuc n)) = inr (λ h. absurd (omega (arith, ints, h)))
positive_or (Value place) = inr (λ h. h)
positive_or (Sum left right) = inr (λ h. h)
positive_or (Difference left right) = inr (λ h. h)
positive_or (Product left right) = inr (λ h. h)
positive_or (Greater left right) = inr (λ h. h)
positive_or (Lesser left right) = inr (λ h. h)

positive_value : (term : wide.WideForm) (values values' : List ℤ) → IsPositiveNumber term → (pos 1 ≤ℤ wide_value term values) × (wide_value term values ≡ wide_value term values')
positive_value (Number number) values values' h = (h, refl)
positive_value (Value place) values values' h = absurd h
positive_value (Sum left right) values values' h = absurd h
positive_value (Difference left right) values values' h = absurd h
positive_value (Product left right) values values' h = absurd h
positive_value (Greater left right) values values' h = absurd h
positive_value (Lesser left right) values values' h = absurd h

none_in_positive : (place : ℕ) (term : wide.WideForm) → IsPositiveNumber term → IsNamed place term → ⊥
none_in_positive place (Number number) h named = named
none_in_positive place (Value other) h named = h
none_in_positive place (Sum left right) h named = h
none_in_positive place (Difference left right) h named = h
none_in_positive place (Product left right) h named = h
none_in_positive place (Greater left right) h named = h
none_in_positive place (Lesser left right) h named = h

-- how a product rises with the scores that stand in it
abbrev RisesAsProduct : List Kind → wide.WideForm → wide.WideForm → Type 0
RisesAsProduct kinds left right =
    (place : ℕ) → kind_at kinds place ≡ Score → IsNamed place left ⊎ IsNamed place right
    → (RisesWith place left × IsPositiveNumber right) ⊎ (IsPositiveNumber left × RisesWith place right)

product_left : (kinds : List Kind) (left right : wide.WideForm) → IsPositiveNumber right → RisesAsProduct kinds left right → RisesWithScores kinds left
product_left kinds left right positive all place score named = by (all place score (inl named))
  where
    by : (RisesWith place left × IsPositiveNumber right) ⊎ (IsPositiveNumber left × RisesWith place right) → RisesWith place left
    by (inl h) = h.0
    by (inr h) = absurd (none_in_positive place right positive (named_by_rising place right h.1))

product_right : (kinds : List Kind) (left right : wide.WideForm) → IsPositiveNumber left → RisesAsProduct kinds left right → RisesWithScores kinds right
product_right kinds left right positive all place score named = by (all place score (inr named))
  where
    by : (RisesWith place left × IsPositiveNumber right) ⊎ (IsPositiveNumber left × RisesWith place right) → RisesWith place right
    by (inl h) = absurd (none_in_positive place left positive (named_by_rising place left h.0))
    by (inr h) = h.1

product_none : (kinds : List Kind) (left right : wide.WideForm) → (IsPositiveNumber left → ⊥) → (IsPositiveNumber right → ⊥) → RisesAsProduct kinds left right → (place : ℕ) → kind_at kinds place ≡ Score → IsNamed place left ⊎ IsNamed place right → ⊥
product_none kinds left right not_left not_right all place score named = by (all place score named)
  where
    by : (RisesWith place left × IsPositiveNumber right) ⊎ (IsPositiveNumber left × RisesWith place right) → ⊥
    by (inl h) = not_right h.1
    by (inr h) = not_left h.0

-- ---- order

from_one : (a : ℤ) → pos 1 ≤ℤ a → pos 0 ≤ℤ a
from_one a h = omega (arith, ints)

module _ (kinds : List Kind) (values values' : List ℤ) (at_most : AreAtMost kinds values values') where
  same_at_most : (left right : wide.WideForm) (combine : ℤ → ℤ → ℤ) → HasNoScore kinds left → HasNoScore kinds right → combine (wide_value left values) (wide_value right values) ≤ℤ combine (wide_value left values') (wide_value right values')
  same_at_most left right combine none none' =
      let l = same_value kinds values values' at_most left (names_none kinds left none) in
      let r = same_value kinds values values' at_most right (names_none kinds right none') in
      let same : combine (wide_value left values) (wide_value right values) ≡ combine (wide_value left values') (wide_value right values') = (λ i. combine (l i) (r i)) in
      subst (λ x. combine (wide_value left values) (wide_value right values) ≤ℤ x) same (omega (arith, ints))

  product_at_most : (left right : wide.WideForm) → RisesAsProduct kinds left right → (RisesWithScores kinds left → wide_value left values ≤ℤ wide_value left values') → (RisesWithScores kinds right → wide_value right values ≤ℤ wide_value right values') → IsPositiveNumber left ⊎ (IsPositiveNumber left → ⊥) → IsPositiveNumber right ⊎ (IsPositiveNumber right → ⊥) → (wide_value left values *ℤ wide_value right values) ≤ℤ (wide_value left values' *ℤ wide_value right values')
  product_at_most left right all rises_left rises_right first (inl positive) =
      let number = positive_value right values values' positive in
      subst (λ x. (wide_value left values *ℤ wide_value right values) ≤ℤ (wide_value left values' *ℤ x)) number.1
      (times_at_most_right (wide_value right values) _ _ (from_one _ number.0) (rises_left (product_left kinds left right positive all)))
  product_at_most left right all rises_left rises_right (inl positive) (inr other) =
      let number = positive_value left values values' positive in
      subst (λ x. (wide_value left values *ℤ wide_value right values) ≤ℤ (x *ℤ wide_value right values')) number.1
      (times_at_most (wide_value left values) _ _ (from_one _ number.0) (rises_right (product_right kinds left right positive all)))
  product_at_most left right all rises_left rises_right (inr not_left) (inr not_right) =
      let none = product_none kinds left right not_left not_right all in
      same_at_most left right (λ a b. a *ℤ b) (λ place score named. none place score (inl named)) (λ place score named. none place score (inr named))

  at_most_of : (term : wide.WideForm) → has_no_value_twice (leaves term) ≡ true → RisesWithScores kinds term → wide_value term values ≤ℤ wide_value term values'
  at_most_of (Number number) once all = omega (arith, ints)
  at_most_of (Value place) once all = value_at_most kinds values values' place at_most
  at_most_of (Sum left right) once all =
      let sides = AreOnce-sides left right once in
      let l = at_most_of left sides.left_once (sum_left kinds left right sides all) in
      let r = at_most_of right sides.right_once (sum_right kinds left right sides all) in
      omega (arith, ints, l, r)
  at_most_of (Difference left right) once all =
      let sides = AreOnce-sides left right once in
      let l = at_most_of left sides.left_once (λ place score named. all place score (inl named)) in
      let r = same_value kinds values values' at_most right (names_none kinds right (difference_right kinds left right sides all)) in
      omega (arith, ints, l, r)
  at_most_of (Product left right) once all =
      let sides = AreOnce-sides left right once in
      product_at_most left right all (at_most_of left sides.left_once) (at_most_of right sides.right_once) (positive_or left) (positive_or right)
  at_most_of (Greater left right) once all = same_at_most left right int_max (λ place score named. all place score (inl named)) (λ place score named. all place score (inr named))
  at_most_of (Lesser left right) once all = same_at_most left right int_min (λ place score named. all place score (inl named)) (λ place score named. all place score (inr named))

  module _ (place : ℕ) (score : kind_at kinds place ≡ Score) (less : slice_index_or values place (pos 0) <ℤ slice_index_or values' place (pos 0)) where
    pub less_of : (term : wide.WideForm) → has_no_value_twice (leaves term) ≡ true → RisesWithScores kinds term → RisesWith place term → wide_value term values <ℤ wide_value term values'
    less_of (Number number) once all rising = absurd rising
    less_of (Value other) once all rising = subst (λ n. slice_index_or values n (pos 0) <ℤ slice_index_or values' n (pos 0)) rising less
    less_of (Sum left right) once all (inl rising) =
        let sides = AreOnce-sides left right once in
        let l = less_of left sides.left_once (sum_left kinds left right sides all) rising in
        let r = at_most_of right sides.right_once (sum_right kinds left right sides all) in
        omega (arith, ints, l, r)
    less_of (Sum left right) once all (inr rising) =
        let sides = AreOnce-sides left right once in
        let l = at_most_of left sides.left_once (sum_left kinds left right sides all) in
        let r = less_of right sides.right_once (sum_right kinds left right sides all) rising in
        omega (arith, ints, l, r)
    less_of (Difference left right) once all rising =
        let sides = AreOnce-sides left right once in
        let l = less_of left sides.left_once (λ place score named. all place score (inl named)) rising in
        let r = same_value kinds values values' at_most right (names_none kinds right (difference_right kinds left right sides all)) in
        omega (arith, ints, l, r)
    less_of (Product left right) once all (inl rising) =
        let sides = AreOnce-sides left right once in
        let number = positive_value right values values' rising.1 in
        subst (λ x. (wide_value left values *ℤ wide_value right values) <ℤ (wide_value left values' *ℤ x)) number.1
        (times_less_right (wide_value right values) _ _ number.0 (less_of left sides.left_once (product_left kinds left right rising.1 all) rising.0))
    less_of (Product left right) once all (inr rising) =
        let sides = AreOnce-sides left right once in
        let number = positive_value left values values' rising.0 in
        subst (λ x. (wide_value left values *ℤ wide_value right values) <ℤ (x *ℤ wide_value right values')) number.1
        (times_less (wide_value left values) _ _ number.0 (less_of right sides.right_once (product_right kinds left right rising.0 all) rising.1))
    less_of (Greater left right) once all rising = absurd rising
    less_of (Lesser left right) once all rising = absurd rising

-- a score that is less than its counterpart
record IsLess (kinds : List Kind) (values values' : List ℤ) : Type 0 where
  place : ℕ
  inside : place < length kinds
  score : kind_at kinds place ≡ Score
  less : slice_index_or values place (pos 0) <ℤ slice_index_or values' place (pos 0)

behind : (kind : Kind) (kinds : List Kind) (value value' : ℤ) (values values' : List ℤ) → IsLess kinds values values' → IsLess (kind ∷ kinds) (value ∷ values) (value' ∷ values')
behind kind kinds value value' values values' h = record { place = suc h.place; inside = (let i = h.inside in omega arith); score = h.score; less = h.less }

some_place : (kinds : List Kind) (values values' : List ℤ) → SomeScoreIsLess kinds values values' → IsLess kinds values values'
some_place [] values values' h = absurd h
some_place (Score ∷ kinds) [] values' h = absurd h
some_place (Token ∷ kinds) [] values' h = absurd h
some_place (Score ∷ kinds) (value ∷ values) [] h = absurd h
some_place (Token ∷ kinds) (value ∷ values) [] h = absurd h
some_place (Score ∷ kinds) (value ∷ values) (value' ∷ values') (inl less) = record { place = zero; inside = omega arith; score = refl; less = less }
some_place (Score ∷ kinds) (value ∷ values) (value' ∷ values') (inr some) = behind Score kinds value value' values values' (some_place kinds values values' some)
some_place (Token ∷ kinds) (value ∷ values) (value' ∷ values') some = behind Token kinds value value' values values' (some_place kinds values values' some)

score_inside : (kinds : List Kind) (place : ℕ) → kind_at kinds place ≡ Score → place < length kinds
score_inside [] place h = absurd cc
score_inside (kind ∷ kinds) zero h = omega arith
score_inside (kind ∷ kinds) (suc place) h = let i = score_inside kinds place h in omega arith

-- a term in which no value stands twice, and which rises with each score, keeps order strictly
pub wide_less : (term : wide.WideForm) (kinds : List Kind) (values values' : List ℤ) → has_no_value_twice (leaves term) ≡ true → ((place : ℕ) → place < length kinds → kind_at kinds place ≡ Score → RisesWith place term) → AreAtMost kinds values values' → SomeScoreIsLess kinds values values' → wide_value term values <ℤ wide_value term values'
wide_less term kinds values values' once strict at_most some =
    let one = some_place kinds values values' some in
    less_of kinds values values' at_most one.place one.score one.less term once
    (λ place score named. strict place (score_inside kinds place score) score) (strict one.place one.inside one.score)
