-- Values that stand twice in a wide term.
use Rattle.std.proofs.Common.{◌≡◌, ℕ, ℤ, Bool, true, false, not, ◌&&◌, ◌||◌, ◌⊎◌, inl, inr, List, [], ◌∷◌, ◌++◌, refl, sym, ap, subst, ◌∙◌, eqb-true, eq-eqb}
use Rattle.std.specs.List.{list_any}
use Rattle.std.proofs.lemmas.List.Folds.{list_any-append}
use Rattle.adp_model.specs.WideForm as wide
use Rattle.adp_model.specs.WideForm.{Number, Value, Sum, Difference, Product, Greater, Lesser}
use Rattle.adp_model.specs.Terms.{leaves}
use Rattle.adp_model.specs.WellFormed.{is_same_value, are_apart, has_no_value_twice}
use Rattle.adp_model.proofs.WellFormedParts.{and_first, and_second}

shuffle : (a b h p y : Bool) → (not (a || b) && (h && p && y)) ≡ ((not a && h) && (not b && p) && y)
shuffle true b h p y = refl
shuffle false true true p y = refl
shuffle false true false p y = refl
shuffle false false h p y = refl

pub once_apart : (xs ys : List wide.WideForm) → has_no_value_twice (xs ++ ys) ≡ (has_no_value_twice xs && are_apart xs ys && has_no_value_twice ys)
once_apart [] ys = refl
once_apart (x ∷ xs) ys =
    ap (λ b. not b && has_no_value_twice (xs ++ ys)) (list_any-append (is_same_value x) xs ys)
    ∙ ap (λ b. not (list_any (is_same_value x) xs || list_any (is_same_value x) ys) && b) (once_apart xs ys)
    ∙ shuffle (list_any (is_same_value x) xs) (list_any (is_same_value x) ys) (has_no_value_twice xs) (are_apart xs ys) (has_no_value_twice ys)

-- a number is no value
pub numbers_differ : (number : ℤ) (others : List wide.WideForm) → list_any (is_same_value (Number number)) others ≡ false
numbers_differ number [] = refl
numbers_differ number (other ∷ others) = numbers_differ number others

-- the value of the argument at this place stands in the term
abbrev pub IsNamed : ℕ → wide.WideForm → Type 0
IsNamed place (Number number) = ⊥
IsNamed place (Value other) = place ≡ other
IsNamed place (Sum left right) = IsNamed place left ⊎ IsNamed place right
IsNamed place (Difference left right) = IsNamed place left ⊎ IsNamed place right
IsNamed place (Product left right) = IsNamed place left ⊎ IsNamed place right
IsNamed place (Greater left right) = IsNamed place left ⊎ IsNamed place right
IsNamed place (Lesser left right) = IsNamed place left ⊎ IsNamed place right

or_left : (a b : Bool) → a ≡ true → (a || b) ≡ true
or_left true b h = refl
or_left false b h = absurd cc

or_right : (a b : Bool) → b ≡ true → (a || b) ≡ true
or_right true b h = refl
or_right false b h = h

among_both : (place : ℕ) (xs ys : List wide.WideForm) → (list_any (is_same_value (Value place)) xs ≡ true) ⊎ (list_any (is_same_value (Value place)) ys ≡ true) → list_any (is_same_value (Value place)) (xs ++ ys) ≡ true
among_both place xs ys (inl h) = list_any-append (is_same_value (Value place)) xs ys ∙ or_left _ _ h
among_both place xs ys (inr h) = list_any-append (is_same_value (Value place)) xs ys ∙ or_right (list_any (is_same_value (Value place)) xs) _ h

among_sides : (place : ℕ) (left right : wide.WideForm) → (IsNamed place left → list_any (is_same_value (Value place)) (leaves left) ≡ true) → (IsNamed place right → list_any (is_same_value (Value place)) (leaves right) ≡ true) → IsNamed place left ⊎ IsNamed place right → list_any (is_same_value (Value place)) (leaves left ++ leaves right) ≡ true
among_sides place left right first second (inl h) = among_both place (leaves left) (leaves right) (inl (first h))
among_sides place left right first second (inr h) = among_both place (leaves left) (leaves right) (inr (second h))

pub among : (place : ℕ) (term : wide.WideForm) → IsNamed place term → list_any (is_same_value (Value place)) (leaves term) ≡ true
among place (Number number) h = absurd h
among place (Value other) h = or_left _ _ (eq-eqb place other h)
among place (Sum left right) h = among_sides place left right (among place left) (among place right) h
among place (Difference left right) h = among_sides place left right (among place left) (among place right) h
among place (Product left right) h = among_sides place left right (among place left) (among place right) h
among place (Greater left right) h = among_sides place left right (among place left) (among place right) h
among place (Lesser left right) h = among_sides place left right (among place left) (among place right) h

by_first : {P : Type 0} (a b : Bool) → (a || b) ≡ true → (a ≡ true → P) → (b ≡ true → P) → P
by_first true b h f g = f refl
by_first false b h f g = g h

not_both : (b : Bool) → not b ≡ true → b ≡ true → ⊥
not_both true h k = absurd cc
not_both false h k = absurd cc

apart_at : (place : ℕ) (x : wide.WideForm) (ys : List wide.WideForm) → not (list_any (is_same_value x) ys) ≡ true → is_same_value (Value place) x ≡ true → list_any (is_same_value (Value place)) ys ≡ true → ⊥
apart_at place (Number number) ys h same k = absurd cc
apart_at place (Value other) ys h same k =
    not_both (list_any (is_same_value (Value other)) ys) h (subst (λ n. list_any (is_same_value (Value n)) ys ≡ true) (eqb-true place other same) k)
apart_at place (Sum left right) ys h same k = absurd cc
apart_at place (Difference left right) ys h same k = absurd cc
apart_at place (Product left right) ys h same k = absurd cc
apart_at place (Greater left right) ys h same k = absurd cc
apart_at place (Lesser left right) ys h same k = absurd cc

apart_lists : (place : ℕ) (xs ys : List wide.WideForm) → are_apart xs ys ≡ true → list_any (is_same_value (Value place)) xs ≡ true → list_any (is_same_value (Value place)) ys ≡ true → ⊥
apart_lists place [] ys h k l = absurd cc
apart_lists place (x ∷ xs) ys h k l =
    by_first (is_same_value (Value place) x) (list_any (is_same_value (Value place)) xs) k
    (λ same. apart_at place x ys (and_first (not (list_any (is_same_value x) ys)) (are_apart xs ys) h) same l)
    (λ behind. apart_lists place xs ys (and_second (not (list_any (is_same_value x) ys)) (are_apart xs ys) h) behind l)

-- what is so of the sides of a term in which no value stands twice
pub record AreOnce (left right : wide.WideForm) : Type 0 where
  pub left_once : has_no_value_twice (leaves left) ≡ true
  pub right_once : has_no_value_twice (leaves right) ≡ true
  pub apart : (place : ℕ) → IsNamed place left → IsNamed place right → ⊥

pub AreOnce-sides : (left right : wide.WideForm) → has_no_value_twice (leaves left ++ leaves right) ≡ true → AreOnce left right
AreOnce-sides left right h =
    let all : (has_no_value_twice (leaves left) && are_apart (leaves left) (leaves right) && has_no_value_twice (leaves right)) ≡ true = sym (once_apart (leaves left) (leaves right)) ∙ h in
    let two = and_first (has_no_value_twice (leaves left) && are_apart (leaves left) (leaves right)) (has_no_value_twice (leaves right)) all in
    record {
      left_once = and_first (has_no_value_twice (leaves left)) (are_apart (leaves left) (leaves right)) two;
      right_once = and_second (has_no_value_twice (leaves left) && are_apart (leaves left) (leaves right)) (has_no_value_twice (leaves right)) all;
      apart = λ place named named'. apart_lists place (leaves left) (leaves right) (and_second (has_no_value_twice (leaves left)) (are_apart (leaves left) (leaves right)) two) (among place left named) (among place right named');
    }
