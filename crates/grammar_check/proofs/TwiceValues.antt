-- A wide term in which no value stands twice names no argument on both sides of a node.
use Rattle.std.proofs.Common.{◌≡◌, ℕ, ◌<◌, Bool, true, false, not, ◌&&◌, ◌||◌, ◌⊎◌, inl, inr, List, [], ◌∷◌, ◌++◌, refl, sym, ap, subst, ◌∙◌, eqb-true, eq-eqb}
use Rattle.std.specs.List.{AllByRecursion, list_any}
use Rattle.std.proofs.lemmas.List.Folds.{list_any-append}
use Rattle.adp_model.specs.WideForm as wide
use Rattle.adp_model.specs.WideForm.{Number, Value, Sum, Difference, Product, Greater, Lesser}
use Rattle.adp_model.specs.Terms.{leaves}
use Rattle.adp_model.specs.WellFormed.{is_same_value, are_apart, has_no_value_twice}
use Rattle.adp_model.specs.TermForms.{IsLeafFor}
use Rattle.grammar_check.specs.TermSpreads.{names}
use Rattle.grammar_check.proofs.TermWays.{IsOnce}

and_first : (a b : Bool) → (a && b) ≡ true → a ≡ true
and_first true b e = refl
and_first false b e = absurd cc

and_second : (a b : Bool) → (a && b) ≡ true → b ≡ true
and_second true b e = e
and_second false b e = absurd cc

shuffle : (a b h p y : Bool) → (not (a || b) && (h && p && y)) ≡ ((not a && h) && (not b && p) && y)
shuffle true b h p y = refl
shuffle false true true p y = refl
shuffle false true false p y = refl
shuffle false false h p y = refl

once_apart : (xs ys : List wide.WideForm) → has_no_value_twice (xs ++ ys) ≡ (has_no_value_twice xs && are_apart xs ys && has_no_value_twice ys)
once_apart [] ys = refl
once_apart (x ∷ xs) ys =
    ap (λ b. not b && has_no_value_twice (xs ++ ys)) (list_any-append (is_same_value x) xs ys)
    ∙ ap (λ b. not (list_any (is_same_value x) xs || list_any (is_same_value x) ys) && b) (once_apart xs ys)
    ∙ shuffle (list_any (is_same_value x) xs) (list_any (is_same_value x) ys) (has_no_value_twice xs) (are_apart xs ys) (has_no_value_twice ys)

or_left : (a b : Bool) → a ≡ true → (a || b) ≡ true
or_left true b h = refl
or_left false b h = absurd cc

or_right : (a b : Bool) → b ≡ true → (a || b) ≡ true
or_right true b h = refl
or_right false b h = h

among_both : (place : ℕ) (xs ys : List wide.WideForm) → (list_any (is_same_value (Value place)) xs ≡ true) ⊎ (list_any (is_same_value (Value place)) ys ≡ true) → list_any (is_same_value (Value place)) (xs ++ ys) ≡ true
among_both place xs ys (inl h) = list_any-append (is_same_value (Value place)) xs ys ∙ or_left _ _ h
among_both place xs ys (inr h) = list_any-append (is_same_value (Value place)) xs ys ∙ or_right (list_any (is_same_value (Value place)) xs) _ h

either_true : (a b : Bool) → (a || b) ≡ true → (a ≡ true) ⊎ (b ≡ true)
either_true true b h = inl refl
either_true false b h = inr h

among_sides : (place : ℕ) (left right : wide.WideForm) → (names left place ≡ true → list_any (is_same_value (Value place)) (leaves left) ≡ true) → (names right place ≡ true → list_any (is_same_value (Value place)) (leaves right) ≡ true) → (names left place || names right place) ≡ true → list_any (is_same_value (Value place)) (leaves left ++ leaves right) ≡ true
among_sides place left right first second h = by (either_true (names left place) (names right place) h)
  where
    by : (names left place ≡ true) ⊎ (names right place ≡ true) → list_any (is_same_value (Value place)) (leaves left ++ leaves right) ≡ true
    by (inl e) = among_both place (leaves left) (leaves right) (inl (first e))
    by (inr e) = among_both place (leaves left) (leaves right) (inr (second e))

among : (place : ℕ) (term : wide.WideForm) → names term place ≡ true → list_any (is_same_value (Value place)) (leaves term) ≡ true
among place (Number number) h = absurd cc
among place (Value other) h = or_left _ _ (eq-eqb place other (sym (eqb-true other place h)))
among place (Sum left right) h = among_sides place left right (among place left) (among place right) h
among place (Difference left right) h = among_sides place left right (among place left) (among place right) h
among place (Product left right) h = among_sides place left right (among place left) (among place right) h
among place (Greater left right) h = among_sides place left right (among place left) (among place right) h
among place (Lesser left right) h = among_sides place left right (among place left) (among place right) h

by_first : {P : Type 0} (a b : Bool) → (a || b) ≡ true → (a ≡ true → P) → (b ≡ true → P) → P
by_first true b h f g = f refl
by_first false b h f g = g h

not_both : (b : Bool) → not b ≡ true → b ≡ true → ⊥
not_both true h k = absurd cc
not_both false h k = absurd cc

apart_at : (place : ℕ) (x : wide.WideForm) (ys : List wide.WideForm) → not (list_any (is_same_value x) ys) ≡ true → is_same_value (Value place) x ≡ true → list_any (is_same_value (Value place)) ys ≡ true → ⊥
apart_at place (Number number) ys h same k = absurd cc
apart_at place (Value other) ys h same k =
    not_both (list_any (is_same_value (Value other)) ys) h (subst (λ n. list_any (is_same_value (Value n)) ys ≡ true) (eqb-true place other same) k)
apart_at place (Sum left right) ys h same k = absurd cc
apart_at place (Difference left right) ys h same k = absurd cc
apart_at place (Product left right) ys h same k = absurd cc
apart_at place (Greater left right) ys h same k = absurd cc
apart_at place (Lesser left right) ys h same k = absurd cc

apart_lists : (place : ℕ) (xs ys : List wide.WideForm) → are_apart xs ys ≡ true → list_any (is_same_value (Value place)) xs ≡ true → list_any (is_same_value (Value place)) ys ≡ true → ⊥
apart_lists place [] ys h k l = absurd cc
apart_lists place (x ∷ xs) ys h k l =
    by_first (is_same_value (Value place) x) (list_any (is_same_value (Value place)) xs) k
    (λ same. apart_at place x ys (and_first (not (list_any (is_same_value x) ys)) (are_apart xs ys) h) same l)
    (λ behind. apart_lists place xs ys (and_second (not (list_any (is_same_value x) ys)) (are_apart xs ys) h) behind l)

-- what is so of the sides of a term in which no value stands twice
record AreOnce (left right : wide.WideForm) : Type 0 where
  left_once : has_no_value_twice (leaves left) ≡ true
  right_once : has_no_value_twice (leaves right) ≡ true
  apart : (place : ℕ) → names left place ≡ true → names right place ≡ true → ⊥

AreOnce-sides : (left right : wide.WideForm) → has_no_value_twice (leaves left ++ leaves right) ≡ true → AreOnce left right
AreOnce-sides left right h =
    let all : (has_no_value_twice (leaves left) && are_apart (leaves left) (leaves right) && has_no_value_twice (leaves right)) ≡ true = sym (once_apart (leaves left) (leaves right)) ∙ h in
    let two = and_first (has_no_value_twice (leaves left) && are_apart (leaves left) (leaves right)) (has_no_value_twice (leaves right)) all in
    record {
      left_once = and_first (has_no_value_twice (leaves left)) (are_apart (leaves left) (leaves right)) two;
      right_once = and_second (has_no_value_twice (leaves left) && are_apart (leaves left) (leaves right)) (has_no_value_twice (leaves right)) all;
      apart = λ place named named'. apart_lists place (leaves left) (leaves right) (and_second (has_no_value_twice (leaves left)) (are_apart (leaves left) (leaves right)) two) (among place left named) (among place right named');
    }

both_once : (left right : wide.WideForm) → has_no_value_twice (leaves left ++ leaves right) ≡ true → (has_no_value_twice (leaves left) ≡ true → IsOnce left) → (has_no_value_twice (leaves right) ≡ true → IsOnce right) → IsOnce left × IsOnce right × ((place : ℕ) → names left place ≡ true → names right place ≡ true → ⊥)
both_once left right h one other =
    let sides = AreOnce-sides left right h in
    (one sides.left_once, other sides.right_once, sides.apart)

pub once_in : (term : wide.WideForm) → has_no_value_twice (leaves term) ≡ true → IsOnce term
once_in (Number number) h = tt
once_in (Value place) h = tt
once_in (Sum left right) h = both_once left right h (once_in left) (once_in right)
once_in (Difference left right) h = both_once left right h (once_in left) (once_in right)
once_in (Product left right) h = both_once left right h (once_in left) (once_in right)
once_in (Greater left right) h = both_once left right h (once_in left) (once_in right)
once_in (Lesser left right) h = both_once left right h (once_in left) (once_in right)

all_first : {A : Type 0} (P : A → Type 0) (xs ys : List A) → AllByRecursion P (xs ++ ys) → AllByRecursion P xs
all_first P [] ys h = tt
all_first P (x ∷ xs) ys h = (h.0, all_first P xs ys h.1)

all_second : {A : Type 0} (P : A → Type 0) (xs ys : List A) → AllByRecursion P (xs ++ ys) → AllByRecursion P ys
all_second P [] ys h = h
all_second P (x ∷ xs) ys h = all_second P xs ys h.1

within_sides : (count place : ℕ) (left right : wide.WideForm) → (names left place ≡ true → place < count) → (names right place ≡ true → place < count) → (names left place || names right place) ≡ true → place < count
within_sides count place left right one other h = by (either_true (names left place) (names right place) h)
  where
    by : (names left place ≡ true) ⊎ (names right place ≡ true) → place < count
    by (inl e) = one e
    by (inr e) = other e

-- a term for so many arguments names only these
pub within : (count : ℕ) (term : wide.WideForm) → AllByRecursion (IsLeafFor count) (leaves term) → (place : ℕ) → names term place ≡ true → place < count
within count (Number number) h place named = absurd cc
within count (Value other) h place named = subst (λ n. n < count) (eqb-true other place named) h.0
within count (Sum left right) h place named = within_sides count place left right (within count left (all_first _ _ _ h) place) (within count right (all_second _ (leaves left) _ h) place) named
within count (Difference left right) h place named = within_sides count place left right (within count left (all_first _ _ _ h) place) (within count right (all_second _ (leaves left) _ h) place) named
within count (Product left right) h place named = within_sides count place left right (within count left (all_first _ _ _ h) place) (within count right (all_second _ (leaves left) _ h) place) named
within count (Greater left right) h place named = within_sides count place left right (within count left (all_first _ _ _ h) place) (within count right (all_second _ (leaves left) _ h) place) named
within count (Lesser left right) h place named = within_sides count place left right (within count left (all_first _ _ _ h) place) (within count right (all_second _ (leaves left) _ h) place) named
