-- The first of some names that is the same, and maps that keep its number.
use Rattle.std.proofs.Common.{◌≡◌, ℕ, suc, Bool, true, false, ◌||◌, nat_eq, cond, Option, Some, None, is_some, List, [], ◌∷◌, ◌++◌, length, refl, sym, ◌∙◌, ap, ap₂, arith}
use Rattle.std.specs.List.{list_any, position}
use Rattle.std.specs.Option.{option_map, option_or, option_copied}
use Rattle.std.specs.Borrow.{Bor}
use Rattle.std.specs.Cmp.Lexicographic as lexicographic
use lib.Pointwise.{pointwise}
use Rattle.job_texts.specs.TermText.{is_among}

pub list_same : (text : List ℕ) → pointwise nat_eq text text ≡ true
list_same [] = refl
list_same (byte ∷ text) = let same : nat_eq byte byte ≡ true = grind arith in rw (same, list_same text) refl

pub same_text : (xs ys : List ℕ) → pointwise nat_eq xs ys ≡ true → xs ≡ ys
same_text xs ys h = lexicographic.same_text xs ys (sym h)

either_byte : (x y : ℕ) → nat_eq x y ≡ nat_eq y x
either_byte x y = grind arith

either_order : (xs ys : List ℕ) → pointwise nat_eq xs ys ≡ pointwise nat_eq ys xs
either_order [] [] = refl
either_order [] (y ∷ ys) = refl
either_order (x ∷ xs) [] = refl
either_order (x ∷ xs) (y ∷ ys) = rw (either_byte x y, either_order xs ys) refl

pub first_yes : {X : Type 0} (p : X → Bool) (x : X) (xs : List X) → p x ≡ true → position p (x ∷ xs) ≡ Some 0
first_yes p x xs h = grind (arith, h)

pub first_no : {X : Type 0} (p : X → Bool) (x : X) (xs : List X) → p x ≡ false → position p (x ∷ xs) ≡ option_map (λ n. suc n) (position p xs)
first_no p x xs h = grind (arith, h)

later : (found : Option ℕ) (passes : Bool) (n : ℕ)
    → option_map (λ n. suc n) (option_or found (cond passes (Some n) None)) ≡ option_or (option_map (λ n. suc n) found) (cond passes (Some (suc n)) None)
later None true n = refl
later None false n = refl
later (Some k) passes n = refl

-- one more item behind the others
pub first_of_more : {X : Type 0} (p : X → Bool) (xs : List X) (y : X) → position p (xs ++ y ∷ []) ≡ option_or (position p xs) (cond (p y) (Some (length xs)) None)
first_of_more p [] y = step (p y) refl
  where
    step : (b : Bool) → p y ≡ b → position p (y ∷ []) ≡ option_or (position p []) (cond (p y) (Some 0) None)
    step true h = first_yes p y [] h ∙ rw h refl
    step false h = first_no p y [] h ∙ rw h refl
first_of_more p (x ∷ xs) y = step (p x) refl (first_of_more p xs y)
  where
    step : (b : Bool) → p x ≡ b → position p (xs ++ y ∷ []) ≡ option_or (position p xs) (cond (p y) (Some (length xs)) None)
        → position p (x ∷ (xs ++ y ∷ [])) ≡ option_or (position p (x ∷ xs)) (cond (p y) (Some (suc (length xs))) None)
    step true h others = first_yes p x (xs ++ y ∷ []) h ∙ ap (λ found. option_or found (cond (p y) (Some (suc (length xs))) None)) (sym (first_yes p x xs h))
    step false h others =
        first_no p x (xs ++ y ∷ []) h ∙ ap (λ found. option_map (λ n. suc n) found) others ∙ later (position p xs) (p y) (length xs)
        ∙ ap (λ found. option_or found (cond (p y) (Some (suc (length xs))) None)) (sym (first_no p x xs h))

is_some_later : (found : Option ℕ) → is_some (option_map (λ n. suc n) found) ≡ is_some found
is_some_later None = refl
is_some_later (Some n) = refl

-- one passes exactly where there is a first
pub any_first : {X : Type 0} (p : X → Bool) (xs : List X) → is_some (position p xs) ≡ list_any p xs
any_first p [] = refl
any_first p (x ∷ xs) = step (p x) refl (any_first p xs)
  where
    step : (b : Bool) → p x ≡ b → is_some (position p xs) ≡ list_any p xs → is_some (position p (x ∷ xs)) ≡ (p x || list_any p xs)
    step true h others = rw (first_yes p x xs h, h) refl
    step false h others = rw (first_no p x xs h, h) (is_some_later (position p xs) ∙ others)

in_order : (names : List (List ℕ)) (name : List ℕ) → list_any (pointwise nat_eq name) names ≡ is_among names name
in_order [] name = refl
in_order (first ∷ names) name = ap₂ (λ a b. a || b) (either_order name first) (in_order names name)

pub among_first : (names : List (List ℕ)) (name : List ℕ) → is_some (position (pointwise nat_eq name) names) ≡ is_among names name
among_first names name = any_first (pointwise nat_eq name) names ∙ in_order names name

-- ---- maps that keep the first

or_nothing : (found : Option ℕ) → option_or found None ≡ found
or_nothing None = refl
or_nothing (Some n) = refl

module _ {X : Type 0} (test : List ℕ → X → Bool) (old : List ℕ → Option ℕ) (xs : List X) (x : X) (are : (name : List ℕ) → old name ≡ position (test name) xs) where
  pub firsts_kept : (key : List ℕ) → ((name : List ℕ) → test name x ≡ pointwise nat_eq name key) → is_some (old key) ≡ true → (name : List ℕ) → old name ≡ position (test name) (xs ++ x ∷ [])
  firsts_kept key is known name = are name ∙ sym (first_of_more (test name) xs x ∙ step (pointwise nat_eq name key) refl)
    where
      earlier : (found : Option ℕ) (other : Option ℕ) → is_some found ≡ true → option_or found other ≡ found
      earlier None other h = absurd cc
      earlier (Some n) other h = refl

      step : (b : Bool) → pointwise nat_eq name key ≡ b → option_or (position (test name) xs) (cond (test name x) (Some (length xs)) None) ≡ position (test name) xs
      step true e =
          let found : is_some (position (test name) xs) ≡ true = ap is_some (sym (are name)) ∙ ap (λ n. is_some (old n)) (same_text name key e) ∙ known in
          earlier (position (test name) xs) (cond (test name x) (Some (length xs)) None) found
      step false e = rw (is name, e) (or_nothing (position (test name) xs))

  pub firsts_more : (key : List ℕ) (new : List ℕ → Option ℕ) (place : ℕ) → ((name : List ℕ) → test name x ≡ pointwise nat_eq name key) → is_some (old key) ≡ false → place ≡ length xs
      → ((name : List ℕ) → new name ≡ cond (pointwise nat_eq key name) (Some place) (old name)) → (name : List ℕ) → new name ≡ position (test name) (xs ++ x ∷ [])
  firsts_more key new place is unknown behind changed name = changed name ∙ rw behind (step (pointwise nat_eq key name) refl) ∙ sym (first_of_more (test name) xs x)
    where
      nothing : (found : Option ℕ) → is_some found ≡ false → found ≡ None
      nothing None h = refl
      nothing (Some n) h = absurd cc

      step : (b : Bool) → pointwise nat_eq key name ≡ b → cond (pointwise nat_eq key name) (Some (length xs)) (old name)
          ≡ option_or (position (test name) xs) (cond (test name x) (Some (length xs)) None)
      step true e =
          let none : position (test name) xs ≡ None = nothing (position (test name) xs) (ap is_some (sym (are name)) ∙ ap (λ n. is_some (old n)) (sym (same_text key name e)) ∙ unknown) in
          rw (e, none, is name, either_order name key, e) refl
      step false e = rw (e, is name, either_order name key, e) (are name ∙ sym (or_nothing (position (test name) xs)))

pub some_copied : {X : Type 0} (found : Option (Bor X)) → is_some found ≡ is_some (option_copied found)
some_copied None = refl
some_copied (Some n) = refl

-- a name is found in a map exactly where it is among the names whose numbers the map has
pub known : (result : Bool) (found : Option (Bor ℕ)) (number : Option ℕ) (names : List (List ℕ)) (name : List ℕ) → result ≡ is_some found → option_copied found ≡ number
    → number ≡ position (pointwise nat_eq name) names → result ≡ is_among names name
known result found number names name is copied has = is ∙ some_copied found ∙ ap is_some (copied ∙ has) ∙ among_first names name
