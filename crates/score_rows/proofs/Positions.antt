-- Items of lists by their positions.
use Rattle.std.proofs.Common.{◌≡◌, ℕ, zero, suc, ◌<◌, Some, List, [], ◌∷◌, length, map, get_or, slice_get, slice_set, ap, ◌∙◌, refl, arith}
use Rattle.std.specs.Option.{option_map}
use Rattle.std.proofs.lemmas.Option.{slice_get-get_or, slice_get-map}

pub some_position : {A : Type 0} (items : List A) (position : ℕ) (item : A) → slice_get items position ≡ Some item → position < length items
some_position [] position item e = absurd cc
some_position (x ∷ items) zero item e = omega arith
some_position (x ∷ items) (suc position) item e = omega (arith, some_position items position item e)

pub same_item : {A : Type 0} (items : List A) (k : ℕ) (x y : A) → slice_get items k ≡ Some x → slice_get items k ≡ Some y → x ≡ y
same_item items k x y e e' = cc

pub set_here : {A : Type 0} (xs : List A) (k : ℕ) (x : A) → k < length xs → slice_get (slice_set xs k x) k ≡ Some x
set_here [] k x l = absurd (omega arith)
set_here (y ∷ xs) zero x l = refl
set_here (y ∷ xs) (suc k) x l = set_here xs k x (omega arith)

pub set_there : {A : Type 0} (xs : List A) (k j : ℕ) (x : A) → (j ≡ k → ⊥) → slice_get (slice_set xs k x) j ≡ slice_get xs j
set_there [] k j x apart = refl
set_there (y ∷ xs) zero zero x apart = absurd (apart refl)
set_there (y ∷ xs) zero (suc j) x apart = refl
set_there (y ∷ xs) (suc k) zero x apart = refl
set_there (y ∷ xs) (suc k) (suc j) x apart = set_there xs k j x (λ e. apart (ap suc e))

-- the value of an item
pub value_of : {X Y : Type 0} (value : X → Y) (items : List X) (k : ℕ) (d : X) → k < length items → slice_get (map value items) k ≡ Some (value (get_or items k d))
value_of value items k d l = slice_get-map value items k ∙ ap (option_map value) (slice_get-get_or items k d l)

pub value_at : {X Y : Type 0} (value : X → Y) (items : List X) (k : ℕ) (x : X) → k < length items → get_or items k x ≡ x → slice_get (map value items) k ≡ Some (value x)
value_at value items k x l e = value_of value items k x l ∙ ap (λ y. Some (value y)) e
