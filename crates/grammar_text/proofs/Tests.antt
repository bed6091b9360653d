-- Tests of all or of some of the elements of a list.
use Rattle.std.proofs.Common.{◌≡◌, List, [], ◌∷◌, Bool, ◌&&◌, ◌||◌, map, refl, ap, ◌∙◌}
use Rattle.std.specs.List.{list_all, list_any, flat_map}
use Rattle.std.proofs.lemmas.List.Folds.{list_all-append}

pub list_any-map : {X Y : Type 0} (p : Y → Bool) (f : X → Y) (xs : List X) → list_any p (map f xs) ≡ list_any (λ x. p (f x)) xs
list_any-map p f [] = refl
list_any-map p f (x ∷ xs) = ap (λ b. p (f x) || b) (list_any-map p f xs)

pub list_all-flat_map : {X Y Z : Type 0} (p : Z → Bool) (f : Y → List Z) (view : X → Y) (xs : List X)
    → list_all p (flat_map f (map view xs)) ≡ list_all (λ x. list_all p (f (view x))) xs
list_all-flat_map p f view [] = refl
list_all-flat_map p f view (x ∷ xs) =
    list_all-append p (f (view x)) (flat_map f (map view xs))
    ∙ ap (λ b. list_all p (f (view x)) && b) (list_all-flat_map p f view xs)
