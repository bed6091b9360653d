-- Parts that are built of declarations, one after the other.
use Rattle.std.proofs.Common.{◌≡◌, ℕ, zero, suc, ◌+◌, ◌<◌, ◌≤◌, Bool, true, Option, List, [], ◌∷◌, ◌++◌, length, map, take, drop, get_or, refl, sym, ◌∙◌, ap, ap₂, subst, arith}
use Rattle.std.specs.List.{list_all, filter_map, cons_option}
use Rattle.std.proofs.lemmas.Bool.{and_parts, and_from}
use Rattle.std.proofs.lemmas.List.{take_more, map_push}
use Rattle.std.proofs.lemmas.List.Elements.{filter_map-append}

pub all_at : {X Y : Type 0} (test : Y → Bool) (seen : X → Y) (xs : List X) (i : ℕ) (x : X) → list_all test (map seen xs) ≡ true → i < length xs → x ≡ get_or xs i x → test (seen x) ≡ true
all_at test seen [] i x h within e = absurd (omega arith)
all_at test seen (y ∷ xs) zero x h within e = subst (λ z. test (seen z) ≡ true) (sym e) (and_parts (test (seen y)) (list_all test (map seen xs)) h).0
all_at test seen (y ∷ xs) (suc i) x h within e = all_at test seen xs i x (and_parts (test (seen y)) (list_all test (map seen xs)) h).1 (omega arith) e

pub parts_more : {X Y Z : Type 0} (part_of : Y → Option Z) (seen : X → Y) (xs : List X) (i : ℕ) (x : X) (parts new : List Z) (part : Option Z) → i < length xs → x ≡ get_or xs i x
    → parts ≡ filter_map part_of (map seen (take i xs)) → part ≡ part_of (seen x) → new ≡ parts ++ cons_option part [] → new ≡ filter_map part_of (map seen (take (i + 1) xs))
parts_more part_of seen xs i x parts new part within e parts_are part_is new_is =
    let more : filter_map part_of (map seen (take (i + 1) xs)) ≡ filter_map part_of (map seen (take i xs)) ++ cons_option (part_of (seen (get_or xs i x))) [] =
    rw (take_more xs i x within, map_push, filter_map-append) refl in
    let here : part ≡ part_of (seen (get_or xs i x)) = part_is ∙ ap (λ z. part_of (seen z)) e in
    new_is ∙ ap₂ (λ l o. l ++ cons_option o []) parts_are here ∙ sym more

pub made_more : {X Y Z : Type 0} (make : Y → Z) (seen : X → Y) (xs : List X) (i : ℕ) (x : X) (made new : List Z) (z : Z) → i < length xs → x ≡ get_or xs i x
    → made ≡ map make (map seen (take i xs)) → z ≡ make (seen x) → new ≡ made ++ z ∷ [] → new ≡ map make (map seen (take (i + 1) xs))
made_more make seen xs i x made new z within e made_is z_is new_is =
    let more : map make (map seen (take (i + 1) xs)) ≡ map make (map seen (take i xs)) ++ make (seen (get_or xs i x)) ∷ [] =
    rw (take_more xs i x within, map_push, map_push) refl in
    let here : z ≡ make (seen (get_or xs i x)) = z_is ∙ ap (λ y. make (seen y)) e in
    new_is ∙ ap₂ (λ l y. l ++ y ∷ []) made_is here ∙ sym more

pub none_left : {X : Type 0} (xs : List X) (i : ℕ) → length xs ≤ i → drop i xs ≡ []
none_left [] zero h = refl
none_left [] (suc i) h = refl
none_left (x ∷ xs) zero h = absurd (omega arith)
none_left (x ∷ xs) (suc i) h = none_left xs i (omega arith)

pub read_again : {X : Type 0} (xs : List X) (i : ℕ) (d : X) → i < length xs → get_or xs i d ≡ get_or xs i (get_or xs i d)
read_again [] i d h = absurd (omega arith)
read_again (x ∷ xs) zero d h = refl
read_again (x ∷ xs) (suc i) d h = read_again xs i d (omega arith)

pub all_front : {X : Type 0} (test : X → Bool) (n : ℕ) (xs : List X) → list_all test xs ≡ true → list_all test (take n xs) ≡ true
all_front test zero xs h = refl
all_front test (suc n) [] h = refl
all_front test (suc n) (x ∷ xs) h =
    let parts = and_parts (test x) (list_all test xs) h in
    and_from (test x) (list_all test (take n xs)) parts.0 (all_front test n xs parts.1)
