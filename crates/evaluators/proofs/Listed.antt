-- Lists that are mapped item by item.
use Rattle.std.proofs.Common.{◌≡◌, ℕ, zero, suc, ◌+◌, ◌<◌, ◌≤◌, List, [], ◌∷◌, ◌++◌, length, map, take, drop, get_or, refl, sym, ap, ◌∙◌, arith}
use Rattle.std.proofs.lemmas.List.{length-append, length-map, length-drop, append-nil}

one_more : {A B : Type 0} (f : A → B) (xs : List A) (k : ℕ) (d : A) → k < length xs
    → map f (take k xs) ++ f (get_or xs k d) ∷ [] ≡ map f (take (suc k) xs)
one_more f [] k d inside = absurd (omega (arith, inside))
one_more f (x ∷ xs) zero d inside = refl
one_more f (x ∷ xs) (suc k) d inside = ap (λ ys. f x ∷ ys) (one_more f xs k d (omega (arith, inside)))

-- the front of the list with one item more
pub map_one_more : {A B : Type 0} (f : A → B) (xs : List A) (k : ℕ) (d : A) → k < length xs → d ≡ get_or xs k d
    → map f (take k xs) ++ f d ∷ [] ≡ map f (take (k + 1) xs)
map_one_more f xs k d inside is =
    let next : suc k ≡ k + 1 = omega arith in
    ap (λ x. map f (take k xs) ++ f x ∷ []) is ∙ one_more f xs k d inside ∙ ap (λ n. map f (take n xs)) next

pub take_whole : {A : Type 0} (xs : List A) (k : ℕ) → length xs ≤ k → take k xs ≡ xs
take_whole [] zero over = refl
take_whole [] (suc k) over = refl
take_whole (x ∷ xs) zero over = absurd (omega (arith, over))
take_whole (x ∷ xs) (suc k) over = ap (λ ys. x ∷ ys) (take_whole xs k (omega (arith, over)))

pub nothing : {A : Type 0} (xs : List A) → length xs ≡ 0 → xs ≡ []
nothing [] none = refl
nothing (x ∷ xs) none = absurd (omega (arith, none))

pub same_length : {A B : Type 0} (f : A → B) (xs ys : List A) → map f ys ≡ map f xs → length ys ≡ length xs
same_length f xs ys same = sym (length-map ys f) ∙ ap length same ∙ length-map xs f

-- a vector of so many items, into which a slice of all of them is written back
pub map_after : {A B C : Type 0} (f : A → B) (g : A → C) (xs ys : List A) (len : ℕ) → len ≡ length xs
    → map g ys ≡ map g xs → map f (take len (ys ++ drop (length ys) xs)) ≡ map f ys
map_after f g xs ys len count same =
    let lengths = same_length g xs ys same in
    let none : length (drop (length ys) xs) ≡ 0 =
    let left = length-drop (length ys) xs in omega (arith, left, lengths) in
    let all = length-append ys (drop (length ys) xs) in
    ap (map f) (take_whole (ys ++ drop (length ys) xs) len (omega (arith, all, none, lengths, count)))
    ∙ ap (λ rest. map f (ys ++ rest)) (nothing (drop (length ys) xs) none) ∙ ap (map f) (append-nil ys)

pub map_written_back : {A B : Type 0} (f : A → B) (xs ys : List A) (len : ℕ) → len ≡ length xs → map f ys ≡ map f xs
    → map f (take len (ys ++ drop (length ys) xs)) ≡ map f xs
map_written_back f xs ys len count same = map_after f f xs ys len count same ∙ same

pub written_back : {A B : Type 0} (f : A → B) (xs ys : List A) (len : ℕ) → len ≡ length xs → map f ys ≡ map f xs
    → take len (ys ++ drop (length ys) xs) ≡ ys
written_back f xs ys len count same =
    let lengths = same_length f xs ys same in
    let none : length (drop (length ys) xs) ≡ 0 =
    let left = length-drop (length ys) xs in omega (arith, left, lengths) in
    let all = length-append ys (drop (length ys) xs) in
    take_whole (ys ++ drop (length ys) xs) len (omega (arith, all, none, lengths, count))
    ∙ ap (λ rest. ys ++ rest) (nothing (drop (length ys) xs) none) ∙ append-nil ys
