-- Letters that stand once, one letter at a time.
use Rattle.std.proofs.Common.{◌≡◌, ℕ, ◌+◌, ◌<◌, ◌==◌, ℤ, Bool, true, false, ◌&&◌, ◌||◌, not, List, [], ◌∷◌, ◌++◌, length, take, drop, get_or, set, zero, suc, ◌≢◌, eqb, eqb-true, replicate, get_or-set_other, get_or-set_same, refl, sym, ◌∙◌, arith}
use Rattle.std.specs.List.{list_any}
use Rattle.std.proofs.lemmas.List.{take_more, take-append-drop}
use Rattle.std.proofs.lemmas.List.Folds.{list_any-append}
use Rattle.std.proofs.lemmas.Bool.{eq-eqb}
use Rattle.std.proofs.lemmas.Bool.Decides.{nat_tests}
use Rattle.adp_model.specs.WellFormed.{letters_are_distinct}

-- the letter stands in these
abbrev pub stands_in : List (ℕ × ℤ) → ℕ → Bool
stands_in letters letter = list_any (λ (other : ℕ × ℤ). letter == other.0) letters

joined : (a b c d : Bool) → (not (a || (b || false)) && (c && not d)) ≡ ((not a && c) && not (b || d))
joined true b c d = refl
joined false true true true = refl
joined false true true false = refl
joined false true false d = refl
joined false false true true = refl
joined false false true false = refl
joined false false false d = refl

and_false : (b : Bool) → (b && false) ≡ false
and_false true = refl
and_false false = refl

either_way : (a b : ℕ) → (a == b) ≡ (b == a)
either_way a b = grind (arith, nat_tests)

pub stands_more : (letters : List (ℕ × ℤ)) (next : ℕ × ℤ) (letter : ℕ) → stands_in (letters ++ next ∷ []) letter ≡ (stands_in letters letter || ((letter == next.0) || false))
stands_more letters next letter = list_any-append (λ (other : ℕ × ℤ). letter == other.0) letters (next ∷ [])

pub distinct_more : (letters : List (ℕ × ℤ)) (next : ℕ × ℤ) → letters_are_distinct (letters ++ next ∷ []) ≡ (letters_are_distinct letters && not (stands_in letters next.0))
distinct_more [] next = refl
distinct_more (entry ∷ letters) next =
    rw (stands_more letters next entry.0, distinct_more letters next, either_way next.0 entry.0)
    (joined (stands_in letters entry.0) (entry.0 == next.0) (letters_are_distinct letters) (stands_in letters next.0))

undistinct : (front back : List (ℕ × ℤ)) → letters_are_distinct front ≡ false → letters_are_distinct (front ++ back) ≡ false
undistinct [] back h = cc
undistinct (entry ∷ front) back h = step (stands_in front entry.0) (letters_are_distinct front) refl refl (undistinct front back)
  where
    step : (stands distinct : Bool) → stands_in front entry.0 ≡ stands → letters_are_distinct front ≡ distinct
        → (letters_are_distinct front ≡ false → letters_are_distinct (front ++ back) ≡ false)
        → letters_are_distinct (entry ∷ (front ++ back)) ≡ false
    step true distinct e f inner = rw (list_any-append (λ (other : ℕ × ℤ). entry.0 == other.0) front back, e) refl
    step false true e f inner = cc (rw (e, f) at h)
    step false false e f inner = rw (inner f) (and_false (not (stands_in (front ++ back) entry.0)))

-- a letter that stands before stands twice
pub twice : (letters : List (ℕ × ℤ)) (i : ℕ) (d : ℕ × ℤ) → i < length letters → stands_in (take i letters) (get_or letters i d).0 ≡ true
    → letters_are_distinct letters ≡ false
twice letters i d inside stands =
    let more : letters_are_distinct (take (i + 1) letters) ≡ false =
    rw (take_more letters i d inside, distinct_more (take i letters) (get_or letters i d), stands) (and_false (letters_are_distinct (take i letters))) in
    rw (← take-append-drop (i + 1) letters) (undistinct (take (i + 1) letters) (drop (i + 1) letters) more)

-- one letter more that does not stand before
pub once_more : (letters : List (ℕ × ℤ)) (i : ℕ) (d : ℕ × ℤ) → i < length letters → stands_in (take i letters) (get_or letters i d).0 ≡ false
    → letters_are_distinct (take i letters) ≡ true → letters_are_distinct (take (i + 1) letters) ≡ true
once_more letters i d inside stands distinct =
    rw (take_more letters i d inside, distinct_more (take i letters) (get_or letters i d), stands, distinct) refl

pub stands_next : (letters : List (ℕ × ℤ)) (i : ℕ) (d : ℕ × ℤ) (letter : ℕ) → i < length letters
    → stands_in (take (i + 1) letters) letter ≡ (stands_in (take i letters) letter || ((letter == (get_or letters i d).0) || false))
stands_next letters i d letter inside = rw (take_more letters i d inside) (stands_more (take i letters) (get_or letters i d) letter)

none_marked : (n letter : ℕ) → get_or (replicate n false) letter false ≡ false
none_marked zero zero = refl
none_marked zero (suc letter) = refl
none_marked (suc n) zero = refl
none_marked (suc n) (suc letter) = none_marked n letter

pub none_seen : (letter : ℕ) → get_or (replicate 256 false) letter false ≡ false
none_seen letter = none_marked 256 letter

-- the marks of one letter more
pub marks_more : (letters : List (ℕ × ℤ)) (i : ℕ) (d : ℕ × ℤ) (seen : List Bool) (place : ℕ) → i < length letters → length seen ≡ 256 → place < 256
    → place ≡ (get_or letters i d).0
    → ((letter : ℕ) → letter < 256 → get_or seen letter false ≡ stands_in (take i letters) letter)
    → (letter : ℕ) → letter < 256 → get_or (set seen place true) letter false ≡ stands_in (take (i + 1) letters) letter
marks_more letters i d seen place inside size fits is marked letter small =
    step (eqb letter place) refl ∙ sym (stands_next letters i d letter inside)
  where
    or_true : (b : Bool) → true ≡ (b || (true || false))
    or_true true = refl
    or_true false = refl

    or_false : (b : Bool) → b ≡ (b || (false || false))
    or_false true = refl
    or_false false = refl

    step : (same : Bool) → eqb letter place ≡ same
        → get_or (set seen place true) letter false ≡ (stands_in (take i letters) letter || ((letter == (get_or letters i d).0) || false))
    step true e =
        let equal : letter ≡ place = eqb-true letter place e in
        let within : place < length seen = omega arith in
        rw (← is, e) (rw (equal, get_or-set_same) (or_true (stands_in (take i letters) place)))
    step false e =
        let other : letter ≢ place = λ h. let same = eq-eqb letter place h in cc in
        rw (← is, e, get_or-set_other seen place letter true false other, marked letter small) (or_false (stands_in (take i letters) letter))
