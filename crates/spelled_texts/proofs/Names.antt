-- Distinct names: the place of each, and that it is none of the others.
use Rattle.std.proofs.Common.{◌≡◌, ℕ, zero, suc, ◌<◌, Bool, true, false, ◌||◌, not, nat_eq, List, [], ◌∷◌, ◌++◌, length, get_or, refl, sym, ◌∙◌, arith}
use Rattle.std.specs.List.{list_any, position_or_len}
use Rattle.std.proofs.lemmas.Bool.{and_parts, not-true, or_parts, or_right, or_from, lt-ltb}
use lib.Pointwise.{pointwise}
use Rattle.adp_model.specs.WellFormed.{are_distinct}
use Rattle.job_texts.specs.TermText.{is_among}
use Rattle.job_texts.specs.JobText.{number_among}

pub same_bytes : (text : List ℕ) → pointwise nat_eq text text ≡ true
same_bytes [] = refl
same_bytes (byte ∷ text) = let same : nat_eq byte byte ≡ true = grind arith in rw (same, same_bytes text) refl

byte_swapped : (byte other : ℕ) → nat_eq byte other ≡ nat_eq other byte
byte_swapped byte other = step (nat_eq byte other) (nat_eq other byte) refl refl
  where
    step : (b c : Bool) → nat_eq byte other ≡ b → nat_eq other byte ≡ c → nat_eq byte other ≡ nat_eq other byte
    step true true e f = cc
    step false false e f = cc
    step true false e f = grind (arith, e, f)
    step false true e f = grind (arith, e, f)

pub bytes_swapped : (text other : List ℕ) → pointwise nat_eq text other ≡ pointwise nat_eq other text
bytes_swapped [] [] = refl
bytes_swapped [] (byte ∷ other) = refl
bytes_swapped (byte ∷ text) [] = refl
bytes_swapped (byte ∷ text) (byte' ∷ other) = rw (byte_swapped byte byte', bytes_swapped text other) refl

-- ---- among names

pub among-append : (name : List ℕ) (names others : List (List ℕ)) → is_among (names ++ others) name ≡ (is_among names name || is_among others name)
among-append name [] others = refl
among-append name (first ∷ names) others = step (pointwise nat_eq first name) refl (among-append name names others)
  where
    step : (b : Bool) → pointwise nat_eq first name ≡ b → is_among (names ++ others) name ≡ (is_among names name || is_among others name)
        → is_among ((first ∷ names) ++ others) name ≡ (is_among (first ∷ names) name || is_among others name)
    step true e behind = rw e refl
    step false e behind = rw (e, behind) refl

pub among_at : (names : List (List ℕ)) (k : ℕ) (default : List ℕ) → k < length names → is_among names (get_or names k default) ≡ true
among_at [] k default inside = absurd (omega arith)
among_at (name ∷ names) zero default inside = rw (same_bytes name) refl
among_at (name ∷ names) (suc k) default inside = or_right (pointwise nat_eq name (get_or names k default)) (is_among names (get_or names k default)) (among_at names k default (omega arith))

-- a name that none of these equals is not among them
none_equal : (name : List ℕ) (names : List (List ℕ)) → list_any (pointwise nat_eq name) names ≡ false → is_among names name ≡ false
none_equal name [] h = refl
none_equal name (first ∷ names) h =
    let parts = or_parts (pointwise nat_eq name first) (list_any (pointwise nat_eq name) names) h in
    or_from (pointwise nat_eq first name) (is_among names name) (bytes_swapped first name ∙ parts.0) (none_equal name names parts.1)

-- ---- distinct names

-- the first of distinct names is none of the others, which are distinct
pub record FirstIsOther (name : List ℕ) (names : List (List ℕ)) : Type 0 where
  pub other : is_among names name ≡ false
  pub distinct : are_distinct names ≡ true

pub first_is_other : (name : List ℕ) (names : List (List ℕ)) → are_distinct (name ∷ names) ≡ true → FirstIsOther name names
first_is_other name names h =
    let parts = and_parts (not (list_any (pointwise nat_eq name) names)) (are_distinct names) h in
    record { other = none_equal name names (not-true _ parts.0); distinct = parts.1 }

-- of a name among others each of which differs from a first one
not_equal : (names : List (List ℕ)) (k : ℕ) (name default : List ℕ) → k < length names → is_among names name ≡ false → pointwise nat_eq (get_or names k default) name ≡ false
not_equal [] k name default inside h = absurd (omega arith)
not_equal (first ∷ names) zero name default inside h = (or_parts (pointwise nat_eq first name) (is_among names name) h).0
not_equal (first ∷ names) (suc k) name default inside h = not_equal names k name default (omega arith) (or_parts (pointwise nat_eq first name) (is_among names name) h).1

-- the first of distinct names differs from the one at a place of the others
pub differs_at : (name : List ℕ) (names : List (List ℕ)) (k : ℕ) (default : List ℕ) → k < length names → are_distinct (name ∷ names) ≡ true → pointwise nat_eq (get_or names k default) name ≡ false
differs_at name names k default inside h = not_equal names k name default inside (first_is_other name names h).other

-- a name of distinct ones is not among those before it
pub not_before : (earlier : List (List ℕ)) (name : List ℕ) (later : List (List ℕ)) → are_distinct (earlier ++ name ∷ later) ≡ true → is_among earlier name ≡ false
not_before [] name later h = refl
not_before (first ∷ earlier) name later h =
    let is = first_is_other first (earlier ++ name ∷ later) h in
    let behind : (is_among earlier first || is_among (name ∷ later) first) ≡ false = sym (among-append first earlier (name ∷ later)) ∙ is.other in
    let differs : pointwise nat_eq name first ≡ false = (or_parts (pointwise nat_eq name first) (is_among later first)
    (or_parts (is_among earlier first) (is_among (name ∷ later) first) behind).1).0 in
    or_from (pointwise nat_eq first name) (is_among earlier name) (bytes_swapped first name ∙ differs) (not_before earlier name later is.distinct)

place_of_name : (names : List (List ℕ)) (k : ℕ) (default : List ℕ) → are_distinct names ≡ true → k < length names → position_or_len (pointwise nat_eq (get_or names k default)) names ≡ k
place_of_name [] k default h inside = absurd (omega arith)
place_of_name (name ∷ names) zero default h inside = rw (same_bytes name) refl
place_of_name (name ∷ names) (suc k) default h inside =
    rw (differs_at name names k default (omega arith) h, place_of_name names k default (first_is_other name names h).distinct (omega arith)) (omega arith)

-- the number of the name at a place is the place
pub number_of_name : (names : List (List ℕ)) (k : ℕ) (default : List ℕ) → are_distinct names ≡ true → k < length names → number_among names (get_or names k default) ≡ k
number_of_name names k default h inside =
    rw (place_of_name names k default h inside, lt-ltb k (length names) inside) refl
