-- The declarations of one sort: their names differ, they are few, and what each of them keeps.
use Rattle.std.proofs.Common.{◌≡◌, ℕ, zero, suc, ◌+◌, ◌<◌, ◌≤◌, Bool, true, false, ◌||◌, not, nat_eq, Option, Some, None, is_some, List, [], ◌∷◌, ◌++◌, length, map, take, refl, sym, ◌∙◌, ap₂, subst, arith, append_assoc, length-append}
use Rattle.std.specs.List.{list_all, list_any, filter_map, cons_option, position_or_len, AllByRecursion}
use Rattle.std.specs.Option.{option_map}
use Rattle.std.proofs.lemmas.Bool.{and_parts, and_from, or_parts, or_from, not-true, not_from_false, lt-ltb}
use Rattle.std.proofs.lemmas.List.{append-nil}
use Rattle.std.proofs.lemmas.List.Elements.{filter_map-append}
use Rattle.std.proofs.lemmas.List.Folds.{list_any-append}
use lib.Pointwise.{pointwise, bytes_decides}
use Rattle.adp_model.specs.WellFormed.{are_distinct}
use Rattle.job_texts.specs.TermText.{is_among}
use Rattle.job_texts.specs.Declarations.{Declaration}
use Rattle.job_texts.specs.JobText.{number_among}
use Rattle.grammar_text.proofs.Faultless.{Each}

-- ---- texts

pub same_text : (text other : List ℕ) → pointwise nat_eq text other ≡ true → text ≡ other
same_text text other h = (bytes_decides text other).0 h

pub own_text : (text : List ℕ) → pointwise nat_eq text text ≡ true
own_text text = (bytes_decides text text).1 refl

agree : (a b : Bool) → (a ≡ true → b ≡ true) → (b ≡ true → a ≡ true) → a ≡ b
agree true b h k = sym (h refl)
agree false true h k = k refl
agree false false h k = refl

pub either_order : (text other : List ℕ) → pointwise nat_eq text other ≡ pointwise nat_eq other text
either_order text other =
    agree (pointwise nat_eq text other) (pointwise nat_eq other text)
    (λ h. (bytes_decides other text).1 (sym (same_text text other h)))
    (λ h. (bytes_decides text other).1 (sym (same_text other text h)))

-- ---- what each declaration gives

pub each_all : (P : List Declaration → Declaration → List Declaration → Type 0) (Q : Declaration → Type 0) → ((above : List Declaration) (declaration : Declaration) (below : List Declaration) → P above declaration below → Q declaration)
    → (above below : List Declaration) → Each P above below → AllByRecursion Q below
each_all P Q gives above [] h = tt
each_all P Q gives above (declaration ∷ below) h = (gives above declaration below h.0, each_all P Q gives (above ++ declaration ∷ []) below h.1)

-- with each declaration stands that those above it, itself and those below it are all
pub each_whole : (P : List Declaration → Declaration → List Declaration → Type 0) (all above below : List Declaration) → above ++ below ≡ all → Each P above below → Each (λ a d b. P a d b × (a ++ d ∷ b ≡ all)) above below
each_whole P all above [] e h = tt
each_whole P all above (declaration ∷ below) e h = ((h.0, e), each_whole P all (above ++ declaration ∷ []) below (append_assoc above (declaration ∷ []) below ∙ e) h.1)

module _ {X : Type 0} (part_of : Declaration → Option X) (Keeps : X → Type 0) where
  kept_cons : (part : Option X) (others : List X) → ((x : X) → part ≡ Some x → Keeps x) → AllByRecursion Keeps others → AllByRecursion Keeps (cons_option part others)
  kept_cons None others here kept = kept
  kept_cons (Some x) others here kept = (here x refl, kept)

  -- what each declaration's part keeps, all parts keep
  pub each_part : (above below : List Declaration) → Each (λ a d b. (x : X) → part_of d ≡ Some x → Keeps x) above below → AllByRecursion Keeps (filter_map part_of below)
  each_part above [] h = tt
  each_part above (declaration ∷ below) h = kept_cons (part_of declaration) (filter_map part_of below) h.0 (each_part (above ++ declaration ∷ []) below h.1)

pub all_true : {X : Type 0} (test : X → Bool) (xs : List X) → AllByRecursion (λ x. test x ≡ true) xs → list_all test xs ≡ true
all_true test [] h = refl
all_true test (x ∷ xs) h = and_from (test x) (list_all test xs) h.0 (all_true test xs h.1)

pub all_take : {X : Type 0} (Keeps : X → Type 0) (n : ℕ) (xs : List X) → AllByRecursion Keeps xs → AllByRecursion Keeps (take n xs)
all_take Keeps zero xs h = tt
all_take Keeps (suc n) [] h = tt
all_take Keeps (suc n) (x ∷ xs) h = (h.0, all_take Keeps n xs h.1)

-- ---- distinct names

pub distinct_more : (names : List (List ℕ)) (name : List ℕ) → are_distinct names ≡ true → is_among names name ≡ false → are_distinct (names ++ name ∷ []) ≡ true
distinct_more [] name h k = refl
distinct_more (first ∷ names) name h k =
    let apart = and_parts (not (list_any (pointwise nat_eq first) names)) (are_distinct names) h in
    let other = or_parts (pointwise nat_eq first name) (is_among names name) k in
    let none : list_any (pointwise nat_eq first) (names ++ name ∷ []) ≡ false =
    list_any-append (pointwise nat_eq first) names (name ∷ [])
    ∙ or_from (list_any (pointwise nat_eq first) names) (pointwise nat_eq first name || false) (not-true (list_any (pointwise nat_eq first) names) apart.0) (or_from (pointwise nat_eq first name) false other.0 refl) in
    and_from (not (list_any (pointwise nat_eq first) (names ++ name ∷ []))) (are_distinct (names ++ name ∷ [])) (not_from_false (list_any (pointwise nat_eq first) (names ++ name ∷ [])) none) (distinct_more names name apart.1 other.1)

distinct_step : (names : List (List ℕ)) (name : Option (List ℕ)) → ((n : List ℕ) → name ≡ Some n → is_among names n ≡ false) → are_distinct names ≡ true → are_distinct (names ++ cons_option name []) ≡ true
distinct_step names None fresh h = subst (λ l. are_distinct l ≡ true) (sym (append-nil names)) h
distinct_step names (Some name) fresh h = distinct_more names name h (fresh name refl)

-- names differ where no declaration's name is among those above
pub each_distinct : (name_of : Declaration → Option (List ℕ)) (above below : List Declaration) → Each (λ a d b. (n : List ℕ) → name_of d ≡ Some n → is_among (filter_map name_of a) n ≡ false) above below
    → are_distinct (filter_map name_of above) ≡ true → are_distinct (filter_map name_of (above ++ below)) ≡ true
each_distinct name_of above [] h distinct = subst (λ l. are_distinct (filter_map name_of l) ≡ true) (sym (append-nil above)) distinct
each_distinct name_of above (declaration ∷ below) h distinct =
    let more : are_distinct (filter_map name_of (above ++ declaration ∷ [])) ≡ true = rw filter_map-append (distinct_step (filter_map name_of above) (name_of declaration) h.0 distinct) in
    subst (λ l. are_distinct (filter_map name_of l) ≡ true) (append_assoc above (declaration ∷ []) below) (each_distinct name_of (above ++ declaration ∷ []) below h.1 more)

-- ---- counts

count_step : {X : Type 0} (parts : List X) (part : Option X) (limit : ℕ) → (is_some part ≡ true → length parts + 1 ≤ limit) → length parts ≤ limit → length (parts ++ cons_option part []) ≤ limit
count_step parts None limit one h = simp length-append (omega arith)
count_step parts (Some x) limit one h = let more = one refl in simp length-append (omega arith)

-- parts are few where those above each leave room for it
pub each_counted : {X : Type 0} (part_of : Declaration → Option X) (limit : ℕ) (above below : List Declaration) → Each (λ a d b. is_some (part_of d) ≡ true → length (filter_map part_of a) + 1 ≤ limit) above below
    → length (filter_map part_of above) ≤ limit → length (filter_map part_of (above ++ below)) ≤ limit
each_counted part_of limit above [] h few = subst (λ l. length (filter_map part_of l) ≤ limit) (sym (append-nil above)) few
each_counted part_of limit above (declaration ∷ below) h few =
    let more : length (filter_map part_of (above ++ declaration ∷ [])) ≤ limit = rw filter_map-append (count_step (filter_map part_of above) (part_of declaration) limit h.0 few) in
    subst (λ l. length (filter_map part_of l) ≤ limit) (append_assoc above (declaration ∷ []) below) (each_counted part_of limit (above ++ declaration ∷ []) below h.1 more)

-- ---- names of parts

names_cons : {X : Type 0} (name : X → List ℕ) (part : Option X) (others : List X) → map name (cons_option part others) ≡ cons_option (option_map name part) (map name others)
names_cons name None others = refl
names_cons name (Some x) others = refl

pub names_of_parts : {X : Type 0} (part_of : Declaration → Option X) (name : X → List ℕ) (name_of : Declaration → Option (List ℕ)) → ((d : Declaration) → option_map name (part_of d) ≡ name_of d) → (declared : List Declaration) → map name (filter_map part_of declared) ≡ filter_map name_of declared
names_of_parts part_of name name_of same [] = refl
names_of_parts part_of name name_of same (declaration ∷ declared) =
    names_cons name (part_of declaration) (filter_map part_of declared) ∙ ap₂ (λ n l. cons_option n l) (same declaration) (names_of_parts part_of name name_of same declared)

-- ---- places of names

-- how many names are before the first of this name
abbrev pub place_of : List (List ℕ) → List ℕ → ℕ
place_of names name = position_or_len (pointwise nat_eq name) names

place_step : (names : List (List ℕ)) (first name : List ℕ) (same : Bool) → pointwise nat_eq name first ≡ same → is_among (first ∷ names) name ≡ true → (is_among names name ≡ true → place_of names name < length names) → place_of (first ∷ names) name < length (first ∷ names)
place_step names first name true e h others = rw e (omega arith)
place_step names first name false e h others =
    let apart : pointwise nat_eq first name ≡ false = either_order first name ∙ e in
    let later : is_among names name ≡ true = rw apart at h in
    let within = others later in
    rw e (omega arith)

pub place_within : (names : List (List ℕ)) (name : List ℕ) → is_among names name ≡ true → place_of names name < length names
place_within [] name h = absurd cc
place_within (first ∷ names) name h = place_step names first name (pointwise nat_eq name first) refl h (place_within names name)

pub number_place : (names : List (List ℕ)) (name : List ℕ) → is_among names name ≡ true → number_among names name ≡ place_of names name
number_place names name h = rw (lt-ltb (place_of names name) (length names) (place_within names name h)) refl

pub number_within : (names : List (List ℕ)) (name : List ℕ) → is_among names name ≡ true → number_among names name < length names
number_within names name h = rw (number_place names name h) (place_within names name h)
