-- The section that a `let` stands in, line by line, and the signs of a section in a set.
use Rattle.std.proofs.Common.{◌≡◌, ℕ, suc, ◌+◌, Bool, true, false, ◌||◌, ◌&&◌, not, nat_eq, cond, Option, Some, None, List, [], ◌∷◌, ◌++◌, refl, ◌∙◌, ap, arith}
use Rattle.std.specs.List.{list_any, list_all, prefix_len}
use Rattle.std.specs.Option.{option_map, option_or, option_map_or}
use Rattle.std.specs.Borrow.{Bor}
use Rattle.std.specs.BTreeSet.{BTreeSet}
use Rattle.std.proofs.lemmas.List.{append-nil}
use Rattle.std.proofs.lemmas.List.Elements.{filter_map-append}
use Rattle.std.proofs.lemmas.List.Folds.{list_any-append}
use lib.Pointwise.{pointwise}
use Rattle.job_texts.specs.TermText.{is_among}
use Rattle.adp_model.specs.WellFormed.{are_distinct}
use Rattle.job_texts.specs.Declarations.{Declaration, Class, Sign, Algebra, Let, Rule, Axiom, Words}
use Rattle.job_texts.specs.DeclaredNames.{is_algebra_line, since_algebra, section_of, let_sign_of, let_signs, sign_names}
use Rattle.grammar_text.specs.Names.{has_no_place, has_no_place_behind, AreMembers, lacks_sign}

-- ---- below the nearest algebra line above

or_behind : (found : Option (List Declaration)) (x d : Declaration) (xs : List Declaration) (b : Bool)
    → option_or (option_map (λ s. s ++ d ∷ []) found) (cond b (Some (xs ++ d ∷ [])) None) ≡ option_map (λ s. s ++ d ∷ []) (option_or found (cond b (Some xs) None))
or_behind None x d xs true = refl
or_behind None x d xs false = refl
or_behind (Some s) x d xs b = refl

since_algebra_line : (xs : List Declaration) (d : Declaration) → is_algebra_line d ≡ true → since_algebra (xs ++ d ∷ []) ≡ Some []
since_algebra_line [] d h = rw h refl
since_algebra_line (x ∷ xs) d h = rw (since_algebra_line xs d h) refl

since_other : (xs : List Declaration) (d : Declaration) → is_algebra_line d ≡ false → since_algebra (xs ++ d ∷ []) ≡ option_map (λ s. s ++ d ∷ []) (since_algebra xs)
since_other [] d h = rw h refl
since_other (x ∷ xs) d h = rw (since_other xs d h) (or_behind (since_algebra xs) x d xs (is_algebra_line x))

abbrev section_has : List ℕ → Option (List Declaration) → Bool
section_has sign found = option_map_or (λ section. is_among (let_signs section) sign) found true

let_behind : (found : Option (List Declaration)) (other : List ℕ) (d : Declaration) (sign : List ℕ) → let_sign_of d ≡ Some other
    → section_has sign (option_map (λ s. s ++ d ∷ []) found) ≡ (section_has sign found || pointwise nat_eq other sign)
let_behind None other d sign h = refl
let_behind (Some s) other d sign h =
    ap (λ names. is_among names sign) (filter_map-append let_sign_of s (d ∷ []) ∙ rw h refl) ∙ list_any-append (λ name. pointwise nat_eq name sign) (let_signs s) (other ∷ [])
    ∙ ap (λ last. is_among (let_signs s) sign || last) (or_false (pointwise nat_eq other sign))
  where
    or_false : (b : Bool) → (b || false) ≡ b
    or_false true = refl
    or_false false = refl

other_behind : (found : Option (List Declaration)) (d : Declaration) (sign : List ℕ) → let_sign_of d ≡ None
    → section_has sign (option_map (λ s. s ++ d ∷ []) found) ≡ section_has sign found
other_behind None d sign h = refl
other_behind (Some s) d sign h = ap (λ names. is_among names sign) (filter_map-append let_sign_of s (d ∷ []) ∙ rw h (append-nil (let_signs s)))

pub place_more : (xs : List Declaration) (d : Declaration) (sign : List ℕ) → has_no_place (xs ++ d ∷ []) sign ≡ has_no_place_behind (has_no_place xs sign) d sign
place_more xs (Class name items) sign = ap (section_has sign) (since_other xs (Class name items) refl) ∙ other_behind (since_algebra xs) (Class name items) sign refl
place_more xs (Sign name kinds) sign = ap (section_has sign) (since_other xs (Sign name kinds) refl) ∙ other_behind (since_algebra xs) (Sign name kinds) sign refl
place_more xs (Algebra name goal) sign = ap (section_has sign) (since_algebra_line xs (Algebra name goal) refl)
place_more xs (Let other variables term) sign = ap (section_has sign) (since_other xs (Let other variables term) refl) ∙ let_behind (since_algebra xs) other (Let other variables term) sign refl
place_more xs (Rule name alternatives) sign = ap (section_has sign) (since_other xs (Rule name alternatives) refl) ∙ other_behind (since_algebra xs) (Rule name alternatives) sign refl
place_more xs (Axiom rule) sign = ap (section_has sign) (since_other xs (Axiom rule) refl) ∙ other_behind (since_algebra xs) (Axiom rule) sign refl
place_more xs Words sign = ap (section_has sign) (since_other xs Words refl) ∙ other_behind (since_algebra xs) Words sign refl

-- ---- the section below an algebra line

section_goes_on : (d : Declaration) (ds : List Declaration) → is_algebra_line d ≡ false → section_of (d ∷ ds) ≡ d ∷ section_of ds
section_goes_on d ds h = let next : 1 + prefix_len (λ x. not (is_algebra_line x)) ds ≡ suc (prefix_len (λ x. not (is_algebra_line x)) ds) = omega arith in rw h (rw next refl)

pub let_first : (d : Declaration) (ds : List Declaration) (sign name : List ℕ) → is_algebra_line d ≡ false → let_sign_of d ≡ Some sign
    → is_among (let_signs (section_of (d ∷ ds))) name ≡ (pointwise nat_eq sign name || is_among (let_signs (section_of ds)) name)
let_first d ds sign name h k = ap (λ section. is_among (let_signs section) name) (section_goes_on d ds h) ∙ rw k refl

pub other_first : (d : Declaration) (ds : List Declaration) (name : List ℕ) → is_algebra_line d ≡ false → let_sign_of d ≡ None
    → is_among (let_signs (section_of (d ∷ ds))) name ≡ is_among (let_signs (section_of ds)) name
other_first d ds name h k = ap (λ section. is_among (let_signs section) name) (section_goes_on d ds h) ∙ rw k refl

pub or_moves : (had same others : Bool) → (had || (same || others)) ≡ (cond same true had || others)
or_moves true true others = refl
or_moves true false others = refl
or_moves false true others = refl
or_moves false false others = refl

pub or_nothing : (b : Bool) → (b || false) ≡ b
or_nothing true = refl
or_nothing false = refl

-- ---- signs that a set lacks

not_both : (b others : Bool) → (not b || not others) ≡ not (b && others)
not_both true others = refl
not_both false others = refl

pub lacks_one : (members : BTreeSet (Bor (List ℕ))) (lets : List (List ℕ)) → AreMembers members lets → (all : List Declaration) → list_any (lacks_sign members) all ≡ not (list_all (is_among lets) (sign_names all))
lacks_one members lets are [] = refl
lacks_one members lets are (Class name items ∷ all) = lacks_one members lets are all
lacks_one members lets are (Sign name kinds ∷ all) = rw (are name, lacks_one members lets are all) (not_both (is_among lets name) (list_all (is_among lets) (sign_names all)))
lacks_one members lets are (Algebra name goal ∷ all) = lacks_one members lets are all
lacks_one members lets are (Let sign variables term ∷ all) = lacks_one members lets are all
lacks_one members lets are (Rule name alternatives ∷ all) = lacks_one members lets are all
lacks_one members lets are (Axiom rule ∷ all) = lacks_one members lets are all
lacks_one members lets are (Words ∷ all) = lacks_one members lets are all

-- ---- texts that stand twice

and_false : (b : Bool) → (b && false) ≡ false
and_false true = refl
and_false false = refl

pub stands_twice : (front : List (List ℕ)) (text : List ℕ) (others : List (List ℕ)) → is_among front text ≡ true → are_distinct (front ++ text ∷ others) ≡ false
stands_twice [] text others h = absurd cc
stands_twice (first ∷ front) text others h = step (pointwise nat_eq first text) refl (λ k. stands_twice front text others k)
  where
    or_true : (b : Bool) → (b || true) ≡ true
    or_true true = refl
    or_true false = refl

    step : (b : Bool) → pointwise nat_eq first text ≡ b → (is_among front text ≡ true → are_distinct (front ++ text ∷ others) ≡ false) → are_distinct (first ∷ (front ++ text ∷ others)) ≡ false
    step true e later =
        let among : list_any (pointwise nat_eq first) (front ++ text ∷ others) ≡ true =
        list_any-append (pointwise nat_eq first) front (text ∷ others) ∙ rw e (or_true (list_any (pointwise nat_eq first) front)) in
        rw among refl
    step false e later = rw (later (rw e at h)) (and_false (not (list_any (pointwise nat_eq first) (front ++ text ∷ others))))

pub among_more : (front : List (List ℕ)) (text name : List ℕ) → is_among (front ++ text ∷ []) name ≡ cond (pointwise nat_eq text name) true (is_among front name)
among_more front text name = list_any-append (λ other. pointwise nat_eq other name) front (text ∷ []) ∙ step (is_among front name) (pointwise nat_eq text name)
  where
    step : (had same : Bool) → (had || (same || false)) ≡ cond same true had
    step true true = refl
    step true false = refl
    step false true = refl
    step false false = refl
