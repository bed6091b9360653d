-- The factors that are taken out of a map of totals for declared variables, and what is left then.
use Rattle.std.proofs.Common.{◌≡◌, ℕ, zero, suc, ◌+◌, ◌<◌, ◌≤◌, ℤ, pos, FitsSigned, w64, Bool, true, false, ◌&&◌, ◌||◌, cond, nat_eq, Option, Some, None, unwrap_or, List, [], ◌∷◌, ◌++◌, length, take, drop, get_or, refl, sym, ◌∙◌, ap, append_assoc, arith}
use Rattle.std.specs.List.{list_any}
use Rattle.std.specs.Option.{option_map_or}
use Rattle.std.specs.Borrow.{Bor}
use Rattle.std.specs.Ordering.{nat_cmp}
use Rattle.std.specs.Cmp.Lexicographic.{slice_cmp}
use Rattle.std.specs.Map.{lookup}
use Rattle.std.specs.BTreeMap.{BTreeMap, get_by, is_at}
use Rattle.std.proofs.lemmas.List.{drop_more, take_more, append-nil}
use Rattle.std.proofs.lemmas.List.Folds.{list_any-append}
use Rattle.std.proofs.lemmas.Map.Text.{is_eq-slice_cmp}
use Rattle.std.proofs.lemmas.Int.{fits_signed_from_abs}
use lib.Pointwise.{pointwise}
use Rattle.job_texts.specs.TermText.{Part, total, totals_fit, is_among, are_declared, factor_after, factors_after}
use Rattle.algebra_terms.specs.Reading.{is_part_of, factor_in}
use Rattle.algebra_terms.proofs.Totals.{factor_is, or_false, or_true}
use Rattle.algebra_terms.proofs.Ranges.{same_variable, total_fits}

text_refl : (text : List ℕ) → pointwise nat_eq text text ≡ true
text_refl [] = refl
text_refl (byte ∷ text) = let same : nat_eq byte byte ≡ true = grind arith in rw (same, text_refl text) refl

-- what is left of a variable's factor where the factors of these were taken
abbrev pub left_of : List (List ℕ) → List Part → List ℕ → Option ℤ
left_of taken parts variable = cond (is_among taken variable) None (factor_in parts variable)

-- what is taken for a variable
pub taken_is : (taken : List (List ℕ)) (parts : List Part) (variable : List ℕ)
    → unwrap_or (left_of taken parts variable) (pos 0) ≡ factor_after taken variable parts
taken_is taken parts variable = step (is_among taken variable) refl
  where
    step : (b : Bool) → is_among taken variable ≡ b → unwrap_or (left_of taken parts variable) (pos 0) ≡ factor_after taken variable parts
    step true e = rw e refl
    step false e = rw e (factor_is parts variable)

pub taken_fits : (taken : List (List ℕ)) (parts : List Part) (variable : List ℕ) → totals_fit parts ≡ true → FitsSigned w64 (factor_after taken variable parts)
taken_fits taken parts variable fit = step (is_among taken variable) refl
  where
    step : (b : Bool) → is_among taken variable ≡ b → FitsSigned w64 (factor_after taken variable parts)
    step true e = rw e (fits_signed_from_abs w64 (pos 0) (omega arith))
    step false e = rw e (total_fits parts (Some variable) fit)

-- one more is taken
pub left_more : (taken : List (List ℕ)) (parts : List Part) (variable name : List ℕ)
    → cond (pointwise nat_eq variable name) None (left_of taken parts name) ≡ left_of (taken ++ variable ∷ []) parts name
left_more taken parts variable name = step (pointwise nat_eq variable name) refl (list_any-append (λ other. pointwise nat_eq other name) taken (variable ∷ []))
  where
    step : (b : Bool) → pointwise nat_eq variable name ≡ b
        → is_among (taken ++ variable ∷ []) name ≡ (is_among taken name || (pointwise nat_eq variable name || false))
        → cond (pointwise nat_eq variable name) None (left_of taken parts name) ≡ left_of (taken ++ variable ∷ []) parts name
    step true e among = rw (among, e, or_true) refl
    step false e among = rw (among, e, or_false) refl

pub left_step : (old new : List ℕ → Option ℤ) (variables : List (List ℕ)) (i : ℕ) (d variable : List ℕ) (parts : List Part) → i < length variables
    → variable ≡ get_or variables i d
    → ((name : List ℕ) → old name ≡ left_of (take i variables) parts name)
    → ((name : List ℕ) → new name ≡ cond (pointwise nat_eq variable name) None (old name))
    → (name : List ℕ) → new name ≡ left_of (take (i + 1) variables) parts name
left_step old new variables i d variable parts inside is left changed name =
    let taken : take i variables ++ variable ∷ [] ≡ take (i + 1) variables =
    ap (λ (last : List ℕ). take i variables ++ last ∷ []) is ∙ sym (take_more variables i d inside) in
    changed name ∙ ap (λ (found : Option ℤ). cond (pointwise nat_eq variable name) None found) (left name)
    ∙ left_more (take i variables) parts variable name ∙ ap (λ (taken : List (List ℕ)). left_of taken parts name) taken

pub factors_more : (parts : List Part) (variables : List (List ℕ)) (i : ℕ) (d variable : List ℕ) (front items : List ℤ) (factor : ℤ) → i < length variables
    → variable ≡ get_or variables i d
    → front ++ factors_after (take i variables) (drop i variables) parts ≡ factors_after [] variables parts
    → factor ≡ factor_after (take i variables) variable parts → items ≡ front ++ factor ∷ []
    → items ++ factors_after (take (i + 1) variables) (drop (i + 1) variables) parts ≡ factors_after [] variables parts
factors_more parts variables i d variable front items factor inside at so_far is items_are =
    let step : factors_after (take i variables) (drop i variables) parts
    ≡ factor_after (take i variables) variable parts ∷ factors_after (take (i + 1) variables) (drop (i + 1) variables) parts =
    rw (drop_more variables i d inside, take_more variables i d inside, at) refl in
    rw (items_are, is) (simp append_assoc (rw step at so_far))

none_dropped : (variables : List (List ℕ)) (i : ℕ) → length variables ≤ i → drop i variables ≡ []
none_dropped [] zero h = refl
none_dropped [] (suc i) h = refl
none_dropped (variable ∷ variables) zero h = absurd (omega arith)
none_dropped (variable ∷ variables) (suc i) h = none_dropped variables i (omega arith)

pub none_behind : (parts : List Part) (variables : List (List ℕ)) (i : ℕ) (items : List ℤ) → length variables ≤ i
    → items ++ factors_after (take i variables) (drop i variables) parts ≡ factors_after [] variables parts → factors_after [] variables parts ≡ items
none_behind parts variables i items h so_far = sym so_far ∙ rw (none_dropped variables i h) (append-nil items)

-- ---- nothing is left exactly where every variable is declared

lookup_none : {K X : Type 0} (test : K → Bool) (entries : List (K × X)) → length entries ≡ 0 → lookup test entries ≡ None
lookup_none test [] h = refl
lookup_none test (entry ∷ entries) h = absurd (omega (arith, h))

declared_where_none_left : (all : List Part) (variables : List (List ℕ)) → ((name : List ℕ) → left_of variables all name ≡ None)
    → (parts : List Part) → ((name : List ℕ) → list_any (is_part_of name) parts ≡ true → list_any (is_part_of name) all ≡ true)
    → are_declared variables parts ≡ true
declared_where_none_left all variables none [] inside = refl
declared_where_none_left all variables none (part ∷ parts) inside =
    step part.variable refl (declared_where_none_left all variables none parts (λ name h. inside name (rw h (or_true (is_part_of name part)))))
  where
    among : (name : List ℕ) → part.variable ≡ Some name → (b : Bool) → is_among variables name ≡ b → is_among variables name ≡ true
    among name is true e = e
    among name is false e =
        let own : is_part_of name part ≡ true = rw is (text_refl name) in
        let has : list_any (is_part_of name) all ≡ true = inside name (rw own refl) in
        let left : left_of variables all name ≡ Some (total (Some name) all) = rw (e, has) refl in
        cc (none name, left)

    step : (variable : Option (List ℕ)) → part.variable ≡ variable → are_declared variables parts ≡ true → are_declared variables (part ∷ parts) ≡ true
    step None is others = rw is others
    step (Some name) is others = rw (is, among name is (is_among variables name) refl) others

undeclared : (variables : List (List ℕ)) (name : List ℕ) (parts : List Part) → list_any (is_part_of name) parts ≡ true → is_among variables name ≡ false
    → are_declared variables parts ≡ false
undeclared variables name [] has unknown = cc
undeclared variables name (part ∷ parts) has unknown = step (is_part_of name part) refl has (λ h. undeclared variables name parts h unknown)
  where
    declared : Part → Bool
    declared part = option_map_or (is_among variables) part.variable true

    and_false : (b : Bool) → (b && false) ≡ false
    and_false true = refl
    and_false false = refl

    step : (b : Bool) → is_part_of name part ≡ b → list_any (is_part_of name) (part ∷ parts) ≡ true
        → (list_any (is_part_of name) parts ≡ true → are_declared variables parts ≡ false) → are_declared variables (part ∷ parts) ≡ false
    step true own has others =
        let is : part.variable ≡ Some name = same_variable part.variable (Some name) own in
        rw (is, unknown) refl
    step false own has others = rw (others (rw own at has)) (and_false (option_map_or (is_among variables) part.variable true))

-- the map has what is left
abbrev pub HasLeft : BTreeMap (Bor (List ℕ)) ℤ → List (List ℕ) → List Part → Type 0
HasLeft map taken parts = (name : List ℕ) → get_by (λ key. slice_cmp nat_cmp name key.now) map ≡ left_of taken parts name

pub none_left : (map : BTreeMap (Bor (List ℕ)) ℤ) (variables : List (List ℕ)) (parts : List Part) → HasLeft map variables parts → length map.entries ≡ 0
    → are_declared variables parts ≡ true
none_left map variables parts left empty =
    declared_where_none_left parts variables
    (λ name. sym (left name) ∙ lookup_none (is_at (λ key. slice_cmp nat_cmp name key.now)) map.entries empty)
    parts (λ name h. h)

first_key : (entries : List (Bor (List ℕ) × ℤ)) → (length entries ≡ 0 → ⊥)
    → (name : List ℕ) × (factor : ℤ) × (lookup (is_at (λ key. slice_cmp nat_cmp name key.now)) entries ≡ Some factor)
first_key [] h = absurd (h refl)
first_key (entry ∷ entries) h =
    let same : is_at (λ key. slice_cmp nat_cmp entry.0.now key.now) entry.0 ≡ true = is_eq-slice_cmp entry.0.now entry.0.now ∙ text_refl entry.0.now in
    (entry.0.now, entry.1, rw same refl)

pub some_left : (map : BTreeMap (Bor (List ℕ)) ℤ) (variables : List (List ℕ)) (parts : List Part) → HasLeft map variables parts → (length map.entries ≡ 0 → ⊥)
    → are_declared variables parts ≡ false
some_left map variables parts left nonempty =
    let key = first_key map.entries nonempty in
    step key.0 key.1 (sym (left key.0) ∙ key.2) (is_among variables key.0) refl (list_any (is_part_of key.0) parts) refl
  where
    step : (name : List ℕ) (factor : ℤ) → left_of variables parts name ≡ Some factor → (b : Bool) → is_among variables name ≡ b
        → (b' : Bool) → list_any (is_part_of name) parts ≡ b' → are_declared variables parts ≡ false
    step name factor has true among b' any = cc (rw among at has)
    step name factor has false among true any = undeclared variables name parts any among
    step name factor has false among false any = cc (rw (among, any) at has)
