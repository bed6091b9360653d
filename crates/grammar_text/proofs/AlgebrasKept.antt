-- The algebras of a text without a fault: a term in range for each sign, with a factor for each of its kinds.
use Rattle.std.proofs.Common.{◌≡◌, ℕ, ◌≤◌, Bool, true, false, ◌&&◌, not, nat_eq, nat_le, ◌==◌, Some, None, List, [], ◌∷◌, ◌++◌, length, map, refl, sym, ◌∙◌, ap, subst, arith, eqb-true}
use Rattle.std.specs.List.{list_all, list_any, zip, position_or_len, AllByRecursion}
use Rattle.std.specs.Option.{option_map_or}
use Rattle.std.proofs.lemmas.Bool.{and_parts, and_from, not-false, eq-eqb, le-leb, ltb-false}
use Rattle.std.proofs.lemmas.List.{length-map}
use lib.Pointwise.{pointwise}
use Rattle.adp_model.specs.declared.grammar.Kind.{Kind}
use Rattle.adp_model.specs.declared.grammar.Goal.{Goal}
use Rattle.adp_model.specs.declared.grammar.Sign as signs
use Rattle.adp_model.specs.declared.grammar.Term.{Term}
use Rattle.adp_model.specs.declared.grammar.Term.TheVariants.{Linear}
use Rattle.adp_model.specs.declared.grammar.Algebra as algebras
use Rattle.adp_model.specs.WellFormed.{is_name, is_in_range, is_term, is_algebra, is_wide, most_leaves}
use Rattle.job_texts.specs.TermText.{Part, are_numbers, total, totals_fit, is_among, linear_of, factors_after}
use Rattle.job_texts.specs.WideText.{leaf_count, leaves_are_declared, leaves_are_numbers, names_variable_twice, wide_of}
use Rattle.job_texts.specs.LetTerms.{LetTerm, Parts, Tree, term_of}
use Rattle.job_texts.specs.TextFaults.{limited}
use Rattle.job_texts.specs.Declarations.{Declaration, Class, Sign, Algebra, Let, Rule, Axiom, Words}
use Rattle.job_texts.specs.DeclaredNames.{kinds_of_sign, is_algebra_line, section_of, let_signs, sign_names, algebra_names}
use Rattle.job_texts.specs.JobText.{term_in, declared_algebras}
use Rattle.grammar_text.proofs.Faultless.{Each, IsFaultless, is_over}
use Rattle.grammar_text.proofs.Nothing.{none_passes}
use Rattle.grammar_text.proofs.WideFits.{wide_fits}
use Rattle.grammar_text.proofs.Sorts.{same_text, either_order, each_all, all_take}
use Rattle.grammar_text.proofs.SignKinds.{HasOwnKinds}
use Rattle.grammar_text.proofs.TermsInRange.{total_in_range, factors_in_range, factors_counted}

-- ---- `let` lines

-- what is so of a term of these variables that has no fault
abbrev pub TermFits : List (List ℕ) → LetTerm → Type 0
TermFits variables (Parts parts) = totals_fit parts ≡ true
TermFits variables (Tree tree) =
    (leaves_are_numbers tree ≡ true) × (leaves_are_declared variables tree ≡ true) × (nat_le (leaf_count tree) most_leaves ≡ true) × (names_variable_twice tree ≡ false)

-- the term of a `let` fits, with a variable for each kind of its sign
abbrev pub LetFits : List Declaration → Declaration → Type 0
LetFits all (Let sign variables term) = TermFits variables term × ((kinds : List Kind) → kinds_of_sign all sign ≡ Some kinds → length kinds ≡ length variables)
LetFits all declaration = Unit {0}

term_fits_of : (all above : List Declaration) (sign : List ℕ) (variables : List (List ℕ)) (term : LetTerm) (below : List Declaration) → IsFaultless all above (Let sign variables term) below → TermFits variables term
term_fits_of all above sign variables (Parts parts) below h = (and_parts (are_numbers parts) (totals_fit parts) (not-false (are_numbers parts && totals_fit parts) h.numbered)).1
term_fits_of all above sign variables (Tree tree) below h = (
  not-false (leaves_are_numbers tree) h.numbered,
  (and_parts (is_among (sign_names all) sign) (leaves_are_declared variables tree) (not-false (is_among (sign_names all) sign && leaves_are_declared variables tree) h.known)).1,
  le-leb (leaf_count tree) most_leaves (ltb-false most_leaves (leaf_count tree) (none_passes is_over (limited (leaf_count tree) most_leaves ∷ []) 0 (limited 0 0) (omega arith) h.counted)),
  h.once,
)

let_fits : (all above : List Declaration) (declaration : Declaration) (below : List Declaration) → IsFaultless all above declaration below → LetFits all declaration
let_fits all above (Let sign variables term) below h = (
  term_fits_of all above sign variables term below h,
  (λ kinds e.
      let fit : option_map_or (λ (k : List Kind). not (length k == length variables)) (Some kinds) false ≡ false = subst (λ o. option_map_or (λ (k : List Kind). not (length k == length variables)) o false ≡ false) e h.fit in
      eqb-true (length kinds) (length variables) (not-false (length kinds == length variables) fit)),
)
let_fits all above (Class name items) below h = tt
let_fits all above (Sign name kinds) below h = tt
let_fits all above (Algebra name goal) below h = tt
let_fits all above (Rule name alternatives) below h = tt
let_fits all above (Axiom rule) below h = tt
let_fits all above Words below h = tt

-- ---- a term of a section

linear_fits : (sign : signs.Sign) (variables : List (List ℕ)) (parts : List Part) → totals_fit parts ≡ true → length sign.kinds ≡ length variables → is_term (sign, Linear (linear_of variables parts)) ≡ true
linear_fits sign variables parts h e =
    and_from (is_in_range (total None parts) && list_all is_in_range (factors_after [] variables parts)) (length (factors_after [] variables parts) == length sign.kinds)
    (and_from (is_in_range (total None parts)) (list_all is_in_range (factors_after [] variables parts)) (total_in_range parts None h) (factors_in_range [] variables parts h))
    (eq-eqb (length (factors_after [] variables parts)) (length sign.kinds) (factors_counted [] variables parts ∙ sym e))

fits_sign : (sign : signs.Sign) (variables : List (List ℕ)) (term : LetTerm) → TermFits variables term → length sign.kinds ≡ length variables → is_term (sign, term_of variables term) ≡ true
fits_sign sign variables (Parts parts) h e = linear_fits sign variables parts h e
fits_sign sign variables (Tree tree) h e = subst (λ n. is_wide n (wide_of variables tree) ≡ true) (sym e) (wide_fits variables tree h.0 h.1 h.2 h.3)

term_step : (all section : List Declaration) (sign : signs.Sign) (name : List ℕ) (variables : List (List ℕ)) (term : LetTerm) (same : Bool) → pointwise nat_eq sign.name name ≡ same
    → LetFits all (Let name variables term) → HasOwnKinds all sign → is_among (let_signs (Let name variables term ∷ section)) sign.name ≡ true
    → (is_among (let_signs section) sign.name ≡ true → is_term (sign, term_in section sign.name) ≡ true) → is_term (sign, term_in (Let name variables term ∷ section) sign.name) ≡ true
term_step all section sign name variables term true e fits own h others =
    let known : kinds_of_sign all name ≡ Some sign.kinds = subst (λ n. kinds_of_sign all n ≡ Some sign.kinds) (same_text sign.name name e) own in
    rw e (fits_sign sign variables term fits.0 (fits.1 sign.kinds known))
term_step all section sign name variables term false e fits own h others =
    let apart : pointwise nat_eq name sign.name ≡ false = either_order name sign.name ∙ e in
    rw e (others (rw apart at h))

term_fits : (all section : List Declaration) (sign : signs.Sign) → AllByRecursion (LetFits all) section → HasOwnKinds all sign → is_among (let_signs section) sign.name ≡ true → is_term (sign, term_in section sign.name) ≡ true
term_fits all [] sign fits own h = absurd cc
term_fits all (Let name variables term ∷ section) sign fits own h =
    term_step all section sign name variables term (pointwise nat_eq sign.name name) refl fits.0 own h (term_fits all section sign fits.1 own)
term_fits all (Class name items ∷ section) sign fits own h = term_fits all section sign fits.1 own h
term_fits all (Sign name kinds ∷ section) sign fits own h = term_fits all section sign fits.1 own h
term_fits all (Algebra name goal ∷ section) sign fits own h = term_fits all section sign fits.1 own h
term_fits all (Rule name alternatives ∷ section) sign fits own h = term_fits all section sign fits.1 own h
term_fits all (Axiom rule ∷ section) sign fits own h = term_fits all section sign fits.1 own h
term_fits all (Words ∷ section) sign fits own h = term_fits all section sign fits.1 own h

abbrev sign_name : signs.Sign → List ℕ
sign_name sign = sign.name

terms_fit : (all section : List Declaration) (of : List signs.Sign) → AllByRecursion (LetFits all) section → AllByRecursion (HasOwnKinds all) of → list_all (is_among (let_signs section)) (map sign_name of) ≡ true
    → list_all is_term (zip of (map (term_in section) (map sign_name of))) ≡ true
terms_fit all section [] fits own h = refl
terms_fit all section (sign ∷ of) fits own h =
    let parts = and_parts (is_among (let_signs section) sign.name) (list_all (is_among (let_signs section)) (map sign_name of)) h in
    and_from (is_term (sign, term_in section sign.name)) (list_all is_term (zip of (map (term_in section) (map sign_name of))))
    (term_fits all section sign fits own.0 parts.0) (terms_fit all section of fits own.1 parts.1)

-- ---- algebras

algebra_fits : (all below : List Declaration) (of : List signs.Sign) (name : List ℕ) (goal : Goal) → is_name name ≡ true → AllByRecursion (LetFits all) below → AllByRecursion (HasOwnKinds all) of
    → list_all (is_among (let_signs (section_of below))) (map sign_name of) ≡ true → is_algebra of (record { name = name; goal = goal; terms = map (term_in (section_of below)) (map sign_name of) }) ≡ true
algebra_fits all below of name goal named fits own h =
    let terms : List Term = map (term_in (section_of below)) (map sign_name of) in
    let counted : length terms ≡ length of = length-map (map sign_name of) (term_in (section_of below)) ∙ length-map of sign_name in
    and_from (is_name name && length terms == length of) (list_all is_term (zip of terms))
    (and_from (is_name name) (length terms == length of) named (eq-eqb (length terms) (length of) counted))
    (terms_fit all (section_of below) of (all_take (LetFits all) (position_or_len is_algebra_line below) below fits) own h)

pub algebras_fit : (all above below : List Declaration) (of : List signs.Sign) → Each (IsFaultless all) above below → sign_names all ≡ map sign_name of → AllByRecursion (HasOwnKinds all) of
    → list_all (is_algebra of) (declared_algebras (map sign_name of) below) ≡ true
algebras_fit all above [] of h e own = refl
algebras_fit all above (Algebra name goal ∷ below) of h e own =
    let named : is_name name ≡ true = (and_parts (is_name name) true (and_parts (is_name name && true) true (not-false ((is_name name && true) && true) h.0.named)).0).0 in
    let complete : list_all (is_among (let_signs (section_of below))) (sign_names all) ≡ true = not-false (list_all (is_among (let_signs (section_of below))) (sign_names all)) h.0.complete in
    let complete_of : list_all (is_among (let_signs (section_of below))) (map sign_name of) ≡ true = subst (λ l. list_all (is_among (let_signs (section_of below))) l ≡ true) e complete in
    let fits = each_all (IsFaultless all) (LetFits all) (let_fits all) (above ++ Algebra name goal ∷ []) below h.1 in
    and_from (is_algebra of (record { name = name; goal = goal; terms = map (term_in (section_of below)) (map sign_name of) })) (list_all (is_algebra of) (declared_algebras (map sign_name of) below))
    (algebra_fits all below of name goal named fits own complete_of) (algebras_fit all (above ++ Algebra name goal ∷ []) below of h.1 e own)
algebras_fit all above (Class name items ∷ below) of h e own = algebras_fit all (above ++ Class name items ∷ []) below of h.1 e own
algebras_fit all above (Sign name kinds ∷ below) of h e own = algebras_fit all (above ++ Sign name kinds ∷ []) below of h.1 e own
algebras_fit all above (Let name variables term ∷ below) of h e own = algebras_fit all (above ++ Let name variables term ∷ []) below of h.1 e own
algebras_fit all above (Rule name alternatives ∷ below) of h e own = algebras_fit all (above ++ Rule name alternatives ∷ []) below of h.1 e own
algebras_fit all above (Axiom rule ∷ below) of h e own = algebras_fit all (above ++ Axiom rule ∷ []) below of h.1 e own
algebras_fit all above (Words ∷ below) of h e own = algebras_fit all (above ++ Words ∷ []) below of h.1 e own

-- the names of the algebras
pub algebra_names_kept : (names : List (List ℕ)) (declared : List Declaration) → map (λ (algebra : algebras.Algebra). algebra.name) (declared_algebras names declared) ≡ algebra_names declared
algebra_names_kept names [] = refl
algebra_names_kept names (Algebra name goal ∷ declared) = ap (λ l. name ∷ l) (algebra_names_kept names declared)
algebra_names_kept names (Class name items ∷ declared) = algebra_names_kept names declared
algebra_names_kept names (Sign name kinds ∷ declared) = algebra_names_kept names declared
algebra_names_kept names (Let name variables term ∷ declared) = algebra_names_kept names declared
algebra_names_kept names (Rule name alternatives ∷ declared) = algebra_names_kept names declared
algebra_names_kept names (Axiom rule ∷ declared) = algebra_names_kept names declared
algebra_names_kept names (Words ∷ declared) = algebra_names_kept names declared

-- some algebra is there where an algebra line is
pub some_algebra : (declared : List Declaration) → list_any is_algebra_line declared ≡ true → 1 ≤ length (algebra_names declared)
some_algebra [] h = absurd cc
some_algebra (Algebra name goal ∷ declared) h = omega arith
some_algebra (Class name items ∷ declared) h = some_algebra declared h
some_algebra (Sign name kinds ∷ declared) h = some_algebra declared h
some_algebra (Let name variables term ∷ declared) h = some_algebra declared h
some_algebra (Rule name alternatives ∷ declared) h = some_algebra declared h
some_algebra (Axiom rule ∷ declared) h = some_algebra declared h
some_algebra (Words ∷ declared) h = some_algebra declared h
