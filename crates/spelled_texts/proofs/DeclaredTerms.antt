-- The terms that the sections of a spelling give to the signs.
use Rattle.std.proofs.Common.{◌≡◌, ℕ, true, false, List, [], ◌∷◌, ◌++◌, length, map, nat_eq, refl, ap, append_assoc, arith, one-add}
use Rattle.std.specs.List.{list_all, zip, flat_map, AllByRecursion}
use Rattle.std.proofs.lemmas.Bool.{and_parts, or_parts}
use lib.Pointwise.{pointwise}
use Rattle.adp_model.specs.declared.grammar.Sign.{Sign}
use Rattle.adp_model.specs.declared.grammar.Term.{Term}
use Rattle.adp_model.specs.declared.grammar.Algebra.{Algebra}
use Rattle.adp_model.specs.WellFormed.{are_distinct, is_sign, is_term, is_algebra}
use Rattle.job_texts.specs.Spelling.{variables}
use Rattle.job_texts.specs.TermText.{is_among}
use Rattle.job_texts.specs.LetTerms.{term_of}
use Rattle.job_texts.specs.Declarations.{Declaration}
use Rattle.job_texts.specs.DeclaredNames.{section_of}
use Rattle.job_texts.specs.JobText.{term_in, declared_algebras}
use Rattle.spelled_texts.proofs.Contents.{spelled_term, let_declaration, algebra_declarations}
use Rattle.spelled_texts.proofs.Names.{same_bytes, first_is_other}
use Rattle.spelled_texts.proofs.Terms.{TermLaws, is_of_form, term_known}
use Rattle.spelled_texts.proofs.GrammarParts.{name_of_sign, algebra_parts, has_form}

-- what is spelled is read as the term
abbrev IsTermBack : Sign × Term → Type 0
IsTermBack entry = term_of (variables 1 entry.0.kinds) (spelled_term entry.1) ≡ entry.1

terms_skipped : (names : List (List ℕ)) (entry : Sign × Term) (section : List Declaration) → is_among names entry.0.name ≡ false
    → map (term_in (let_declaration entry ∷ section)) names ≡ map (term_in section) names
terms_skipped [] entry section h = refl
terms_skipped (name ∷ names) entry section h =
    let parts = or_parts (pointwise nat_eq name entry.0.name) (is_among names entry.0.name) h in
    rw (parts.0, terms_skipped names entry section parts.1) refl

terms_back : (signs : List Sign) (terms : List Term) (more : List Declaration) → length terms ≡ length signs → are_distinct (map name_of_sign signs) ≡ true
    → AllByRecursion IsTermBack (zip signs terms)
    → map (term_in (map let_declaration (zip signs terms) ++ more)) (map name_of_sign signs) ≡ terms
terms_back [] [] more counted distinct back = refl
terms_back [] (term ∷ terms) more counted distinct back = absurd (omega arith)
terms_back (sign ∷ signs) [] more counted distinct back = absurd (omega arith)
terms_back (sign ∷ signs) (term ∷ terms) more counted distinct back =
    let first = first_is_other sign.name (map name_of_sign signs) distinct in
    rw (
      same_bytes sign.name,
      back.0,
      terms_skipped (map name_of_sign signs) (sign, term) (map let_declaration (zip signs terms) ++ more) first.other,
      terms_back signs terms more (omega arith) first.distinct back.1,
    ) refl

-- the `let` lines at the front of what follows an algebra's line are of its section
pub section-append : (entries : List (Sign × Term)) (more : List Declaration) → section_of (map let_declaration entries ++ more) ≡ map let_declaration entries ++ section_of more
section-append [] more = refl
section-append (entry ∷ entries) more = rw one-add (ap (λ (others : List Declaration). let_declaration entry ∷ others) (section-append entries more))

lets_declare_none : (names : List (List ℕ)) (entries : List (Sign × Term)) (more : List Declaration) → declared_algebras names (map let_declaration entries ++ more) ≡ declared_algebras names more
lets_declare_none names [] more = refl
lets_declare_none names (entry ∷ entries) more = lets_declare_none names entries more

module _ (term_laws : TermLaws) (version : ℕ) (signs : List Sign) (sign_fits : list_all is_sign signs ≡ true) (distinct : are_distinct (map name_of_sign signs) ≡ true) where
  each_back : (signs : List Sign) (terms : List Term) → list_all is_sign signs ≡ true → list_all is_term (zip signs terms) ≡ true → list_all (is_of_form version) terms ≡ true
      → AllByRecursion IsTermBack (zip signs terms)
  each_back [] terms h fit formed = tt
  each_back (sign ∷ signs) [] h fit formed = tt
  each_back (sign ∷ signs) (term ∷ terms) h fit formed =
      let parts = and_parts (is_sign sign) (list_all is_sign signs) h in
      let fits = and_parts (is_term (sign, term)) (list_all is_term (zip signs terms)) fit in
      let forms = and_parts (is_of_form version term) (list_all (is_of_form version) terms) formed in
      ((term_known term_laws version (sign, term) parts.0 fits.0 forms.0).text.back, each_back signs terms parts.1 fits.1 forms.1)

  -- the algebras that are spelled are declared
  pub algebras_back : (algebras : List Algebra) (more : List Declaration) → list_all (is_algebra signs) algebras ≡ true → list_all (has_form version) algebras ≡ true
      → declared_algebras (map name_of_sign signs) (flat_map (algebra_declarations signs) algebras ++ more) ≡ algebras ++ declared_algebras (map name_of_sign signs) more
  algebras_back [] more h formed = refl
  algebras_back (algebra ∷ algebras) more h formed =
      let fits = and_parts (is_algebra signs algebra) (list_all (is_algebra signs) algebras) h in
      let forms = and_parts (has_form version algebra) (list_all (has_form version) algebras) formed in
      let is = algebra_parts signs algebra fits.0 in
      let lets = map let_declaration (zip signs algebra.terms) in
      let rest = flat_map (algebra_declarations signs) algebras in
      let regrouped : (lets ++ rest) ++ more ≡ lets ++ (rest ++ more) = append_assoc lets rest more in
      let terms = terms_back signs algebra.terms (section_of (rest ++ more)) is.counted distinct (each_back signs algebra.terms sign_fits is.terms forms.0) in
      rw (
        regrouped,
        section-append (zip signs algebra.terms) (rest ++ more),
        terms,
        lets_declare_none (map name_of_sign signs) (zip signs algebra.terms)
            (rest ++ more),
        algebras_back algebras more fits.1 forms.1,
      ) refl
