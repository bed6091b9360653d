-- No kind of fault stands at the spelled lines of algebras and their terms.
use Rattle.std.proofs.Common.{◌≡◌, ℕ, ◌+◌, true, not, nat_eq, List, [], ◌∷◌, ◌++◌, length, map, refl, sym, ◌∙◌, ap, append_assoc, append-nil, arith}
use Rattle.std.specs.List.{list_all, filter_map, flat_map, zip, AllByRecursion}
use Rattle.std.proofs.lemmas.Bool.{and_parts, or_right, or_left, le-ltb}
use Rattle.std.proofs.lemmas.List.Elements.{filter_map-append}
use lib.Pointwise.{pointwise}
use Rattle.adp_model.specs.declared.grammar.Sign.{Sign}
use Rattle.adp_model.specs.declared.grammar.Term.{Term}
use Rattle.adp_model.specs.declared.grammar.Algebra.{Algebra}
use Rattle.adp_model.specs.WellFormed.{is_sign, is_algebra}
use Rattle.job_texts.specs.TermText.{is_among}
use Rattle.job_texts.specs.Declarations.{Declaration}
use Rattle.job_texts.specs.DeclaredNames.{algebra_name_of, algebra_names, sign_names, section_of, let_sign_of, let_signs}
use Rattle.spelled_texts.proofs.Contents.{algebra_declaration, let_declaration, algebra_declarations}
use Rattle.spelled_texts.proofs.Names.{same_bytes, among-append}
use Rattle.spelled_texts.proofs.Terms.{TermLaws}
use Rattle.spelled_texts.proofs.GrammarParts.{name_of_sign, name_of_algebra, algebra_parts, has_form}
use Rattle.spelled_texts.proofs.Sorted.{none_of}
use Rattle.spelled_texts.proofs.DeclaredTerms.{section-append}
use Rattle.spelled_texts.proofs.DeclaredSigns.{IsDeclared}
use Rattle.spelled_texts.proofs.Faultless.{IsFaultless, AreFaultless, faultless-append}
use Rattle.spelled_texts.proofs.FreshNames.{IsFresh, AreFresh, first_fresh, others_fresh}
use Rattle.spelled_texts.proofs.LetFaults.{since_start, lets_faultless}

-- ---- the signs that have a term

let_names : (signs : List Sign) (terms : List Term) → length terms ≡ length signs → filter_map let_sign_of (map let_declaration (zip signs terms)) ≡ map name_of_sign signs
let_names [] terms counted = refl
let_names (sign ∷ signs) [] counted = absurd (omega arith)
let_names (sign ∷ signs) (term ∷ terms) counted = ap (λ (names : List (List ℕ)). sign.name ∷ names) (let_names signs terms (omega arith))

among_behind : (front : List (List ℕ)) (name : List ℕ) (others : List (List ℕ)) → is_among (front ++ name ∷ others) name ≡ true
among_behind front name others =
    among-append name front (name ∷ others)
    ∙ or_right (is_among front name) (is_among (name ∷ others) name) (or_left (pointwise nat_eq name name) (is_among others name) (same_bytes name))

all_among : (front names others : List (List ℕ)) → list_all (is_among (front ++ (names ++ others))) names ≡ true
all_among front [] others = refl
all_among front (name ∷ names) others =
    let behind : list_all (is_among (front ++ (name ∷ (names ++ others)))) names ≡ true =
    ap (λ (known : List (List ℕ)). list_all (is_among known) names) (sym (append_assoc front (name ∷ []) (names ++ others))) ∙ all_among (front ++ name ∷ []) names others in
    rw (among_behind front name (names ++ others), behind) refl

section_complete : (signs : List Sign) (terms : List Term) (rest tail : List Declaration) → length terms ≡ length signs
    → list_all (is_among (let_signs (section_of ((map let_declaration (zip signs terms) ++ rest) ++ tail)))) (map name_of_sign signs) ≡ true
section_complete signs terms rest tail counted =
    let lets = map let_declaration (zip signs terms) in
    let front : let_signs (section_of ((lets ++ rest) ++ tail)) ≡ map name_of_sign signs ++ let_signs (section_of (rest ++ tail)) =
    ap (λ (declared : List Declaration). let_signs (section_of declared)) (append_assoc lets rest tail)
    ∙ ap let_signs (section-append (zip signs terms) (rest ++ tail))
    ∙ filter_map-append let_sign_of lets (section_of (rest ++ tail))
    ∙ ap (λ (names : List (List ℕ)). names ++ let_signs (section_of (rest ++ tail))) (let_names signs terms counted) in
    ap (λ (known : List (List ℕ)). list_all (is_among known) (map name_of_sign signs)) front ∙ all_among [] (map name_of_sign signs) (let_signs (section_of (rest ++ tail)))

-- ---- algebras

module _ (term_laws : TermLaws) (version : ℕ) (all : List Declaration) (signs : List Sign) (names_are : sign_names all ≡ map name_of_sign signs) (sign_fits : list_all is_sign signs ≡ true)
    (declared : AllByRecursion (IsDeclared all) signs) (fresh_signs : AreFresh [] (map name_of_sign signs) 256)
  where
    algebra_faultless : (above rest tail : List Declaration) (algebra : Algebra) → is_algebra signs algebra ≡ true → IsFresh (algebra_names above) algebra.name 16
        → IsFaultless all above (algebra_declaration algebra) ((map let_declaration (zip signs algebra.terms) ++ rest) ++ tail)
    algebra_faultless above rest tail algebra h fresh =
        let is = algebra_parts signs algebra h in
        let below = (map let_declaration (zip signs algebra.terms) ++ rest) ++ tail in
        let complete : list_all (is_among (let_signs (section_of below))) (sign_names all) ≡ true =
        ap (λ (names : List (List ℕ)). list_all (is_among (let_signs (section_of below))) names) names_are ∙ section_complete signs algebra.terms rest tail is.counted in
        record {
          named = rw is.named refl;
          numbered = refl;
          fresh = fresh.other;
          lettered = refl;
          placed = refl;
          one_axiom = refl;
          known = refl;
          fit = refl;
          uncrossed = refl;
          complete = ap not complete;
          counted = rw (le-ltb 16 (length (algebra_names above) + 1) fresh.few) refl;
          once = refl;
        }

    pub algebras_faultless : (above : List Declaration) (algebras : List Algebra) (tail : List Declaration) → list_all (is_algebra signs) algebras ≡ true → list_all (has_form version) algebras ≡ true
        → AreFresh (algebra_names above) (map name_of_algebra algebras) 16 → AreFaultless all above (flat_map (algebra_declarations signs) algebras) tail
    algebras_faultless above [] tail h formed fresh = tt
    algebras_faultless above (algebra ∷ algebras) tail h formed fresh =
        let fits = and_parts (is_algebra signs algebra) (list_all (is_algebra signs) algebras) h in
        let is = algebra_parts signs algebra fits.0 in
        let forms = and_parts (has_form version algebra) (list_all (has_form version) algebras) formed in
        let own = first_fresh (algebra_names above) algebra.name (map name_of_algebra algebras) 16 fresh in
        let lets = map let_declaration (zip signs algebra.terms) in
        let rest = flat_map (algebra_declarations signs) algebras in
        let with_line = above ++ algebra_declaration algebra ∷ [] in
        let more = others_fresh algebra_name_of above (algebra_declaration algebra) algebra.name (map name_of_algebra algebras) 16 refl fresh in
        let same_names : algebra_names (with_line ++ lets) ≡ algebra_names with_line =
        filter_map-append algebra_name_of with_line lets
        ∙ ap (λ (names : List (List ℕ)). algebra_names with_line ++ names) (none_of algebra_name_of let_declaration (λ entry. refl) (zip signs algebra.terms))
        ∙ append-nil (algebra_names with_line) in
        let fresh_more : AreFresh (algebra_names (with_line ++ lets)) (map name_of_algebra algebras) 16 = rw same_names more in (
          algebra_faultless above rest tail algebra fits.0 own,
          faultless-append all with_line lets rest tail
              (lets_faultless term_laws version all with_line [] signs algebra.terms (rest ++ tail) sign_fits is.terms forms.0 declared
              (since_start above (algebra_declaration algebra) refl) fresh_signs)
              (algebras_faultless (with_line ++ lets) algebras tail fits.1 forms.1 fresh_more),
        )
