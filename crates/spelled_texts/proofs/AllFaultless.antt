-- No kind of fault stands at any declaration of a spelling.
use Rattle.std.proofs.Common.{◌≡◌, ℕ, ◌≤◌, Bool, true, false, List, [], ◌∷◌, ◌++◌, length, map, refl, ◌∙◌, arith}
use Rattle.std.specs.List.{list_all, list_any, flat_map, zip}
use Rattle.std.proofs.lemmas.Bool.{or_from, or_right, or_left}
use Rattle.std.proofs.lemmas.List.{length-map}
use Rattle.std.proofs.lemmas.List.Elements.{filter_map-append}
use Rattle.std.proofs.lemmas.List.Folds.{list_any-append}
use Rattle.adp_model.specs.declared.grammar.Sign.{Sign}
use Rattle.adp_model.specs.declared.grammar.Algebra.{Algebra}
use Rattle.adp_model.specs.declared.grammar.Grammar.{Grammar}
use Rattle.job_texts.specs.Declarations.{Declaration, Words}
use Rattle.job_texts.specs.DeclaredNames.{sign_name_of, algebra_name_of, rule_name_of, class_names, sign_names, algebra_names, rule_names, is_algebra_line}
use Rattle.job_texts.specs.TextFaults.{is_axiom_line}
use Rattle.adp_model.specs.WellFormed.{are_distinct}
use Rattle.spelled_texts.proofs.Contents.{class_declaration, sign_declaration, let_declaration, algebra_declarations, rule_declaration, axiom_declaration}
use Rattle.spelled_texts.proofs.Terms.{TermLaws}
use Rattle.spelled_texts.proofs.GrammarParts.{IsFormed, name_of_class, name_of_sign, name_of_algebra, name_of_rule, rule_named, has_form}
use Rattle.spelled_texts.proofs.Sorted.{all_declarations, none_of, none_of_algebras}
use Rattle.spelled_texts.proofs.DeclaredNumbers.{sign_names_are}
use Rattle.spelled_texts.proofs.DeclaredSigns.{signs_declared, rule_declared}
use Rattle.spelled_texts.proofs.Faultless.{IsFaultless, AreFaultless, faultless-append}
use Rattle.spelled_texts.proofs.FreshNames.{AreFresh}
use Rattle.spelled_texts.proofs.ClassFaults.{classes_faultless}
use Rattle.spelled_texts.proofs.SignFaults.{signs_faultless}
use Rattle.spelled_texts.proofs.AlgebraFaults.{algebras_faultless}
use Rattle.spelled_texts.proofs.RuleFaults.{rules_faultless}

-- ---- lines that are no axiom's

none_any : {X : Type 0} (test : Declaration → Bool) (declare : X → Declaration) → ((x : X) → test (declare x) ≡ false) → (xs : List X) → list_any test (map declare xs) ≡ false
none_any test declare none [] = refl
none_any test declare none (x ∷ xs) = rw (none x) (none_any test declare none xs)

no_axiom_in_algebras : (signs : List Sign) (algebras : List Algebra) → list_any is_axiom_line (flat_map (algebra_declarations signs) algebras) ≡ false
no_axiom_in_algebras signs [] = refl
no_axiom_in_algebras signs (algebra ∷ algebras) =
    list_any-append is_axiom_line (map let_declaration (zip signs algebra.terms)) (flat_map (algebra_declarations signs) algebras)
    ∙ or_from _ _ (none_any is_axiom_line let_declaration (λ entry. refl) (zip signs algebra.terms)) (no_axiom_in_algebras signs algebras)

-- ---- the sorts, one after the other

-- names that are the first of their sort
first_names : {X : Type 0} (name_of : X → List ℕ) (parts : List X) (above : List (List ℕ)) (limit : ℕ) → above ≡ [] → are_distinct (map name_of parts) ≡ true → length parts ≤ limit
    → AreFresh above (map name_of parts) limit
first_names name_of parts above limit none distinct few =
    let count : length (map name_of parts) ≤ limit = simp length-map few in
    rw none (record { distinct = distinct; few = omega arith })

module _ (term_laws : TermLaws) (version : ℕ) (grammar : Grammar) (formed : IsFormed grammar) (terms : list_all (has_form version) grammar.algebras ≡ true) where
  abbrev class_lines : List Declaration
  class_lines = map class_declaration grammar.classes

  abbrev sign_lines : List Declaration
  sign_lines = map sign_declaration grammar.signs

  abbrev algebra_part : List Declaration
  algebra_part = flat_map (algebra_declarations grammar.signs) grammar.algebras

  abbrev rule_lines : List Declaration
  rule_lines = map (rule_declaration grammar) grammar.rules

  abbrev axiom_part : List Declaration
  axiom_part = axiom_declaration grammar ∷ []

  abbrev all : List Declaration
  all = all_declarations grammar

  no_sign_names : sign_names class_lines ≡ []
  no_sign_names = none_of sign_name_of class_declaration (λ class. refl) grammar.classes

  no_algebra_names : algebra_names (class_lines ++ sign_lines) ≡ []
  no_algebra_names =
      filter_map-append algebra_name_of class_lines sign_lines
      ∙ rw (none_of algebra_name_of class_declaration (λ class. refl) grammar.classes) (none_of algebra_name_of sign_declaration (λ sign. refl) grammar.signs)

  no_rule_names : rule_names (class_lines ++ sign_lines ++ algebra_part) ≡ []
  no_rule_names =
      let front : rule_names (class_lines ++ sign_lines) ≡ [] =
      filter_map-append rule_name_of class_lines sign_lines
      ∙ rw (none_of rule_name_of class_declaration (λ class. refl) grammar.classes) (none_of rule_name_of sign_declaration (λ sign. refl) grammar.signs) in
      filter_map-append rule_name_of (class_lines ++ sign_lines) algebra_part
      ∙ rw front (none_of_algebras rule_name_of (λ algebra. refl) (λ entry. refl) grammar.signs grammar.algebras)

  no_axiom_above : list_any is_axiom_line (class_lines ++ sign_lines ++ algebra_part ++ rule_lines) ≡ false
  no_axiom_above =
      list_any-append is_axiom_line (class_lines ++ sign_lines ++ algebra_part) rule_lines
      ∙ or_from _ _
      (list_any-append is_axiom_line (class_lines ++ sign_lines) algebra_part
      ∙ or_from _ _
      (list_any-append is_axiom_line class_lines sign_lines
      ∙ or_from _ _ (none_any is_axiom_line class_declaration (λ class. refl) grammar.classes) (none_any is_axiom_line sign_declaration (λ sign. refl) grammar.signs))
      (no_axiom_in_algebras grammar.signs grammar.algebras))
      (none_any is_axiom_line (rule_declaration grammar) (λ rule. refl) grammar.rules)

  axiom_faultless : (below : List Declaration) → IsFaultless all (class_lines ++ sign_lines ++ algebra_part ++ rule_lines) (axiom_declaration grammar) below
  axiom_faultless below = record {
    named = rw (rule_named grammar formed grammar.axiom formed.axiom_known) refl;
    numbered = refl;
    fresh = refl;
    lettered = refl;
    placed = refl;
    one_axiom = no_axiom_above;
    known = rw (rule_declared grammar formed grammar.axiom formed.axiom_known) refl;
    fit = refl;
    uncrossed = refl;
    complete = refl;
    counted = refl;
    once = refl;
  }

  words_faultless : (above below : List Declaration) → IsFaultless all above Words below
  words_faultless above below = record {
    named = refl;
    numbered = refl;
    fresh = refl;
    lettered = refl;
    placed = refl;
    one_axiom = refl;
    known = refl;
    fit = refl;
    uncrossed = refl;
    complete = refl;
    counted = refl;
    once = refl;
  }

  pub all_faultless : AreFaultless all [] all []
  all_faultless =
      let fresh_classes = first_names name_of_class grammar.classes (class_names []) 64 refl formed.class_names formed.few_classes in
      let fresh_signs = first_names name_of_sign grammar.signs (sign_names class_lines) 256 no_sign_names formed.sign_names formed.few_signs in
      let fresh_lets = first_names name_of_sign grammar.signs [] 256 refl formed.sign_names formed.few_signs in
      let fresh_algebras = first_names name_of_algebra grammar.algebras (algebra_names (class_lines ++ sign_lines)) 16 no_algebra_names formed.algebra_names formed.few_algebras in
      let fresh_rules = first_names name_of_rule grammar.rules (rule_names (class_lines ++ sign_lines ++ algebra_part)) 128 no_rule_names formed.rule_names formed.few_rules in
      let classes = classes_faultless all [] grammar.classes (sign_lines ++ (algebra_part ++ (rule_lines ++ (axiom_part ++ Words ∷ [])))) formed.classes fresh_classes in
      let signs = signs_faultless all class_lines grammar.signs (algebra_part ++ (rule_lines ++ (axiom_part ++ Words ∷ []))) formed.signs fresh_signs in
      let algebras = algebras_faultless term_laws version all grammar.signs (sign_names_are grammar) formed.signs (signs_declared grammar formed) fresh_lets
      (class_lines ++ sign_lines) grammar.algebras (rule_lines ++ (axiom_part ++ Words ∷ [])) formed.algebras terms fresh_algebras in
      let rules = rules_faultless grammar formed (class_lines ++ sign_lines ++ algebra_part) grammar.rules (axiom_part ++ Words ∷ []) formed.rules fresh_rules in
      faultless-append all [] (class_lines ++ sign_lines ++ algebra_part ++ rule_lines ++ axiom_part) (Words ∷ []) []
      (faultless-append all [] (class_lines ++ sign_lines ++ algebra_part ++ rule_lines) axiom_part (Words ∷ [])
      (faultless-append all [] (class_lines ++ sign_lines ++ algebra_part) rule_lines (axiom_part ++ Words ∷ [])
      (faultless-append all [] (class_lines ++ sign_lines) algebra_part (rule_lines ++ (axiom_part ++ Words ∷ []))
      (faultless-append all [] class_lines sign_lines (algebra_part ++ (rule_lines ++ (axiom_part ++ Words ∷ []))) classes signs)
      algebras)
      rules)
      (axiom_faultless (Words ∷ []), tt))
      (words_faultless (class_lines ++ sign_lines ++ algebra_part ++ rule_lines ++ axiom_part) [], tt)

  -- ---- some algebra, some axiom

  pub some_axiom : list_any is_axiom_line all ≡ true
  some_axiom =
      list_any-append is_axiom_line (class_lines ++ sign_lines ++ algebra_part ++ rule_lines ++ axiom_part) (Words ∷ [])
      ∙ or_left _ _ (list_any-append is_axiom_line (class_lines ++ sign_lines ++ algebra_part ++ rule_lines) axiom_part ∙ or_right _ _ refl)

  some_algebra_line : (algebras : List Algebra) → 1 ≤ length algebras → list_any is_algebra_line (flat_map (algebra_declarations grammar.signs) algebras) ≡ true
  some_algebra_line [] some = absurd (omega arith)
  some_algebra_line (algebra ∷ algebras) some = refl

  pub some_algebra : list_any is_algebra_line all ≡ true
  some_algebra =
      list_any-append is_algebra_line (class_lines ++ sign_lines ++ algebra_part ++ rule_lines ++ axiom_part) (Words ∷ [])
      ∙ or_left _ _
      (list_any-append is_algebra_line (class_lines ++ sign_lines ++ algebra_part ++ rule_lines) axiom_part
      ∙ or_left _ _
      (list_any-append is_algebra_line (class_lines ++ sign_lines ++ algebra_part) rule_lines
      ∙ or_left _ _
      (list_any-append is_algebra_line (class_lines ++ sign_lines) algebra_part ∙ or_right _ _ (some_algebra_line grammar.algebras formed.some_algebras))))
