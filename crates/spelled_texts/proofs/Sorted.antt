-- The declarations of a spelling, taken apart by their sorts.
use Rattle.std.proofs.Common.{◌≡◌, Option, Some, None, List, [], ◌∷◌, ◌++◌, map, refl, sym, ◌∙◌, ap, append-nil, append_assoc}
use Rattle.std.specs.List.{filter_map, flat_map, zip}
use Rattle.std.proofs.lemmas.List.Elements.{filter_map-append}
use Rattle.adp_model.specs.declared.grammar.Class.{Class}
use Rattle.adp_model.specs.declared.grammar.Sign.{Sign}
use Rattle.adp_model.specs.declared.grammar.Term.{Term}
use Rattle.adp_model.specs.declared.grammar.Algebra.{Algebra}
use Rattle.adp_model.specs.declared.grammar.Rule as rules
use Rattle.adp_model.specs.declared.grammar.Grammar.{Grammar}
use Rattle.job_texts.specs.Declarations.{Declaration, Words}
use Rattle.spelled_texts.proofs.Contents.{class_declaration, sign_declaration, algebra_declaration, let_declaration, algebra_declarations, rule_declaration, axiom_declaration, grammar_declarations}

-- all declarations of a spelling
abbrev pub all_declarations : Grammar → List Declaration
all_declarations grammar = grammar_declarations grammar ++ Words ∷ []

pub none_of : {X Y : Type 0} (f : Declaration → Option Y) (declare : X → Declaration) → ((x : X) → f (declare x) ≡ None) → (xs : List X) → filter_map f (map declare xs) ≡ []
none_of f declare none [] = refl
none_of f declare none (x ∷ xs) = rw (none x) (none_of f declare none xs)

pub each_of : {X Y : Type 0} (f : Declaration → Option Y) (declare : X → Declaration) (part : X → Y) → ((x : X) → f (declare x) ≡ Some (part x)) → (xs : List X)
    → filter_map f (map declare xs) ≡ map part xs
each_of f declare part some [] = refl
each_of f declare part some (x ∷ xs) = rw (some x) (ap (λ (others : List _). part x ∷ others) (each_of f declare part some xs))

pub none_of_algebras : {Y : Type 0} (f : Declaration → Option Y) → ((algebra : Algebra) → f (algebra_declaration algebra) ≡ None) → ((entry : Sign × Term) → f (let_declaration entry) ≡ None)
    → (signs : List Sign) (algebras : List Algebra) → filter_map f (flat_map (algebra_declarations signs) algebras) ≡ []
none_of_algebras f none none_let signs [] = refl
none_of_algebras f none none_let signs (algebra ∷ algebras) =
    rw (
      none algebra,
      filter_map-append f (map let_declaration (zip signs algebra.terms)) (flat_map (algebra_declarations signs) algebras),
      none_of f let_declaration none_let
          (zip signs algebra.terms),
    ) (none_of_algebras f none none_let signs algebras)

by_pieces : {Y : Type 0} (f : Declaration → Option Y) (classes signs algebras rules : List Declaration) (last end : Declaration)
    → filter_map f (classes ++ signs ++ algebras ++ rules ++ last ∷ [] ++ end ∷ [])
    ≡ filter_map f classes ++ (filter_map f signs ++ (filter_map f algebras ++ (filter_map f rules ++ filter_map f (last ∷ end ∷ []))))
by_pieces f classes signs algebras rules last end =
    simp (append_assoc, filter_map-append)
    (ap (λ (behind : List _). filter_map f classes ++ (filter_map f signs ++ (filter_map f algebras ++ (filter_map f rules ++ behind)))) (sym (filter_map-append f (last ∷ []) (end ∷ []))))

-- what a sort of declarations gives, sort by sort
by_sorts : {Y : Type 0} (f : Declaration → Option Y) (grammar : Grammar) (classes signs algebras rules last : List Y)
    → filter_map f (map class_declaration grammar.classes) ≡ classes → filter_map f (map sign_declaration grammar.signs) ≡ signs
    → filter_map f (flat_map (algebra_declarations grammar.signs) grammar.algebras) ≡ algebras → filter_map f (map (rule_declaration grammar) grammar.rules) ≡ rules
    → filter_map f (axiom_declaration grammar ∷ Words ∷ []) ≡ last
    → filter_map f (all_declarations grammar) ≡ classes ++ (signs ++ (algebras ++ (rules ++ last)))
by_sorts f grammar classes signs algebras rules last e1 e2 e3 e4 e5 =
    by_pieces f (map class_declaration grammar.classes) (map sign_declaration grammar.signs) (flat_map (algebra_declarations grammar.signs) grammar.algebras)
    (map (rule_declaration grammar) grammar.rules)
    (axiom_declaration grammar) Words
    ∙ rw (e1, e2, e3, e4, e5) refl

-- ---- what a part of a declaration of one sort alone gives

pub of_classes : {Y : Type 0} (f : Declaration → Option Y) (part : Class → Y) → ((class : Class) → f (class_declaration class) ≡ Some (part class))
    → ((sign : Sign) → f (sign_declaration sign) ≡ None) → ((algebra : Algebra) → f (algebra_declaration algebra) ≡ None) → ((entry : Sign × Term) → f (let_declaration entry) ≡ None)
    → (grammar : Grammar) → ((rule : rules.Rule) → f (rule_declaration grammar rule) ≡ None) → filter_map f (axiom_declaration grammar ∷ Words ∷ []) ≡ []
    → filter_map f (all_declarations grammar) ≡ map part grammar.classes
of_classes f part some no_sign no_algebra no_let grammar no_rule no_last =
    by_sorts f grammar (map part grammar.classes) [] [] [] [] (each_of f class_declaration part some grammar.classes) (none_of f sign_declaration no_sign grammar.signs)
    (none_of_algebras f no_algebra no_let grammar.signs grammar.algebras) (none_of f (rule_declaration grammar) no_rule grammar.rules) no_last
    ∙ append-nil (map part grammar.classes)

-- those of signs, where the others give none
pub of_signs : {Y : Type 0} (f : Declaration → Option Y) → ((class : Class) → f (class_declaration class) ≡ None)
    → ((algebra : Algebra) → f (algebra_declaration algebra) ≡ None) → ((entry : Sign × Term) → f (let_declaration entry) ≡ None)
    → (grammar : Grammar) → ((rule : rules.Rule) → f (rule_declaration grammar rule) ≡ None) → filter_map f (axiom_declaration grammar ∷ Words ∷ []) ≡ []
    → filter_map f (all_declarations grammar) ≡ filter_map f (map sign_declaration grammar.signs)
of_signs f no_class no_algebra no_let grammar no_rule no_last =
    by_sorts f grammar [] (filter_map f (map sign_declaration grammar.signs)) [] [] [] (none_of f class_declaration no_class grammar.classes) refl
    (none_of_algebras f no_algebra no_let grammar.signs grammar.algebras) (none_of f (rule_declaration grammar) no_rule grammar.rules) no_last
    ∙ append-nil (filter_map f (map sign_declaration grammar.signs))

pub of_rules : {Y : Type 0} (f : Declaration → Option Y) → ((class : Class) → f (class_declaration class) ≡ None) → ((sign : Sign) → f (sign_declaration sign) ≡ None)
    → ((algebra : Algebra) → f (algebra_declaration algebra) ≡ None) → ((entry : Sign × Term) → f (let_declaration entry) ≡ None)
    → (grammar : Grammar) → filter_map f (axiom_declaration grammar ∷ Words ∷ []) ≡ []
    → filter_map f (all_declarations grammar) ≡ filter_map f (map (rule_declaration grammar) grammar.rules)
of_rules f no_class no_sign no_algebra no_let grammar no_last =
    by_sorts f grammar [] [] [] (filter_map f (map (rule_declaration grammar) grammar.rules)) [] (none_of f class_declaration no_class grammar.classes)
    (none_of f sign_declaration no_sign grammar.signs)
    (none_of_algebras f no_algebra no_let grammar.signs grammar.algebras) refl no_last
    ∙ append-nil (filter_map f (map (rule_declaration grammar) grammar.rules))

-- those of the last two
pub of_last : {Y : Type 0} (f : Declaration → Option Y) → ((class : Class) → f (class_declaration class) ≡ None) → ((sign : Sign) → f (sign_declaration sign) ≡ None)
    → ((algebra : Algebra) → f (algebra_declaration algebra) ≡ None) → ((entry : Sign × Term) → f (let_declaration entry) ≡ None)
    → (grammar : Grammar) → ((rule : rules.Rule) → f (rule_declaration grammar rule) ≡ None)
    → filter_map f (all_declarations grammar) ≡ filter_map f (axiom_declaration grammar ∷ Words ∷ [])
of_last f no_class no_sign no_algebra no_let grammar no_rule =
    by_sorts f grammar [] [] [] [] (filter_map f (axiom_declaration grammar ∷ Words ∷ [])) (none_of f class_declaration no_class grammar.classes) (none_of f sign_declaration no_sign grammar.signs)
    (none_of_algebras f no_algebra no_let grammar.signs grammar.algebras) (none_of f (rule_declaration grammar) no_rule grammar.rules) refl
