-- The grammar that a spelling declares is the grammar that is spelled.
use Rattle.std.proofs.Common.{◌≡◌, ◌≤◌, ℕ, true, Option, Some, None, unwrap_or, List, [], ◌∷◌, ◌++◌, map, refl, ◌∙◌, ap, append_assoc, append-nil}
use Rattle.std.specs.List.{list_all, filter_map, flat_map, AllByRecursion}
use Rattle.std.specs.Fmt.{decimal}
use Rattle.std.specs.Option.{option_map, option_and_then}
use Rattle.std.proofs.lemmas.Bool.{and_parts}
use Rattle.std.proofs.lemmas.List.{map-id}
use Rattle.adp_model.specs.declared.grammar.Class.{Class}
use Rattle.adp_model.specs.declared.grammar.Sign.{Sign}
use Rattle.adp_model.specs.declared.grammar.Algebra.{Algebra}
use Rattle.adp_model.specs.declared.grammar.Arg.{Arg}
use Rattle.adp_model.specs.declared.grammar.Arg.TheVariants as args
use Rattle.adp_model.specs.declared.grammar.Alt.{Alt}
use Rattle.adp_model.specs.declared.grammar.Size.{Size}
use Rattle.adp_model.specs.declared.grammar.Rule as rules
use Rattle.adp_model.specs.declared.grammar.Grammar.{Grammar}
use Rattle.adp_model.specs.WellFormed.{is_class, is_rule}
use Rattle.job_texts.specs.Spelling.{runs_of, rule_name}
use Rattle.job_texts.specs.Declarations.{Declaration, Words}
use Rattle.job_texts.specs.DeclaredNames.{sign_names, rule_names, first_of_list}
use Rattle.job_texts.specs.TextFaults.{bound_of, class_letters}
use Rattle.job_texts.specs.JobText.{number_among, declared_class, declared_sign, declared_algebras, argument_of, size_of, alternative_of, declared_rule, axiom_name, declared_grammar}
use Rattle.spelled_texts.proofs.Numbers.{bound_of_decimal}
use Rattle.spelled_texts.proofs.Contents.{run_item, class_declaration, sign_declaration, algebra_declarations, spelled_argument, spelled_size, spelled_alternative, rule_declaration, axiom_declaration}
use Rattle.spelled_texts.proofs.Runs.{letters_back}
use Rattle.spelled_texts.proofs.ClassLines.{class_parts}
use Rattle.spelled_texts.proofs.RuleLines.{IsHigh, IsSize}
use Rattle.spelled_texts.proofs.Terms.{TermLaws}
use Rattle.spelled_texts.proofs.GrammarParts.{IsFormed, IsArgument, Fits, rule_fits, name_of_sign, has_form}
use Rattle.spelled_texts.proofs.Sorted.{all_declarations, each_of, of_classes, of_signs, of_rules, of_last}
use Rattle.spelled_texts.proofs.DeclaredNumbers.{sign_names_are, class_number, sign_number, rule_number}
use Rattle.spelled_texts.proofs.DeclaredTerms.{algebras_back}

-- ---- classes and signs

abbrev class_again : Class → Class
class_again class = record { name = class.name; letters = class_letters (map run_item (runs_of class.letters)) }

classes_again : (classes : List Class) → list_all is_class classes ≡ true → map class_again classes ≡ classes
classes_again [] h = refl
classes_again (class ∷ classes) h =
    let parts = and_parts (is_class class) (list_all is_class classes) h in
    let letters = letters_back class.letters (class_parts class parts.0).entries in
    rw (letters, classes_again classes parts.1) refl

classes_back : (grammar : Grammar) → IsFormed grammar → filter_map declared_class (all_declarations grammar) ≡ grammar.classes
classes_back grammar formed =
    of_classes declared_class class_again (λ class. refl) (λ sign. refl) (λ algebra. refl) (λ entry. refl) grammar (λ rule. refl) refl
    ∙ classes_again grammar.classes formed.classes

signs_back : (grammar : Grammar) → filter_map declared_sign (all_declarations grammar) ≡ grammar.signs
signs_back grammar =
    of_signs declared_sign (λ class. refl) (λ algebra. refl) (λ entry. refl) grammar (λ rule. refl) refl
    ∙ each_of declared_sign sign_declaration (λ sign. sign) (λ sign. refl) grammar.signs
    ∙ map-id grammar.signs

-- ---- rules

high_back : (low : ℕ) (high : Option ℕ) → IsHigh low high → option_and_then bound_of (option_map decimal high) ≡ high
high_back low None is = refl
high_back low (Some high) is = bound_of_decimal high is.1

bounds_back : (low : ℕ) (high : Option ℕ) → low ≤ 1000000 → IsHigh low high → size_of (record { low = decimal low; high = option_map decimal high }) ≡ record { low = low; high = high }
bounds_back low high small is =
    let low_is : unwrap_or (bound_of (decimal low)) 0 ≡ low = rw (bound_of_decimal low small) refl in
    let high_is = high_back low high is in
    λ i. record { low = low_is i; high = high_is i }

size_back : (size : Option Size) → IsSize size → option_map size_of (option_map spelled_size size) ≡ size
size_back None is = refl
size_back (Some size) is = ap (λ (of : Size). Some of) (bounds_back size.low size.high is.0 is.1)

module _ (grammar : Grammar) (formed : IsFormed grammar) where
  argument_again : (argument : Arg) → IsArgument grammar argument → argument_of (all_declarations grammar) (spelled_argument grammar argument) ≡ argument
  argument_again (args.Rule rule) is = ap args.Rule (rule_number grammar formed rule is)
  argument_again (args.Literal text) is = refl
  argument_again (args.Letter class) is = ap args.Letter (class_number grammar formed class is)
  argument_again (args.Run class low high) is =
      let number = class_number grammar formed class is.0 in
      let low_is : unwrap_or (bound_of (decimal low)) 0 ≡ low = rw (bound_of_decimal low is.1) refl in
      let high_is = high_back low high is.2 in
      λ i. args.Run (number i) (low_is i) (high_is i)

  arguments_again : (arguments : List Arg) → AllByRecursion (IsArgument grammar) arguments → map (argument_of (all_declarations grammar)) (map (spelled_argument grammar) arguments) ≡ arguments
  arguments_again [] are = refl
  arguments_again (argument ∷ arguments) are =
      let first = argument_again argument are.0 in
      let others = arguments_again arguments are.1 in
      λ i. first i ∷ others i

  alternatives_again : (alternatives : List Alt) → AllByRecursion (Fits grammar) alternatives
      → map (alternative_of (all_declarations grammar)) (map (spelled_alternative grammar) alternatives) ≡ alternatives
  alternatives_again [] are = refl
  alternatives_again (alternative ∷ alternatives) are =
      let sign = sign_number grammar formed alternative.sign are.0.known in
      let arguments = arguments_again alternative.args are.0.arguments in
      let size = size_back alternative.size are.0.bounded in
      let others = alternatives_again alternatives are.1 in
      λ i. record { sign = sign i; args = arguments i; size = size i } ∷ others i

  abbrev rule_again : rules.Rule → rules.Rule
  rule_again rule = record { name = rule.name; alts = map (alternative_of (all_declarations grammar)) (map (spelled_alternative grammar) rule.alts) }

  rules_again : (rules : List rules.Rule) → list_all (is_rule grammar) rules ≡ true → map rule_again rules ≡ rules
  rules_again [] h = refl
  rules_again (rule ∷ rules) h =
      let parts = and_parts (is_rule grammar rule) (list_all (is_rule grammar) rules) h in
      let alternatives = alternatives_again rule.alts (rule_fits grammar rule parts.0).each in
      let others = rules_again rules parts.1 in
      λ i. record { name = rule.name; alts = alternatives i } ∷ others i

  rules_back : filter_map (declared_rule (all_declarations grammar)) (all_declarations grammar) ≡ grammar.rules
  rules_back =
      let of = declared_rule (all_declarations grammar) in
      of_rules of (λ class. refl) (λ sign. refl) (λ algebra. refl) (λ entry. refl) grammar refl
      ∙ each_of of (rule_declaration grammar) rule_again (λ rule. refl) grammar.rules
      ∙ rules_again grammar.rules formed.rules

  -- ---- algebras and the axiom

  axiom_back : number_among (rule_names (all_declarations grammar)) (unwrap_or (first_of_list (filter_map axiom_name (all_declarations grammar))) []) ≡ grammar.axiom
  axiom_back =
      let found : filter_map axiom_name (all_declarations grammar) ≡ rule_name grammar grammar.axiom ∷ [] =
      of_last axiom_name (λ class. refl) (λ sign. refl) (λ algebra. refl) (λ entry. refl) grammar (λ rule. refl) in
      ap (λ (names : List (List ℕ)). number_among (rule_names (all_declarations grammar)) (unwrap_or (first_of_list names) [])) found
      ∙ rule_number grammar formed grammar.axiom formed.axiom_known

  classes_declare_none : (names : List (List ℕ)) (classes : List Class) (more : List Declaration) → declared_algebras names (map class_declaration classes ++ more) ≡ declared_algebras names more
  classes_declare_none names [] more = refl
  classes_declare_none names (class ∷ classes) more = classes_declare_none names classes more

  signs_declare_none : (names : List (List ℕ)) (signs : List Sign) (more : List Declaration) → declared_algebras names (map sign_declaration signs ++ more) ≡ declared_algebras names more
  signs_declare_none names [] more = refl
  signs_declare_none names (sign ∷ signs) more = signs_declare_none names signs more

  rules_declare_none : (names : List (List ℕ)) (rules : List rules.Rule) (more : List Declaration)
      → declared_algebras names (map (rule_declaration grammar) rules ++ more) ≡ declared_algebras names more
  rules_declare_none names [] more = refl
  rules_declare_none names (rule ∷ rules) more = rules_declare_none names rules more

  all_algebras_back : TermLaws → (version : ℕ) → list_all (has_form version) grammar.algebras ≡ true
      → declared_algebras (sign_names (all_declarations grammar)) (all_declarations grammar) ≡ grammar.algebras
  all_algebras_back term_laws version forms =
      let names = map name_of_sign grammar.signs in
      let classes = map class_declaration grammar.classes in
      let signs = map sign_declaration grammar.signs in
      let algebras = flat_map (algebra_declarations grammar.signs) grammar.algebras in
      let rules = map (rule_declaration grammar) grammar.rules in
      let last : List Declaration = axiom_declaration grammar ∷ Words ∷ [] in
      let regrouped : all_declarations grammar ≡ classes ++ (signs ++ (algebras ++ (rules ++ last))) = simp append_assoc in
      ap (λ (of : List (List ℕ)). declared_algebras of (all_declarations grammar)) (sign_names_are grammar)
      ∙ ap (declared_algebras names) regrouped
      ∙ classes_declare_none names grammar.classes (signs ++ (algebras ++ (rules ++ last)))
      ∙ signs_declare_none names grammar.signs (algebras ++ (rules ++ last))
      ∙ algebras_back term_laws version grammar.signs formed.signs formed.sign_names grammar.algebras (rules ++ last) formed.algebras forms
      ∙ ap (λ (others : List Algebra). grammar.algebras ++ others) (rules_declare_none names grammar.rules last)
      ∙ append-nil grammar.algebras

  -- the grammar is read back
  pub grammar_back : TermLaws → (version : ℕ) → list_all (has_form version) grammar.algebras ≡ true → declared_grammar (all_declarations grammar) ≡ grammar
  grammar_back term_laws version forms =
      let classes = classes_back grammar formed in
      let signs = signs_back grammar in
      let algebras = all_algebras_back term_laws version forms in
      let rules = rules_back in
      let start = axiom_back in
      λ i. record { classes = classes i; signs = signs i; algebras = algebras i; rules = rules i; «axiom» = start i }
