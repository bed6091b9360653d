-- The names that a spelling declares, and the numbers that they stand for.
use Rattle.std.proofs.Common.{◌≡◌, ℕ, ◌<◌, true, List, [], length, map, get_or, refl, sym, ◌∙◌, ap}
use Rattle.std.proofs.lemmas.List.{get_or-map, length-map}
use Rattle.adp_model.specs.declared.grammar.Grammar.{Grammar}
use Rattle.adp_model.specs.Parts.{sign_at}
use Rattle.adp_model.specs.WellFormed.{are_distinct}
use Rattle.job_texts.specs.Spelling.{class_name, rule_name}
use Rattle.job_texts.specs.DeclaredNames.{class_name_of, sign_name_of, rule_name_of, class_names, sign_names, rule_names}
use Rattle.job_texts.specs.JobText.{number_among}
use Rattle.spelled_texts.proofs.Contents.{sign_declaration, rule_declaration}
use Rattle.spelled_texts.proofs.Names.{number_of_name}
use Rattle.spelled_texts.proofs.GrammarParts.{IsFormed, name_of_class, name_of_sign, name_of_rule}
use Rattle.spelled_texts.proofs.Sorted.{all_declarations, each_of, of_classes, of_signs, of_rules}

pub class_names_are : (grammar : Grammar) → class_names (all_declarations grammar) ≡ map name_of_class grammar.classes
class_names_are grammar = of_classes class_name_of name_of_class (λ class. refl) (λ sign. refl) (λ algebra. refl) (λ entry. refl) grammar (λ rule. refl) refl

pub sign_names_are : (grammar : Grammar) → sign_names (all_declarations grammar) ≡ map name_of_sign grammar.signs
sign_names_are grammar =
    of_signs sign_name_of (λ class. refl) (λ algebra. refl) (λ entry. refl) grammar (λ rule. refl) refl
    ∙ each_of sign_name_of sign_declaration name_of_sign (λ sign. refl) grammar.signs

pub rule_names_are : (grammar : Grammar) → rule_names (all_declarations grammar) ≡ map name_of_rule grammar.rules
rule_names_are grammar =
    of_rules rule_name_of (λ class. refl) (λ sign. refl) (λ algebra. refl) (λ entry. refl) grammar refl
    ∙ each_of rule_name_of (rule_declaration grammar) name_of_rule (λ rule. refl) grammar.rules

-- the number of a part's name among the names of all of these parts
number_of_part : {X : Type 0} (name_of : X → List ℕ) (parts : List X) (k : ℕ) (default : X) → are_distinct (map name_of parts) ≡ true → k < length parts
    → number_among (map name_of parts) (name_of (get_or parts k default)) ≡ k
number_of_part name_of parts k default distinct inside =
    let within : k < length (map name_of parts) = simp length-map inside in
    ap (number_among (map name_of parts)) (sym (get_or-map name_of parts k default [] inside)) ∙ number_of_name (map name_of parts) k [] distinct within

module _ (grammar : Grammar) (formed : IsFormed grammar) where
  pub class_number : (class : ℕ) → class < length grammar.classes → number_among (class_names (all_declarations grammar)) (class_name grammar class) ≡ class
  class_number class inside =
      ap (λ (names : List (List ℕ)). number_among names (class_name grammar class)) (class_names_are grammar)
      ∙ number_of_part name_of_class grammar.classes class (record { name = []; letters = [] }) formed.class_names inside

  pub sign_number : (sign : ℕ) → sign < length grammar.signs → number_among (sign_names (all_declarations grammar)) (sign_at grammar sign).name ≡ sign
  sign_number sign inside =
      ap (λ (names : List (List ℕ)). number_among names (sign_at grammar sign).name) (sign_names_are grammar)
      ∙ number_of_part name_of_sign grammar.signs sign (record { name = []; kinds = [] }) formed.sign_names inside

  pub rule_number : (rule : ℕ) → rule < length grammar.rules → number_among (rule_names (all_declarations grammar)) (rule_name grammar rule) ≡ rule
  rule_number rule inside =
      ap (λ (names : List (List ℕ)). number_among names (rule_name grammar rule)) (rule_names_are grammar)
      ∙ number_of_part name_of_rule grammar.rules rule (record { name = []; alts = [] }) formed.rule_names inside
