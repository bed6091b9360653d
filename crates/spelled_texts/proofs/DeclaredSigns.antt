-- The names that a spelling uses are declared, and each sign has its own kinds.
use Rattle.std.proofs.Common.{◌≡◌, ℕ, zero, suc, ◌<◌, true, nat_eq, Some, List, [], ◌∷◌, length, map, get_or, refl, sym, ◌∙◌, ap, arith}
use Rattle.std.specs.List.{filter_map, AllByRecursion}
use Rattle.std.proofs.lemmas.List.{get_or-map, length-map}
use Rattle.std.proofs.lemmas.List.Elements.{All-from_get_or, recursion_from_All}
use lib.Pointwise.{pointwise}
use Rattle.adp_model.specs.declared.grammar.Sign.{Sign}
use Rattle.adp_model.specs.declared.grammar.Grammar.{Grammar}
use Rattle.adp_model.specs.Parts.{sign_at}
use Rattle.adp_model.specs.WellFormed.{are_distinct}
use Rattle.job_texts.specs.Spelling.{class_name, rule_name}
use Rattle.job_texts.specs.TermText.{is_among}
use Rattle.job_texts.specs.Declarations.{Declaration}
use Rattle.job_texts.specs.DeclaredNames.{class_names, sign_names, rule_names, kinds_given, kinds_of_sign, first_of_list}
use Rattle.spelled_texts.proofs.Contents.{sign_declaration}
use Rattle.spelled_texts.proofs.Names.{same_bytes, among_at, differs_at, first_is_other}
use Rattle.spelled_texts.proofs.GrammarParts.{IsFormed, name_of_class, name_of_sign, name_of_rule}
use Rattle.spelled_texts.proofs.Sorted.{all_declarations, of_signs}
use Rattle.spelled_texts.proofs.DeclaredNumbers.{class_names_are, sign_names_are, rule_names_are}

abbrev no_sign : Sign
no_sign = record { name = []; kinds = [] }

kinds_at : (signs : List Sign) (k : ℕ) → are_distinct (map name_of_sign signs) ≡ true → k < length signs
    → first_of_list (filter_map (kinds_given (get_or signs k no_sign).name) (map sign_declaration signs)) ≡ Some (get_or signs k no_sign).kinds
kinds_at [] k distinct inside = absurd (omega arith)
kinds_at (sign ∷ signs) zero distinct inside = rw (same_bytes sign.name) refl
kinds_at (sign ∷ signs) (suc k) distinct inside =
    let within : k < length (map name_of_sign signs) = simp length-map (omega arith) in
    let inner : k < length signs = omega arith in
    let differs = differs_at sign.name (map name_of_sign signs) k [] within distinct in
    let name_is : get_or (map name_of_sign signs) k [] ≡ (get_or signs k no_sign).name = get_or-map name_of_sign signs k no_sign [] inner in
    let differs_so : pointwise nat_eq (get_or signs k no_sign).name sign.name ≡ _ = rw name_is at differs in
    rw differs_so (kinds_at signs k (first_is_other sign.name (map name_of_sign signs) distinct).distinct inner)

among_parts : {X : Type 0} (name_of : X → List ℕ) (parts : List X) (k : ℕ) (default : X) → k < length parts → is_among (map name_of parts) (name_of (get_or parts k default)) ≡ true
among_parts name_of parts k default inside =
    let within : k < length (map name_of parts) = simp length-map inside in
    ap (is_among (map name_of parts)) (sym (get_or-map name_of parts k default [] inside)) ∙ among_at (map name_of parts) k [] within

-- a sign's name is declared, with its kinds
pub record IsDeclared (all : List Declaration) (sign : Sign) : Type 0 where
  pub among : is_among (sign_names all) sign.name ≡ true
  pub kinds : kinds_of_sign all sign.name ≡ Some sign.kinds

module _ (grammar : Grammar) (formed : IsFormed grammar) where
  pub class_declared : (class : ℕ) → class < length grammar.classes → is_among (class_names (all_declarations grammar)) (class_name grammar class) ≡ true
  class_declared class inside =
      ap (λ (names : List (List ℕ)). is_among names (class_name grammar class)) (class_names_are grammar)
      ∙ among_parts name_of_class grammar.classes class (record { name = []; letters = [] }) inside

  pub rule_declared : (rule : ℕ) → rule < length grammar.rules → is_among (rule_names (all_declarations grammar)) (rule_name grammar rule) ≡ true
  rule_declared rule inside =
      ap (λ (names : List (List ℕ)). is_among names (rule_name grammar rule)) (rule_names_are grammar)
      ∙ among_parts name_of_rule grammar.rules rule (record { name = []; alts = [] }) inside

  pub sign_declared : (sign : ℕ) → sign < length grammar.signs → IsDeclared (all_declarations grammar) (sign_at grammar sign)
  sign_declared sign inside = record {
    among = ap (λ (names : List (List ℕ)). is_among names (sign_at grammar sign).name) (sign_names_are grammar) ∙ among_parts name_of_sign grammar.signs sign no_sign inside;
    kinds = ap first_of_list (of_signs (kinds_given (sign_at grammar sign).name) (λ class. refl) (λ algebra. refl) (λ entry. refl) grammar (λ rule. refl) refl)
        ∙ kinds_at grammar.signs sign formed.sign_names inside;
  }

  pub signs_declared : AllByRecursion (IsDeclared (all_declarations grammar)) grammar.signs
  signs_declared =
      recursion_from_All (IsDeclared (all_declarations grammar)) grammar.signs
      (All-from_get_or (IsDeclared (all_declarations grammar)) grammar.signs no_sign sign_declared)
