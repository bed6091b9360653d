-- The lines of a canonical spelling without their ends, and what each of them declares.
use Rattle.std.proofs.Common.{ℕ, ℤ, pos, negsuc, nat_abs, Bool, true, false, codes, List, [], ◌∷◌, ◌++◌, map, unwrap_or}
use Rattle.std.specs.List.{flat_map, zip}
use Rattle.std.specs.Fmt.{decimal}
use Rattle.std.specs.Option.{option_map}
use Rattle.adp_model.specs.declared.grammar.Class.{Class}
use Rattle.adp_model.specs.declared.grammar.Sign.{Sign}
use Rattle.adp_model.specs.declared.grammar.Term.{Term}
use Rattle.adp_model.specs.declared.grammar.Term.TheVariants.{Linear, Wide}
use Rattle.adp_model.specs.declared.grammar.Size.{Size}
use Rattle.adp_model.specs.declared.grammar.Algebra.{Algebra}
use Rattle.adp_model.specs.declared.grammar.Arg.{Arg}
use Rattle.adp_model.specs.declared.grammar.Arg.TheVariants as args
use Rattle.adp_model.specs.declared.grammar.Alt.{Alt}
use Rattle.adp_model.specs.declared.grammar.Rule as rules
use Rattle.adp_model.specs.declared.grammar.Grammar.{Grammar}
use Rattle.adp_model.specs.Parts.{sign_at}
use Rattle.job_texts.specs.Spelling.{separated, runs_of, run_text, kind_text, goal_text, variables, linear_text, wide_text, term_text, class_name, rule_name, alternative_text}
use Rattle.job_texts.specs.TermParts.{term_parts}
use Rattle.job_texts.specs.WideText.{nought, text_tree}
use Rattle.job_texts.specs.LetTerms.{LetTerm, Parts, Tree}
use Rattle.job_texts.specs.Declarations as forms
use Rattle.job_texts.specs.Declarations.{Item, Argument, Named, Spelled, OneOf, RunOf, SizeWords, Alternative, Declaration}

-- ---- lines

abbrev pub class_content : Class → List ℕ
class_content class = codes "class " ++ class.name ++ codes " =" ++ flat_map run_text (runs_of class.letters)

abbrev pub sign_content : Sign → List ℕ
sign_content sign = codes "sign " ++ sign.name ++ codes "(" ++ separated kind_text (codes ", ") sign.kinds ++ codes ")"

abbrev pub algebra_content : Algebra → List ℕ
algebra_content algebra = codes "algebra " ++ algebra.name ++ codes " " ++ goal_text algebra.goal

abbrev pub let_content : Sign × Term → List ℕ
let_content entry =
    codes "let " ++ entry.0.name ++ codes "(" ++ separated (λ name. name) (codes ", ") (variables 1 entry.0.kinds)
    ++ codes ") = " ++ term_text entry.1

abbrev pub algebra_contents : List Sign → Algebra → List (List ℕ)
algebra_contents signs algebra = algebra_content algebra ∷ map let_content (zip signs algebra.terms)

abbrev pub rule_content : Grammar → rules.Rule → List ℕ
rule_content grammar rule =
    codes "rule " ++ rule.name ++ codes " = " ++ separated (alternative_text grammar) (codes " | ") rule.alts

abbrev pub axiom_content : Grammar → List ℕ
axiom_content grammar = codes "grammar " ++ rule_name grammar grammar.axiom

-- the header lines of a grammar
abbrev pub grammar_contents : Grammar → List (List ℕ)
grammar_contents grammar =
    map class_content grammar.classes ++ map sign_content grammar.signs
    ++ flat_map (algebra_contents grammar.signs) grammar.algebras ++ map (rule_content grammar) grammar.rules
    ++ axiom_content grammar ∷ []

-- ---- declarations

abbrev pub is_negative : ℤ → Bool
is_negative (pos n) = false
is_negative (negsuc n) = true

-- the item of a run of letters
abbrev pub run_item : List ℕ × ℤ → Item
run_item run = record { letters = run.0; negative = is_negative run.1; number = decimal (nat_abs run.1) }

abbrev pub class_declaration : Class → Declaration
class_declaration class = forms.Class class.name (map run_item (runs_of class.letters))

abbrev pub sign_declaration : Sign → Declaration
sign_declaration sign = forms.Sign sign.name sign.kinds

abbrev pub algebra_declaration : Algebra → Declaration
algebra_declaration algebra = forms.Algebra algebra.name algebra.goal

-- what the spelling of a term spells: parts, or a tree
abbrev pub spelled_term : Term → LetTerm
spelled_term (Linear term) = Parts (unwrap_or (term_parts (linear_text term)) [])
spelled_term (Wide term) = Tree (unwrap_or (text_tree (wide_text term)) nought)

abbrev pub let_declaration : Sign × Term → Declaration
let_declaration entry = forms.Let entry.0.name (variables 1 entry.0.kinds) (spelled_term entry.1)

abbrev pub algebra_declarations : List Sign → Algebra → List Declaration
algebra_declarations signs algebra = algebra_declaration algebra ∷ map let_declaration (zip signs algebra.terms)

abbrev pub spelled_argument : Grammar → Arg → Argument
spelled_argument grammar (args.Rule rule) = Named (rule_name grammar rule)
spelled_argument grammar (args.Literal text) = Spelled text
spelled_argument grammar (args.Letter class) = OneOf (class_name grammar class)
spelled_argument grammar (args.Run class low high) =
    RunOf (class_name grammar class) (decimal low) (option_map decimal high)

abbrev pub spelled_size : Size → SizeWords
spelled_size size = record { low = decimal size.low; high = option_map decimal size.high }

abbrev pub spelled_alternative : Grammar → Alt → Alternative
spelled_alternative grammar alternative = record {
  sign = (sign_at grammar alternative.sign).name;
  arguments = map (spelled_argument grammar) alternative.args;
  size = option_map spelled_size alternative.size;
}

abbrev pub rule_declaration : Grammar → rules.Rule → Declaration
rule_declaration grammar rule = forms.Rule rule.name (map (spelled_alternative grammar) rule.alts)

abbrev pub axiom_declaration : Grammar → Declaration
axiom_declaration grammar = forms.Axiom (rule_name grammar grammar.axiom)

-- what the header lines of a grammar declare
abbrev pub grammar_declarations : Grammar → List Declaration
grammar_declarations grammar =
    map class_declaration grammar.classes ++ map sign_declaration grammar.signs
    ++ flat_map (algebra_declarations grammar.signs) grammar.algebras ++ map (rule_declaration grammar) grammar.rules
    ++ axiom_declaration grammar ∷ []
