-- The verdict on a text: the grammar and the words of an accepted text, or the first fault of any other.
use Rattle.std.specs.Prelude.{◌≡◌, ℕ, ◌+◌, nat_eq, pos, Option, Some, None, unwrap_or, Result, Ok, Err, List, [], ◌∷◌, length, map, if◌then◌else◌}
use Rattle.std.specs.List.{filter_map, position, range_with_len, find}
use Rattle.std.specs.Option.{option_map, option_or, option_and_then}
use lib.Pointwise.{pointwise}
use Rattle.adp_model.specs.declared.grammar.Class as classes
use Rattle.adp_model.specs.declared.grammar.Sign as signs
use Rattle.adp_model.specs.declared.grammar.Term.{Term}
use Rattle.adp_model.specs.declared.grammar.Term.TheVariants.{Linear}
use Rattle.adp_model.specs.declared.grammar.Size.{Size}
use Rattle.adp_model.specs.declared.grammar.Algebra as algebras
use Rattle.adp_model.specs.declared.grammar.Arg.{Arg}
use Rattle.adp_model.specs.declared.grammar.Arg.TheVariants as args
use Rattle.adp_model.specs.declared.grammar.Alt.{Alt}
use Rattle.adp_model.specs.declared.grammar.Rule as rules
use Rattle.adp_model.specs.declared.grammar.Grammar.{Grammar}
use Rattle.adp_model.specs.declared.job.Job.{Job}
use Rattle.adp_model.specs.declared.fault.TextFault.{TextFault}
pub use Rattle.job_texts.specs.TermText.{number_among}
use Rattle.job_texts.specs.LetTerms.{term_of}
use Rattle.job_texts.specs.Declarations.{Argument, Named, Spelled, OneOf, RunOf, SizeWords, Alternative, Declaration, Class, Sign, Algebra, Let, Rule, Axiom}
use Rattle.job_texts.specs.DeclaredNames.{TextLines, text_lines, declarations, class_names, sign_names, rule_names, section_of, first_of_list}
use Rattle.job_texts.specs.TextFaults.{bound_of, class_letters, FaultKind, fault_kinds}

-- ---- what the lines declare

abbrev pub declared_class : Declaration → Option classes.Class
declared_class (Class name items) = Some (record { name = name; letters = class_letters items })
declared_class declaration = None

abbrev pub declared_sign : Declaration → Option signs.Sign
declared_sign (Sign name kinds) = Some (record { name = name; kinds = kinds })
declared_sign declaration = None

-- the term that a `let` gives to this sign
abbrev pub term_given : List ℕ → Declaration → Option Term
term_given sign (Let name variables term) = if pointwise nat_eq sign name then Some (term_of variables term) else None
term_given sign declaration = None

-- the term of a sign in a section: the first `let` of it counts
abbrev pub term_in : List Declaration → List ℕ → Term
term_in section sign =
    unwrap_or (first_of_list (filter_map (term_given sign) section)) (Linear (record { constant = pos 0; factors = [] }))

-- the algebras, each with a term for each of these signs
abbrev pub declared_algebras : List (List ℕ) → List Declaration → List algebras.Algebra
declared_algebras signs [] = []
declared_algebras signs (Algebra name goal ∷ declared) =
    record { name = name; goal = goal; terms = map (term_in (section_of declared)) signs }
    ∷ declared_algebras signs declared
declared_algebras signs (declaration ∷ declared) = declared_algebras signs declared

abbrev pub argument_of : List Declaration → Argument → Arg
argument_of declared (Named rule) = args.Rule (number_among (rule_names declared) rule)
argument_of declared (Spelled letters) = args.Literal letters
argument_of declared (OneOf class) = args.Letter (number_among (class_names declared) class)
argument_of declared (RunOf class low high) =
    args.Run (number_among (class_names declared) class) (unwrap_or (bound_of low) 0) (option_and_then bound_of high)

-- the lengths that a size says
abbrev pub size_of : SizeWords → Size
size_of size =
    record { low = unwrap_or (bound_of size.low) 0; high = option_and_then bound_of size.high }

abbrev pub alternative_of : List Declaration → Alternative → Alt
alternative_of declared alternative = record {
  sign = number_among (sign_names declared) alternative.sign;
  args = map (argument_of declared) alternative.arguments;
  size = option_map size_of alternative.size;
}

abbrev pub declared_rule : List Declaration → Declaration → Option rules.Rule
declared_rule declared (Rule name alternatives) =
    Some (record { name = name; alts = map (alternative_of declared) alternatives })
declared_rule declared declaration = None

-- the rule that a `grammar` line names
abbrev pub axiom_name : Declaration → Option (List ℕ)
axiom_name (Axiom rule) = Some rule
axiom_name declaration = None

-- the grammar that lines declare
abbrev pub declared_grammar : List Declaration → Grammar
declared_grammar declared = record {
  classes = filter_map declared_class declared;
  signs = filter_map declared_sign declared;
  algebras = declared_algebras (sign_names declared) declared;
  rules = filter_map (declared_rule declared) declared;
  «axiom» = number_among (rule_names declared) (unwrap_or (first_of_list (filter_map axiom_name declared)) []);
}

-- ---- faults

-- the least kind that stands at a line, with its line and count
abbrev pub fault_at : TextLines → ℕ → Option TextFault
fault_at text line =
    option_map
    (λ (kind : FaultKind). record { line = line; kind = kind.number; count = kind.count text line })
    (find (λ (kind : FaultKind). kind.stands text line) fault_kinds)

-- the first fault at these lines
abbrev pub first_fault_at : TextLines → List ℕ → Option TextFault
first_fault_at text [] = None
first_fault_at text (line ∷ lines) = option_or (fault_at text line) (first_fault_at text lines)

-- the least line with a fault, and the least kind there; one line more than the text has is looked at
abbrev pub first_fault : TextLines → Option TextFault
first_fault text = first_fault_at text (range_with_len 1 (length text.lines + 1))

-- ---- the verdict

-- the parts of a job
pub record Accepted : Type 0 where
  pub version : ℕ
  pub grammar : Grammar
  pub words : List (List ℕ)

abbrev pub accepted_of : TextLines → Accepted
accepted_of text =
    record { version = text.version; grammar = declared_grammar (declarations text); words = text.words }

-- what the lines declare where no line has a fault, else the first fault
abbrev pub lines_verdict : TextLines → Result Accepted TextFault
lines_verdict text = verdict (first_fault text)
  where
    verdict : Option TextFault → Result Accepted TextFault
    verdict None = Ok (accepted_of text)
    verdict (Some fault) = Err fault

abbrev pub text_verdict : List ℕ → Result Accepted TextFault
text_verdict bytes = lines_verdict (text_lines bytes)

-- the bytes are an accepted text, of this job
abbrev pub IsText : List ℕ → Job → Type 0
IsText bytes job =
    text_verdict bytes ≡ Ok (record { version = job.version; grammar = job.grammar; words = job.words })

-- the bytes are no accepted text, and this is their fault
abbrev pub IsFaultOf : List ℕ → TextFault → Type 0
IsFaultOf bytes fault = text_verdict bytes ≡ Err fault
