-- The canonical spelling of a job, in its text format.
use Rattle.std.specs.Prelude.{ℕ, ◌+◌, ℤ, pos, negsuc, zero, suc, Option, Some, None, List, [], ◌∷◌, ◌++◌, codes, if◌then◌else◌}
use Rattle.std.specs.Ordering.{int_eq}
use Rattle.std.specs.Fmt.{decimal, signed_decimal}
use Rattle.std.specs.List.{flat_map, join_by, zip}
use Rattle.adp_model.specs.Ascii.{small_x, space}
use Rattle.adp_model.specs.declared.grammar.Class.{Class}
use Rattle.adp_model.specs.declared.grammar.Kind.{Kind}
use Rattle.adp_model.specs.declared.grammar.Kind.TheVariants.{Score, Token}
use Rattle.adp_model.specs.declared.grammar.Sign.{Sign}
use Rattle.adp_model.specs.declared.grammar.Linear as linear
use Rattle.adp_model.specs.WideForm.{WideForm, Number, Value, Sum, Difference, Product, Greater, Lesser}
use Rattle.adp_model.specs.declared.grammar.Term.{Term}
use Rattle.adp_model.specs.declared.grammar.Term.TheVariants.{Linear, Wide}
use Rattle.adp_model.specs.declared.grammar.Size.{Size}
use Rattle.adp_model.specs.declared.grammar.Goal.{Goal}
use Rattle.adp_model.specs.declared.grammar.Goal.TheVariants.{Least, Greatest}
use Rattle.adp_model.specs.declared.grammar.Algebra.{Algebra}
use Rattle.adp_model.specs.declared.grammar.Arg.{Arg}
use Rattle.adp_model.specs.declared.grammar.Arg.TheVariants.{Rule, Literal, Letter, Run}
use Rattle.adp_model.specs.declared.grammar.Alt.{Alt}
use Rattle.adp_model.specs.declared.grammar.Grammar.{Grammar}
use Rattle.adp_model.specs.declared.job.Job.{Job}
use Rattle.adp_model.specs.declared.grammar.Rule as rules
use Rattle.adp_model.specs.Parts.{class_at, sign_at, rule_at}
use Rattle.adp_model.specs.TreeText.{quoted}
use Rattle.adp_model.specs.Report.{line}

-- texts with a separator between two
abbrev pub separated : {X : Type 0} → (X → List ℕ) → List ℕ → List X → List ℕ
separated text separator items = join_by text separator items

-- a letter before letters of equal weight joins them
abbrev pub join_run : ℕ × ℤ → List (List ℕ × ℤ) → List (List ℕ × ℤ)
join_run entry [] = (entry.0 ∷ [], entry.1) ∷ []
join_run entry (run ∷ runs) =
    if int_eq entry.1 run.1 then (entry.0 ∷ run.0, run.1) ∷ runs else (entry.0 ∷ [], entry.1) ∷ run ∷ runs

-- the longest runs of neighbouring letters of equal weight, each with its weight
abbrev pub runs_of : List (ℕ × ℤ) → List (List ℕ × ℤ)
runs_of [] = []
runs_of (entry ∷ entries) = join_run entry (runs_of entries)

-- ` "ab" 5`
abbrev pub run_text : List ℕ × ℤ → List ℕ
run_text run = space ∷ quoted run.0 ++ space ∷ signed_decimal run.1

-- `class NAME = "ab" 5 "c" -2`
abbrev pub class_line : Class → List ℕ
class_line class = line (codes "class " ++ class.name ++ codes " =" ++ flat_map run_text (runs_of class.letters))

abbrev pub kind_text : Kind → List ℕ
kind_text Score = codes "score"
kind_text Token = codes "token"

-- `sign NAME(token, score)`
abbrev pub sign_line : Sign → List ℕ
sign_line sign =
    line (codes "sign " ++ sign.name ++ codes "(" ++ separated kind_text (codes ", ") sign.kinds ++ codes ")")

abbrev pub goal_text : Goal → List ℕ
goal_text Least = codes "min"
goal_text Greatest = codes "max"

-- `x1`, `x2` and so on, one for each kind
abbrev pub variables : ℕ → List Kind → List (List ℕ)
variables number [] = []
variables number (kind ∷ kinds) = (small_x ∷ decimal number) ∷ variables (number + 1) kinds

-- ` + 3*x2`, ` - 3*x2`, or nothing for the factor 0
abbrev pub factor_text : ℕ → ℤ → List ℕ
factor_text number (pos zero) = []
factor_text number (pos (suc n)) = codes " + " ++ decimal (suc n) ++ codes "*x" ++ decimal number
factor_text number (negsuc n) = codes " - " ++ decimal (suc n) ++ codes "*x" ++ decimal number

abbrev pub factors_text : ℕ → List ℤ → List ℕ
factors_text number [] = []
factors_text number (factor ∷ factors) = factor_text number factor ++ factors_text (number + 1) factors

-- `1 + 1*x2`
abbrev pub linear_text : linear.Linear → List ℕ
linear_text term = signed_decimal term.constant ++ factors_text 1 term.factors

-- a wide term as a part of another: `x1`, `(1 + x1)`, `max(x1, x2)`
abbrev pub part_text : WideForm → List ℕ
part_text (Number number) = signed_decimal number
part_text (Value place) = small_x ∷ decimal (place + 1)
part_text (Sum left right) = codes "(" ++ part_text left ++ codes " + " ++ part_text right ++ codes ")"
part_text (Difference left right) = codes "(" ++ part_text left ++ codes " - " ++ part_text right ++ codes ")"
part_text (Product left right) = codes "(" ++ part_text left ++ codes " * " ++ part_text right ++ codes ")"
part_text (Greater left right) = codes "max(" ++ part_text left ++ codes ", " ++ part_text right ++ codes ")"
part_text (Lesser left right) = codes "min(" ++ part_text left ++ codes ", " ++ part_text right ++ codes ")"

-- a wide term: only its root goes without brackets
abbrev pub wide_text : WideForm → List ℕ
wide_text (Sum left right) = part_text left ++ codes " + " ++ part_text right
wide_text (Difference left right) = part_text left ++ codes " - " ++ part_text right
wide_text (Product left right) = part_text left ++ codes " * " ++ part_text right
wide_text term = part_text term

abbrev pub term_text : Term → List ℕ
term_text (Linear term) = linear_text term
term_text (Wide term) = wide_text term

-- `let NAME(x1, x2) = 1 + 1*x2`
abbrev pub let_line : Sign × Term → List ℕ
let_line entry =
    line (
    codes "let " ++ entry.0.name ++ codes "(" ++ separated (λ name. name) (codes ", ") (variables 1 entry.0.kinds)
    ++ codes ") = " ++ term_text entry.1
    )

-- `algebra NAME min`, and a `let` for each sign
abbrev pub algebra_lines : List Sign → Algebra → List ℕ
algebra_lines signs algebra =
    line (codes "algebra " ++ algebra.name ++ codes " " ++ goal_text algebra.goal)
    ++ flat_map let_line (zip signs algebra.terms)

abbrev pub class_name : Grammar → ℕ → List ℕ
class_name grammar class = (class_at grammar class).name

abbrev pub rule_name : Grammar → ℕ → List ℕ
rule_name grammar rule = (rule_at grammar rule).name

abbrev pub high_text : Option ℕ → List ℕ
high_text None = []
high_text (Some high) = decimal high

-- `NAME`, `"ab"`, `[NAME]`, `[NAME 1..]` or `[NAME 1..3]`
abbrev pub argument_text : Grammar → Arg → List ℕ
argument_text grammar (Rule rule) = rule_name grammar rule
argument_text grammar (Literal text) = quoted text
argument_text grammar (Letter class) = codes "[" ++ class_name grammar class ++ codes "]"
argument_text grammar (Run class low high) =
    codes "[" ++ class_name grammar class ++ codes " " ++ decimal low ++ codes ".." ++ high_text high ++ codes "]"

-- ` with size 2..5`, or nothing where no size is given
abbrev pub size_text : Option Size → List ℕ
size_text None = []
size_text (Some size) = codes " with size " ++ decimal size.low ++ codes ".." ++ high_text size.high

-- `name(arg, arg)`, and the size behind it
abbrev pub alternative_text : Grammar → Alt → List ℕ
alternative_text grammar alternative =
    (sign_at grammar alternative.sign).name ++ codes "("
    ++ separated (argument_text grammar) (codes ", ") alternative.args ++ codes ")" ++ size_text alternative.size

-- `rule NAME = ALT | ALT`
abbrev pub rule_line : Grammar → rules.Rule → List ℕ
rule_line grammar rule =
    line (codes "rule " ++ rule.name ++ codes " = " ++ separated (alternative_text grammar) (codes " | ") rule.alts)

-- the lines of a grammar
abbrev pub grammar_lines : Grammar → List ℕ
grammar_lines grammar =
    flat_map class_line grammar.classes ++ flat_map sign_line grammar.signs
    ++ flat_map (algebra_lines grammar.signs) grammar.algebras
    ++ flat_map (rule_line grammar) grammar.rules ++ line (codes "grammar " ++ rule_name grammar grammar.axiom)

-- the canonical spelling of a job
abbrev pub spelling : Job → List ℕ
spelling job = line (codes "adp " ++ decimal job.version) ++ grammar_lines job.grammar ++ line (codes "words") ++ flat_map line job.words
