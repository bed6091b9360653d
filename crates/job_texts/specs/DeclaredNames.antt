-- What the lines of a text declare: the names of each sort, of which the first of two counts, and the sections of the
-- algebras, to which the `let` lines belong.
use Rattle.std.specs.Prelude.{ℕ, ◌-◌, Bool, true, false, nat_eq, Option, Some, None, List, [], ◌∷◌, drop, take, map, slice_index_or, if◌then◌else◌}
use Rattle.std.specs.List.{filter_map, before_first}
use Rattle.std.specs.Option.{option_or}
use lib.Pointwise.{pointwise}
use Rattle.adp_model.specs.declared.grammar.Kind.{Kind}
use Rattle.job_texts.specs.JobLines.{job_lines, header_of, version_of, words_line_of, words_of}
use Rattle.job_texts.specs.Declarations.{Declaration, Class, Sign, Algebra, Let, Rule, HeaderLine, Skipped, Says, header_line}

-- ---- a text, line by line

-- the format of a text; its lines; what each line up to the `words` line is, where line 1, which declares nothing, counts as
-- skipped; the number of the `words` line, where there is one; and the words
pub record TextLines : Type 0 where
  pub version : ℕ
  pub lines : List (List ℕ)
  pub header : List HeaderLine
  pub words_line : Option ℕ
  pub words : List (List ℕ)

abbrev pub text_lines : List ℕ → TextLines
text_lines bytes = of_lines (job_lines bytes)
  where
    of_lines : List (List ℕ) → TextLines
    of_lines lines = record {
      version = version_of lines;
      lines = lines;
      header = Skipped ∷ map (header_line (version_of lines)) (header_of lines);
      words_line = words_line_of lines;
      words = words_of lines;
    }

-- what the line of this number is; past the header it is skipped
abbrev pub header_at : TextLines → ℕ → HeaderLine
header_at text number = slice_index_or (Skipped ∷ text.header) number Skipped

-- what a line declares, where it has form
abbrev pub form_of : HeaderLine → Option Declaration
form_of (Says declaration) = Some declaration
form_of other = None

abbrev pub form_at : TextLines → ℕ → Option Declaration
form_at text number = form_of (header_at text number)

-- the declarations of the lines that have form: of all, of those above a line, and of those below it
abbrev pub declarations : TextLines → List Declaration
declarations text = filter_map form_of text.header

abbrev pub above : TextLines → ℕ → List Declaration
above text number = filter_map form_of (take (number - 1) text.header)

abbrev pub below : TextLines → ℕ → List Declaration
below text number = filter_map form_of (drop number text.header)

-- ---- classes, signs, algebras and rules

abbrev pub class_name_of : Declaration → Option (List ℕ)
class_name_of (Class name items) = Some name
class_name_of declaration = None

abbrev pub sign_name_of : Declaration → Option (List ℕ)
sign_name_of (Sign name kinds) = Some name
sign_name_of declaration = None

abbrev pub algebra_name_of : Declaration → Option (List ℕ)
algebra_name_of (Algebra name goal) = Some name
algebra_name_of declaration = None

abbrev pub rule_name_of : Declaration → Option (List ℕ)
rule_name_of (Rule name alternatives) = Some name
rule_name_of declaration = None

-- the names that the lines of a sort declare, in order
abbrev pub class_names : List Declaration → List (List ℕ)
class_names declared = filter_map class_name_of declared

abbrev pub sign_names : List Declaration → List (List ℕ)
sign_names declared = filter_map sign_name_of declared

abbrev pub algebra_names : List Declaration → List (List ℕ)
algebra_names declared = filter_map algebra_name_of declared

abbrev pub rule_names : List Declaration → List (List ℕ)
rule_names declared = filter_map rule_name_of declared

-- the kinds that a line gives to the sign of this name
abbrev pub kinds_given : List ℕ → Declaration → Option (List Kind)
kinds_given sign (Sign name kinds) = if pointwise nat_eq sign name then Some kinds else None
kinds_given sign declaration = None

-- the first of some, where there is one
abbrev pub first_of_list : {X : Type 0} → List X → Option X
first_of_list [] = None
first_of_list (first ∷ others) = Some first

-- the kinds of a declared sign: the first line that declares it counts
abbrev pub kinds_of_sign : List Declaration → List ℕ → Option (List Kind)
kinds_of_sign declared sign = first_of_list (filter_map (kinds_given sign) declared)

-- ---- the sections of algebras

abbrev pub is_algebra_line : Declaration → Bool
is_algebra_line (Algebra name goal) = true
is_algebra_line declaration = false

-- of the declarations above a line those below the nearest algebra line; nothing where there is no algebra line
abbrev pub since_algebra : List Declaration → Option (List Declaration)
since_algebra [] = None
since_algebra (declaration ∷ declared) =
    option_or (since_algebra declared) (if is_algebra_line declaration then Some declared else None)

-- the section of an algebra, of the declarations below its line: those before the next algebra line
abbrev pub section_of : List Declaration → List Declaration
section_of declared = before_first is_algebra_line declared

abbrev pub let_sign_of : Declaration → Option (List ℕ)
let_sign_of (Let sign variables term) = Some sign
let_sign_of declaration = None

-- the signs that have a `let` among these
abbrev pub let_signs : List Declaration → List (List ℕ)
let_signs declared = filter_map let_sign_of declared
