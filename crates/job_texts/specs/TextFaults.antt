-- What can stand wrong at a line of a text: one test for each kind of fault, and the list that numbers them.
use Rattle.std.specs.Prelude.{ℕ, ◌+◌, ◌-◌, ℤ, pos, Bool, true, false, ◌&&◌, ◌||◌, not, nat_eq, nat_lt, nat_le, ◌==◌, Option, Some, None, is_some, is_none, unwrap_or, List, [], ◌∷◌, ◌++◌, length, map, if◌then◌else◌}
use Rattle.std.specs.List.{list_all, list_any, flat_map, find, filter, zip}
use Rattle.std.specs.Option.{option_map, option_map_or, option_eq, option_to_list}
use Rattle.std.specs.Str.{all_ascii_digits}
use Rattle.std.specs.Str.Parse.{digits_value}
use Rattle.adp_model.specs.declared.grammar.Kind.{Kind}
use Rattle.adp_model.specs.declared.grammar.Kind.TheVariants as kinds
use Rattle.adp_model.specs.Printable.{is_printable_byte}
use Rattle.adp_model.specs.WellFormed.{are_distinct, greatest_bound, is_name, letters_are_distinct, most_leaves}
use Rattle.job_texts.specs.TermText.{number_of, signed, is_among}
use Rattle.job_texts.specs.LetTerms.{counted_leaves, has_names, has_numbers, has_variables, names_twice}
use Rattle.job_texts.specs.JobLines.{is_first_line, line_at}
use Rattle.job_texts.specs.Declarations.{Item, Argument, Named, Spelled, OneOf, RunOf, SizeWords, Alternative, Declaration, Class, Sign, Algebra, Let, Rule, Axiom, Words, HeaderLine, Unclosed, Shapeless}
use Rattle.job_texts.specs.DeclaredNames.{TextLines, header_at, form_at, declarations, above, below, class_names, sign_names, algebra_names, rule_names, kinds_of_sign, is_algebra_line, since_algebra, section_of, let_signs}

-- the test of what a line declares; a line without form passes none
abbrev pub holds_of_form : (Declaration → Bool) → TextLines → ℕ → Bool
holds_of_form test text line = option_map_or test (form_at text line) false

abbrev pub is_words_line_number : TextLines → ℕ → Bool
is_words_line_number text line = option_eq nat_eq text.words_line (Some line)

-- ---- lines and tokens

-- line 1 is missing or is no job's first line
abbrev pub has_other_first_line : TextLines → ℕ → Bool
has_other_first_line text line = line == 1 && not (is_first_line (line_at text.lines 1))

-- a byte of the line is not printable
abbrev pub has_unprintable_byte : TextLines → ℕ → Bool
has_unprintable_byte text line = not (list_all is_printable_byte (line_at text.lines line))

-- a byte of a header line begins no token, or its tokens match no shape
abbrev pub has_no_shape : TextLines → ℕ → Bool
has_no_shape text line = is_shapeless (header_at text line)
  where
    is_shapeless : HeaderLine → Bool
    is_shapeless Shapeless = true
    is_shapeless other = false

-- a `"` of a header line begins a token and begins no quoted text
abbrev pub has_unclosed_quote : TextLines → ℕ → Bool
has_unclosed_quote text line = is_unclosed (header_at text line)
  where
    is_unclosed : HeaderLine → Bool
    is_unclosed Unclosed = true
    is_unclosed other = false

-- there is no `words` line; this stands behind the last line
abbrev pub has_no_words_line : TextLines → ℕ → Bool
has_no_words_line text line = is_none text.words_line && line == length text.lines + 1

-- ---- words at the places of names, numbers and bounds

abbrev pub argument_names : Argument → List (List ℕ)
argument_names (Named rule) = rule ∷ []
argument_names (Spelled letters) = []
argument_names (OneOf class) = class ∷ []
argument_names (RunOf class low high) = class ∷ []

abbrev pub alternative_names : Alternative → List (List ℕ)
alternative_names alternative = alternative.sign ∷ flat_map argument_names alternative.arguments

-- the words at the places of names, the variables of a term aside
abbrev pub name_words : Declaration → List (List ℕ)
name_words (Class name items) = name ∷ []
name_words (Sign name kinds) = name ∷ []
name_words (Algebra name goal) = name ∷ []
name_words (Let sign variables term) = sign ∷ variables
name_words (Rule name alternatives) = name ∷ flat_map alternative_names alternatives
name_words (Axiom rule) = rule ∷ []
name_words Words = []

-- every variable of the line's term, where it has one, is a name
abbrev pub has_names_in_term : Declaration → Bool
has_names_in_term (Let sign variables term) = has_names term
has_names_in_term declaration = true

-- a word at the place of a name, or a variable of the term, is no name
abbrev pub misnames : Declaration → Bool
misnames declaration = not (list_all is_name (name_words declaration) && has_names_in_term declaration)

abbrev pub has_no_name : TextLines → ℕ → Bool
has_no_name text line = holds_of_form misnames text line

-- digits alone, and a value of at most 1,000,000
abbrev pub bound_of : List ℕ → Option ℕ
bound_of word =
    if all_ascii_digits word && nat_le (digits_value 10 word) greatest_bound then Some (digits_value 10 word) else None

-- the number of an item, where it is one
abbrev pub weight_of : Item → Option ℤ
weight_of item = signed item.negative (number_of item.number)

abbrev pub argument_bounds : Argument → List (List ℕ)
argument_bounds (Named rule) = []
argument_bounds (Spelled letters) = []
argument_bounds (OneOf class) = []
argument_bounds (RunOf class low high) = low ∷ option_to_list high

abbrev pub size_bounds : Option SizeWords → List (List ℕ)
size_bounds None = []
size_bounds (Some size) = size.low ∷ option_to_list size.high

abbrev pub alternative_bounds : Alternative → List (List ℕ)
alternative_bounds alternative = flat_map argument_bounds alternative.arguments ++ size_bounds alternative.size

-- a weight or a bound is none, a number of the term is none, or the constant or a factor of a linear term is out of
-- range
abbrev pub misnumbers : Declaration → Bool
misnumbers (Class name items) = not (list_all (λ item. is_some (weight_of item)) items)
misnumbers (Rule name alternatives) =
    not (list_all (λ word. is_some (bound_of word)) (flat_map alternative_bounds alternatives))
misnumbers (Let sign variables term) = not (has_numbers term)
misnumbers declaration = false

abbrev pub has_no_number : TextLines → ℕ → Bool
has_no_number text line = holds_of_form misnumbers text line

-- ---- what stands twice or not at all

-- a line above declares the name, or a `let` names a variable twice
abbrev pub repeats : List Declaration → Declaration → Bool
repeats declared (Class name items) = is_among (class_names declared) name
repeats declared (Sign name kinds) = is_among (sign_names declared) name
repeats declared (Algebra name goal) = is_among (algebra_names declared) name
repeats declared (Rule name alternatives) = is_among (rule_names declared) name
repeats declared (Let sign variables term) = not (are_distinct variables)
repeats declared declaration = false

abbrev pub has_repeated_name : TextLines → ℕ → Bool
has_repeated_name text line = holds_of_form (repeats (above text line)) text line

-- the letters of an item, each with its weight
abbrev pub item_letters : Item → List (ℕ × ℤ)
item_letters item = map (λ letter. (letter, unwrap_or (weight_of item) (pos 0))) item.letters

-- the letters of a class, each with its weight
abbrev pub class_letters : List Item → List (ℕ × ℤ)
class_letters items = flat_map item_letters items

-- a class has no letter, or a letter twice
abbrev pub misletters : Declaration → Bool
misletters (Class name items) = length (class_letters items) == 0 || not (letters_are_distinct (class_letters items))
misletters declaration = false

abbrev pub has_no_letters : TextLines → ℕ → Bool
has_no_letters text line = holds_of_form misletters text line

-- no algebra line is above a `let`, or its sign has a `let` above it in the same section
abbrev pub is_misplaced : List Declaration → Declaration → Bool
is_misplaced declared (Let sign variables term) =
    option_map_or (λ section. is_among (let_signs section) sign) (since_algebra declared) true
is_misplaced declared declaration = false

abbrev pub has_misplaced_let : TextLines → ℕ → Bool
has_misplaced_let text line = holds_of_form (is_misplaced (above text line)) text line

abbrev pub is_axiom_line : Declaration → Bool
is_axiom_line (Axiom rule) = true
is_axiom_line declaration = false

-- a second `grammar` line; or the `words` line of a text without a `grammar` line
abbrev pub has_not_one_axiom : TextLines → ℕ → Bool
has_not_one_axiom text line =
    holds_of_form (λ declaration. is_axiom_line declaration && list_any is_axiom_line (above text line)) text line
    || (is_words_line_number text line && not (list_any is_axiom_line (declarations text)))

-- ---- names that are used

-- a rule or a class of the argument is not declared
abbrev pub is_unknown_argument : List Declaration → Argument → Bool
is_unknown_argument declared (Named rule) = not (is_among (rule_names declared) rule)
is_unknown_argument declared (Spelled letters) = false
is_unknown_argument declared (OneOf class) = not (is_among (class_names declared) class)
is_unknown_argument declared (RunOf class low high) = not (is_among (class_names declared) class)

abbrev pub is_unknown_alternative : List Declaration → Alternative → Bool
is_unknown_alternative declared alternative =
    not (is_among (sign_names declared) alternative.sign)
    || list_any (is_unknown_argument declared) alternative.arguments

-- a sign, rule, class or variable that the line uses is not declared
abbrev pub uses_unknown : List Declaration → Declaration → Bool
uses_unknown declared (Let sign variables term) =
    not (is_among (sign_names declared) sign && has_variables variables term)
uses_unknown declared (Rule name alternatives) = list_any (is_unknown_alternative declared) alternatives
uses_unknown declared (Axiom rule) = not (is_among (rule_names declared) rule)
uses_unknown declared declaration = false

abbrev pub has_unknown_name : TextLines → ℕ → Bool
has_unknown_name text line = holds_of_form (uses_unknown (declarations text)) text line

-- a rule stands where the kind is a score; a literal, a class or a run where it is a token
abbrev pub fits_kind : Kind × Argument → Bool
fits_kind entry = fits entry.0 entry.1
  where
    fits : Kind → Argument → Bool
    fits kinds.Score (Named rule) = true
    fits kinds.Score argument = false
    fits kinds.Token (Named rule) = false
    fits kinds.Token argument = true

abbrev pub fits_sign : List Declaration → Alternative → Bool
fits_sign declared alternative =
    option_map_or
    (λ kinds. length kinds == length alternative.arguments && list_all fits_kind (zip kinds alternative.arguments))
    (kinds_of_sign declared alternative.sign) true

-- the variables of a `let` or the arguments of an alternative don't fit the declared sign
abbrev pub misfits : List Declaration → Declaration → Bool
misfits declared (Let sign variables term) =
    option_map_or (λ kinds. not (length kinds == length variables)) (kinds_of_sign declared sign) false
misfits declared (Rule name alternatives) = not (list_all (fits_sign declared) alternatives)
misfits declared declaration = false

abbrev pub has_misfit : TextLines → ℕ → Bool
has_misfit text line = holds_of_form (misfits (declarations text)) text line

-- a high bound is below its low bound
abbrev pub are_crossed : List ℕ → Option (List ℕ) → Bool
are_crossed low None = false
are_crossed low (Some high) =
    option_map_or (λ least. option_map_or (λ most. nat_lt most least) (bound_of high) false) (bound_of low) false

-- the high bound of a run is below its low bound
abbrev pub has_crossed_bounds : Argument → Bool
has_crossed_bounds (RunOf class low high) = are_crossed low high
has_crossed_bounds argument = false

-- the high bound of a run of the alternative, or of its size, is below its low bound
abbrev pub is_crossed_alternative : Alternative → Bool
is_crossed_alternative alternative =
    list_any has_crossed_bounds alternative.arguments
    || option_map_or (λ (size : SizeWords). are_crossed size.low size.high) alternative.size false

abbrev pub has_crossed_run : TextLines → ℕ → Bool
has_crossed_run text line = holds_of_form crossed text line
  where
    crossed : Declaration → Bool
    crossed (Rule name alternatives) = list_any is_crossed_alternative alternatives
    crossed declaration = false

-- the section of an algebra lacks a `let` for a declared sign; or the `words` line of a text without an algebra line
abbrev pub lacks_let : TextLines → ℕ → Bool
lacks_let text line =
    holds_of_form
    (λ declaration.
    is_algebra_line declaration
    && not (list_all (is_among (let_signs (section_of (below text line)))) (sign_names (declarations text))))
    text line
    || (is_words_line_number text line && not (list_any is_algebra_line (declarations text)))

-- ---- counts

-- a count and its limit
pub record Counted : Type 0 where
  pub count : ℕ
  pub limit : ℕ

abbrev pub limited : ℕ → ℕ → Counted
limited count limit = record { count = count; limit = limit }

-- the counts at a line that declares this, below these, in the order in which they are judged
abbrev pub counts_of : List Declaration → Declaration → List Counted
counts_of declared (Class name items) = limited (length (class_names declared) + 1) 64 ∷ []
counts_of declared (Sign name kinds) = limited (length (sign_names declared) + 1) 256 ∷ limited (length kinds) 4 ∷ []
counts_of declared (Algebra name goal) = limited (length (algebra_names declared) + 1) 16 ∷ []
counts_of declared (Rule name alternatives) =
    limited (length (rule_names declared) + 1) 128 ∷ limited (length alternatives) 64 ∷ []
counts_of declared (Let sign variables term) = limited (counted_leaves term) most_leaves ∷ []
counts_of declared declaration = []

-- the number of words up to this line
abbrev pub words_up_to : TextLines → ℕ → ℕ
words_up_to text line = option_map_or (λ words_line. line - words_line) text.words_line 0

-- the line is a word's
abbrev pub is_word_line : TextLines → ℕ → Bool
is_word_line text line = nat_lt 0 (words_up_to text line) && nat_le line (length text.lines)

-- the counts at a line, in order
abbrev pub counts_at : TextLines → ℕ → List Counted
counts_at text line =
    option_map_or (counts_of (above text line)) (form_at text line) []
    ++ (if is_word_line text line then limited (words_up_to text line) 65536 ∷ [] else [])

-- the first count that passes its limit at the line
abbrev pub passing_count : TextLines → ℕ → Option ℕ
passing_count text line =
    option_map
    (λ (counted : Counted). counted.count)
    (find (λ (counted : Counted). nat_lt counted.limit counted.count) (counts_at text line))

abbrev pub passes_limit : TextLines → ℕ → Bool
passes_limit text line = is_some (passing_count text line)

-- ---- variables of terms

-- a variable stands twice in a wide term
abbrev pub is_twice : Declaration → Bool
is_twice (Let sign variables term) = names_twice term
is_twice declaration = false

abbrev pub has_variable_twice : TextLines → ℕ → Bool
has_variable_twice text line = holds_of_form is_twice text line

-- ---- all kinds

-- a kind of fault: its number, whether it stands at a line, and the count that is told with it
pub record FaultKind : Type 0 where
  pub number : ℕ
  pub stands : TextLines → ℕ → Bool
  pub count : TextLines → ℕ → ℕ

-- a kind that tells no count
abbrev pub plain_kind : ℕ → (TextLines → ℕ → Bool) → FaultKind
plain_kind number stands = record { number = number; stands = stands; count = λ text line. 0 }

-- all kinds, by their numbers
abbrev pub fault_kinds : List FaultKind
fault_kinds =
    plain_kind 1 has_other_first_line
    ∷ plain_kind 2 has_unprintable_byte
    ∷ plain_kind 3 has_no_shape
    ∷ plain_kind 4 has_no_name
    ∷ plain_kind 5 has_no_number
    ∷ plain_kind 6 has_unclosed_quote
    ∷ plain_kind 7 has_repeated_name
    ∷ plain_kind 8 has_no_letters
    ∷ plain_kind 9 has_misplaced_let
    ∷ plain_kind 10 has_no_words_line
    ∷ plain_kind 11 has_not_one_axiom
    ∷ plain_kind 12 has_unknown_name
    ∷ plain_kind 13 has_misfit
    ∷ plain_kind 14 has_crossed_run
    ∷ plain_kind 15 lacks_let
    ∷ record { number = 16; stands = passes_limit; count = λ text line. unwrap_or (passing_count text line) 0 }
    ∷ plain_kind 17 has_variable_twice
    ∷ []

-- the kinds that stand at a line, by their numbers
abbrev pub faults_at : TextLines → ℕ → List FaultKind
faults_at text line = filter (λ (kind : FaultKind). kind.stands text line) fault_kinds
