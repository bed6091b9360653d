-- What a header line says: the shapes that its tokens can match, and what a line of each shape declares. The words at
-- the places of names, numbers and bounds are any words here; whether they are of the right form is judged apart.
use Rattle.std.specs.Prelude.{ℕ, Bool, true, false, nat_eq, Option, Some, None, Result, Ok, Err, List, [], ◌∷◌, codes, if◌then◌else◌, not, ◌&&◌, ◌||◌, is_none}
use Rattle.std.specs.List.{list_all}
use Rattle.std.specs.Option.{option_map, option_and_then}
use lib.Pointwise.{pointwise}
use Rattle.adp_model.specs.declared.grammar.Kind.{Kind}
use Rattle.adp_model.specs.declared.grammar.Kind.TheVariants as kinds
use Rattle.adp_model.specs.declared.grammar.Goal.{Goal}
use Rattle.adp_model.specs.declared.grammar.Goal.TheVariants.{Least, Greatest}
use Rattle.adp_model.specs.Printable.{is_printable_byte}
use Rattle.job_texts.specs.LineTokens.{Token, Word, Quoted, Equals, OpenBracket, CloseBracket, Comma, OpenSquare, CloseSquare, Bar, Minus, Dots, Offence, StrayByte, OpenQuote, tokens_of}
use Rattle.job_texts.specs.JobLines.{is_skipped}
pub use Rattle.job_texts.specs.TermText.{is_word}
use Rattle.job_texts.specs.LetTerms.{LetTerm, is_second, term_of_tokens}

-- `"ab" 5` or `"ab" - 5` of a class: letters, and the number that each of them weighs
pub record Item : Type 0 where
  pub letters : List ℕ
  pub negative : Bool
  pub number : List ℕ

-- an argument: `NAME`, a quoted text, `[NAME]`, or `[NAME LOW .. HIGH]`, whose high bound may be left out
pub data Argument : Type 0 where
  Named : (rule : List ℕ) → Argument
  Spelled : (letters : List ℕ) → Argument
  OneOf : (class : List ℕ) → Argument
  RunOf : (class : List ℕ) → (low : List ℕ) → (high : Option (List ℕ)) → Argument

-- `with size LOW .. HIGH`, whose high bound may be left out
pub record SizeWords : Type 0 where
  pub low : List ℕ
  pub high : Option (List ℕ)

-- `NAME ( ARG , ARG .. )`, and behind it, in the second format, a size or none
pub record Alternative : Type 0 where
  pub sign : List ℕ
  pub arguments : List Argument
  pub size : Option SizeWords

-- what a line of each shape says; of a `let`'s term what its tokens spell
pub data Declaration : Type 0 where
  Class : (name : List ℕ) → (items : List Item) → Declaration
  Sign : (name : List ℕ) → (kinds : List Kind) → Declaration
  Algebra : (name : List ℕ) → (goal : Goal) → Declaration
  Let : (sign : List ℕ) → (variables : List (List ℕ)) → (term : LetTerm) → Declaration
  Rule : (name : List ℕ) → (alternatives : List Alternative) → Declaration
  Axiom : (rule : List ℕ) → Declaration
  Words : Declaration

-- one more in front, where the others are there
abbrev pub and_before : {X : Type 0} → X → Option (List X) → Option (List X)
and_before first others = option_map (λ found. first ∷ found) others

-- ---- `class NAME = ITEM ITEM ..`

-- any number of items
abbrev pub further_items : List Token → Option (List Item)
further_items [] = Some []
further_items (Quoted letters ∷ Word number ∷ tokens) =
    and_before (record { letters = letters; negative = false; number = number }) (further_items tokens)
further_items (Quoted letters ∷ Minus ∷ Word number ∷ tokens) =
    and_before (record { letters = letters; negative = true; number = number }) (further_items tokens)
further_items tokens = None

-- at least one item
abbrev pub items_of : List Token → Option (List Item)
items_of [] = None
items_of tokens = further_items tokens

abbrev pub class_of : List Token → Option Declaration
class_of (Word name ∷ Equals ∷ tokens) = option_map (λ items. Class name items) (items_of tokens)
class_of tokens = None

-- ---- `sign NAME ( KIND , KIND .. )`

-- `score` or `token`
abbrev pub kind_of : List ℕ → Option Kind
kind_of word =
    if is_word (codes "score") word then Some kinds.Score
    else (if is_word (codes "token") word then Some kinds.Token else None)

abbrev pub with_kind : Option Kind → Option (List Kind) → Option (List Kind)
with_kind None others = None
with_kind (Some kind) others = and_before kind others

-- kinds with a comma between two, up to the closing bracket, which is last
abbrev pub kinds_of : List Token → Option (List Kind)
kinds_of (Word kind ∷ Comma ∷ tokens) = with_kind (kind_of kind) (kinds_of tokens)
kinds_of (Word kind ∷ CloseBracket ∷ []) = with_kind (kind_of kind) (Some [])
kinds_of tokens = None

abbrev pub sign_of : List Token → Option Declaration
sign_of (Word name ∷ OpenBracket ∷ tokens) = option_map (λ kinds. Sign name kinds) (kinds_of tokens)
sign_of tokens = None

-- ---- `algebra NAME min`, `algebra NAME max`

-- `min` or `max`
abbrev pub goal_of : List ℕ → Option Goal
goal_of word =
    if is_word (codes "min") word then Some Least
    else (if is_word (codes "max") word then Some Greatest else None)

abbrev pub algebra_of : List Token → Option Declaration
algebra_of (Word name ∷ Word goal ∷ []) = option_map (λ goal. Algebra name goal) (goal_of goal)
algebra_of tokens = None

-- ---- `let NAME ( NAME , NAME .. ) = TERM`

-- the variables of a `let`, and the tokens behind its `=`
pub record LetTokens : Type 0 where
  pub variables : List (List ℕ)
  pub term : List Token

abbrev pub with_variable : List ℕ → Option LetTokens → Option LetTokens
with_variable variable others =
    option_map (λ (found : LetTokens). record { variables = variable ∷ found.variables; term = found.term }) others

-- variables with a comma between two, up to the closing bracket, and the `=` behind it
abbrev pub let_tokens : List Token → Option LetTokens
let_tokens (Word variable ∷ Comma ∷ tokens) = with_variable variable (let_tokens tokens)
let_tokens (Word variable ∷ CloseBracket ∷ Equals ∷ tokens) = Some (record { variables = variable ∷ []; term = tokens })
let_tokens tokens = None

abbrev pub let_of : ℕ → List Token → Option Declaration
let_of version (Word sign ∷ OpenBracket ∷ tokens) = option_and_then with_term (let_tokens tokens)
  where
    with_term : LetTokens → Option Declaration
    with_term found = option_map (λ term. Let sign found.variables term) (term_of_tokens version found.term)
let_of version tokens = None

-- ---- `rule NAME = ALT | ALT ..`

-- the arguments of an alternative from one on, its size, and the alternatives behind it
pub record RuleRest : Type 0 where
  pub arguments : List Argument
  pub size : Option SizeWords
  pub alternatives : List Alternative

abbrev pub with_argument : Argument → Option RuleRest → Option RuleRest
with_argument argument rest =
    option_map
    (λ (found : RuleRest). record found { arguments = argument ∷ found.arguments }) rest

-- the closing bracket is behind the last argument, and behind it this size and these alternatives
abbrev pub at_close : Option SizeWords → Option (List Alternative) → Option RuleRest
at_close size alternatives =
    option_map (λ found. record { arguments = []; size = size; alternatives = found }) alternatives

-- the words `with size`
abbrev pub is_clause : List ℕ → List ℕ → Bool
is_clause first second = is_word (codes "with") first && is_word (codes "size") second

-- the same behind a size, where the words before its bounds are `with size`
abbrev pub at_size : Bool → List ℕ → Option (List ℕ) → Option (List Alternative) → Option RuleRest
at_size clause low high alternatives =
    if clause then at_close (Some (record { low = low; high = high })) alternatives else None

abbrev pub with_sign : List ℕ → Option RuleRest → Option (List Alternative)
with_sign sign rest =
    option_map (λ (found : RuleRest).
    record { sign = sign; arguments = found.arguments; size = found.size } ∷ found.alternatives) rest

abbrev mutual
  -- alternatives with a `|` between two, the last up to the end of the line
  pub alternatives_of : List Token → Option (List Alternative)
  alternatives_of (Word sign ∷ OpenBracket ∷ tokens) = with_sign sign (arguments_of tokens)
  alternatives_of tokens = None

  -- an argument, and what follows it
  pub arguments_of : List Token → Option RuleRest
  arguments_of (Word rule ∷ tokens) = with_argument (Named rule) (behind_argument tokens)
  arguments_of (Quoted letters ∷ tokens) = with_argument (Spelled letters) (behind_argument tokens)
  arguments_of (OpenSquare ∷ Word class ∷ CloseSquare ∷ tokens) = with_argument (OneOf class) (behind_argument tokens)
  arguments_of (OpenSquare ∷ Word class ∷ Word low ∷ Dots ∷ CloseSquare ∷ tokens) =
      with_argument (RunOf class low None) (behind_argument tokens)
  arguments_of (OpenSquare ∷ Word class ∷ Word low ∷ Dots ∷ Word high ∷ CloseSquare ∷ tokens) =
      with_argument (RunOf class low (Some high)) (behind_argument tokens)
  arguments_of tokens = None

  -- a comma and a further argument, or the closing bracket
  pub behind_argument : List Token → Option RuleRest
  behind_argument (Comma ∷ tokens) = arguments_of tokens
  behind_argument (CloseBracket ∷ tokens) = behind_alternative tokens
  behind_argument tokens = None

  -- a size or none, behind which the line ends or a further alternative stands
  pub behind_alternative : List Token → Option RuleRest
  behind_alternative [] = at_close None (Some [])
  behind_alternative (Bar ∷ tokens) = at_close None (alternatives_of tokens)
  behind_alternative (Word first ∷ Word second ∷ Word low ∷ Dots ∷ []) =
      at_size (is_clause first second) low None (Some [])
  behind_alternative (Word first ∷ Word second ∷ Word low ∷ Dots ∷ Bar ∷ tokens) =
      at_size (is_clause first second) low None (alternatives_of tokens)
  behind_alternative (Word first ∷ Word second ∷ Word low ∷ Dots ∷ Word high ∷ []) =
      at_size (is_clause first second) low (Some high) (Some [])
  behind_alternative (Word first ∷ Word second ∷ Word low ∷ Dots ∷ Word high ∷ Bar ∷ tokens) =
      at_size (is_clause first second) low (Some high) (alternatives_of tokens)
  behind_alternative tokens = None

-- these alternatives, where the format has sizes or none of them has one
abbrev pub allowed : ℕ → List Alternative → Option (List Alternative)
allowed version alternatives =
    if is_second version || list_all (λ (alternative : Alternative). is_none alternative.size) alternatives
    then Some alternatives else None

abbrev pub rule_of : ℕ → List Token → Option Declaration
rule_of version (Word name ∷ Equals ∷ tokens) =
    option_map (λ alternatives. Rule name alternatives) (option_and_then (allowed version) (alternatives_of tokens))
rule_of version tokens = None

-- ---- `grammar NAME` and `words`

abbrev pub axiom_of : List Token → Option Declaration
axiom_of (Word rule ∷ []) = Some (Axiom rule)
axiom_of tokens = None

abbrev pub nothing_more : List Token → Option Declaration
nothing_more [] = Some Words
nothing_more tokens = None

-- ---- all shapes

-- what the tokens behind a first word say
abbrev pub behind_word : ℕ → List ℕ → List Token → Option Declaration
behind_word version word tokens =
    if is_word (codes "class") word then class_of tokens
    else (if is_word (codes "sign") word then sign_of tokens
    else (if is_word (codes "algebra") word then algebra_of tokens
    else (if is_word (codes "let") word then let_of version tokens
    else (if is_word (codes "rule") word then rule_of version tokens
    else (if is_word (codes "grammar") word then axiom_of tokens
    else (if is_word (codes "words") word then nothing_more tokens
    else None))))))

-- what the tokens of a line of this format say; nothing where they match no shape
abbrev pub declaration_of : ℕ → List Token → Option Declaration
declaration_of version (Word word ∷ tokens) = behind_word version word tokens
declaration_of version tokens = None

-- ---- header lines

-- what a header line is: one that is skipped; one with a byte that is not printable; one with a `"` that begins no
-- quoted text; one with a byte that begins no token, or whose tokens match no shape; or one that has form
pub data HeaderLine : Type 0 where
  Skipped : HeaderLine
  Unprintable : HeaderLine
  Unclosed : HeaderLine
  Shapeless : HeaderLine
  Says : (declaration : Declaration) → HeaderLine

-- what a header line of this format is, the first that holds
abbrev pub header_line : ℕ → List ℕ → HeaderLine
header_line version line =
    if is_skipped line then Skipped
    else (if not (list_all is_printable_byte line) then Unprintable
    else by_tokens (tokens_of line))
  where
    by_shape : Option Declaration → HeaderLine
    by_shape None = Shapeless
    by_shape (Some declaration) = Says declaration

    by_tokens : Result (List Token) Offence → HeaderLine
    by_tokens (Err OpenQuote) = Unclosed
    by_tokens (Err StrayByte) = Shapeless
    by_tokens (Ok tokens) = by_shape (declaration_of version tokens)
