-- The parts of a term's text, and the term that they sum to or what is wrong with it.
use Rattle.std.specs.Prelude.{ℕ, ◌^◌, ℤ, pos, neg_ℤ, ◌+ℤ◌, Bool, true, false, ◌&&◌, not, nat_eq, nat_lt, Option, Some, None, is_some, unwrap_or, Result, Ok, Err, List, [], ◌∷◌, ◌++◌, if◌then◌else◌}
use Rattle.std.specs.List.{list_all, list_any, position}
use Rattle.std.specs.Option.{option_map, option_map_or, option_eq}
use Rattle.std.specs.Char.{is_ascii_digit}
use Rattle.std.specs.Str.{all_ascii_digits}
use Rattle.std.specs.Str.Parse.{digits_value}
use lib.Pointwise.{pointwise}
use Rattle.adp_model.specs.declared.grammar.Linear.{Linear}
use Rattle.adp_model.specs.WellFormed.{is_name, is_in_range}

-- a number word begins with a digit, a variable word doesn't
abbrev pub begins_number : List ℕ → Bool
begins_number [] = false
begins_number (byte ∷ bytes) = is_ascii_digit byte

-- digits alone, and a value of at most 2^62 - 1
abbrev pub number_of : List ℕ → Option ℕ
number_of word =
    if all_ascii_digits word && nat_lt (digits_value 10 word) (2 ^ 62) then Some (digits_value 10 word) else None

abbrev pub signed : Bool → Option ℕ → Option ℤ
signed negative number = option_map (λ n. if negative then neg_ℤ (pos n) else pos n) number

-- what a part adds, to the constant or to its variable's factor; nothing where its number word is no number
pub record Part : Type 0 where
  pub variable : Option (List ℕ)
  pub amount : Option ℤ

-- `5`, `x` and `5*x`
abbrev pub plain_number : Bool → List ℕ → Part
plain_number negative number = record { variable = None; amount = signed negative (number_of number) }

abbrev pub plain_variable : Bool → List ℕ → Part
plain_variable negative variable = record { variable = Some variable; amount = signed negative (Some 1) }

abbrev pub multiple : Bool → List ℕ → List ℕ → Part
multiple negative number variable = record { variable = Some variable; amount = signed negative (number_of number) }

abbrev pub with_part : Part → Option (List Part) → Option (List Part)
with_part part parts = option_map (λ others. part ∷ others) parts

-- what a part adds to the variable's factor, or to the constant
abbrev pub amount_for : Option (List ℕ) → Part → ℤ
amount_for variable part =
    if option_eq (pointwise nat_eq) part.variable variable then unwrap_or part.amount (pos 0) else pos 0

-- what the parts add to it
abbrev pub total : Option (List ℕ) → List Part → ℤ
total variable [] = pos 0
total variable (part ∷ parts) = amount_for variable part +ℤ total variable parts

-- every variable is a name
abbrev pub are_names : List Part → Bool
are_names parts = list_all (λ (part : Part). option_map_or is_name part.variable true) parts

-- every number word is a number
abbrev pub are_numbers : List Part → Bool
are_numbers parts = list_all (λ (part : Part). is_some part.amount) parts

-- the constant and the factor of every variable are in range
abbrev pub totals_fit : List Part → Bool
totals_fit parts = list_all (λ (part : Part). is_in_range (total part.variable parts)) parts

-- the word is this one
abbrev pub is_word : List ℕ → List ℕ → Bool
is_word keyword word = pointwise nat_eq keyword word

-- the number of a name: the place of the first of this name
abbrev pub number_among : List (List ℕ) → List ℕ → ℕ
number_among names name = unwrap_or (position (pointwise nat_eq name) names) 0

abbrev pub is_among : List (List ℕ) → List ℕ → Bool
is_among texts text = list_any (λ other. pointwise nat_eq other text) texts

-- every variable is declared
abbrev pub are_declared : List (List ℕ) → List Part → Bool
are_declared variables parts = list_all (λ (part : Part). option_map_or (is_among variables) part.variable true) parts

-- the factor of a variable behind these
abbrev pub factor_after : List (List ℕ) → List ℕ → List Part → ℤ
factor_after earlier variable parts = if is_among earlier variable then pos 0 else total (Some variable) parts

-- the factors of variables; of a variable that stands twice the first has the factor, and the others have 0
abbrev pub factors_after : List (List ℕ) → List (List ℕ) → List Part → List ℤ
factors_after earlier [] parts = []
factors_after earlier (variable ∷ variables) parts =
    factor_after earlier variable parts ∷ factors_after (earlier ++ variable ∷ []) variables parts

-- what is wrong with a text: its tokens are no term's, a variable is no name, a number is none or too great, a
-- variable isn't declared
pub data TermFault : Type 0 where
  Shape : TermFault
  Name : TermFault
  Number : TermFault
  Unknown : TermFault

-- the term of these variables that the parts sum to
abbrev pub linear_of : List (List ℕ) → List Part → Linear
linear_of variables parts = record { constant = total None parts; factors = factors_after [] variables parts }

abbrev pub term_of_parts : List (List ℕ) → List Part → Result Linear TermFault
term_of_parts variables parts =
    if not (are_names parts) then Err Name
    else (if not (are_numbers parts && totals_fit parts) then Err Number
    else (if not (are_declared variables parts) then Err Unknown
    else Ok (linear_of variables parts)))
