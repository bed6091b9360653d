-- What the shape of a line gives its declaration: signs have a kind, rules an alternative, and the letters of quoted
-- texts of a printable line are printable.
use Rattle.std.proofs.Common.{◌≡◌, ℕ, zero, suc, ◌+◌, ◌≤◌, Bool, true, false, cond, not, ◌||◌, ◌==◌, Option, Some, None, is_none, IfSome, Result, Ok, Err, List, [], ◌∷◌, length, map, refl, arith}
use Rattle.std.specs.Prelude.{codes}
use Rattle.std.specs.List.{list_all, find, take_while, prefix_len}
use Rattle.std.specs.Option.{option_map, option_and_then}
use Rattle.std.proofs.lemmas.Bool.{and_parts, and_from}
use Rattle.std.proofs.lemmas.List.Folds.{list_all-map}
use Rattle.adp_model.specs.declared.grammar.Kind.{Kind}
use Rattle.adp_model.specs.declared.grammar.Goal.{Goal}
use Rattle.adp_model.specs.Printable.{is_printable_byte}
use Rattle.adp_model.specs.WellFormed.{is_word_byte}
use Rattle.job_texts.specs.JobLines.{is_skipped}
use Rattle.job_texts.specs.LineTokens.{Token, Word, Quoted, Equals, OpenBracket, CloseBracket, Comma, OpenSquare, CloseSquare, Bar, Minus, Dots, PlacedToken, Offence, StrayByte, OpenQuote, ByteSort, SpaceByte, WordByte, QuoteByte, DotByte, MarkByte, OtherByte, byte_sort, mark_of, marks, is_one_of, QuotedSort, Quote, Backslash, Plain, quoted_sort, QuotedRest, with_letter, with_backslash, quoted_rest, Beginning, Space, Begins, Stops, beginning, with_token, tokens_from, line_tokens, tokens_of}
use Rattle.job_texts.specs.Declarations.{Item, Argument, Named, Spelled, OneOf, RunOf, Alternative, Declaration, Class, Sign, Algebra, Let, Rule, is_word, further_items, items_of, class_of, kind_of, with_kind, kinds_of, sign_of, goal_of, algebra_of, LetTokens, let_tokens, let_of, RuleRest, SizeWords, with_argument, at_close, at_size, allowed, is_clause, with_sign, alternatives_of, arguments_of, behind_argument, behind_alternative, rule_of, axiom_of, nothing_more, behind_word, declaration_of, HeaderLine, Skipped, Unprintable, Unclosed, Shapeless, Says, and_before, header_line}
use Rattle.job_texts.specs.LetTerms.{LetTerm, is_second, term_of_tokens}
use Rattle.grammar_text.specs.Building.{is_printable_argument, is_printable_alternative}

-- ---- letters of quoted texts

with_letter-printable : (letter : ℕ) (rest : Option QuotedRest) → is_printable_byte letter ≡ true → IfSome rest (λ r. list_all is_printable_byte r.letters ≡ true) → IfSome (with_letter letter rest) (λ r. list_all is_printable_byte r.letters ≡ true)
with_letter-printable letter None h k = tt
with_letter-printable letter (Some rest) h k = and_from (is_printable_byte letter) (list_all is_printable_byte rest.letters) h k

with_backslash-printable : (rest : Option QuotedRest) → IfSome rest (λ r. list_all is_printable_byte r.letters ≡ true) → IfSome (with_backslash rest) (λ r. list_all is_printable_byte r.letters ≡ true)
with_backslash-printable None k = tt
with_backslash-printable (Some rest) k = k

abbrev at_byte : ℕ → Bool → QuotedSort → (Bool → Option QuotedRest) → Option QuotedRest
at_byte byte false Quote rest = Some (record { letters = []; bytes = 1 })
at_byte byte false Backslash rest = with_backslash (rest true)
at_byte byte false Plain rest = with_letter byte (rest false)
at_byte byte true Quote rest = with_letter byte (rest false)
at_byte byte true Backslash rest = with_letter byte (rest false)
at_byte byte true Plain rest = None

at_byte-printable : (byte : ℕ) (escaped : Bool) (sort : QuotedSort) (rest : Bool → Option QuotedRest) → is_printable_byte byte ≡ true
    → ((next : Bool) → IfSome (rest next) (λ r. list_all is_printable_byte r.letters ≡ true)) → IfSome (at_byte byte escaped sort rest) (λ r. list_all is_printable_byte r.letters ≡ true)
at_byte-printable byte false Quote rest h k = refl
at_byte-printable byte false Backslash rest h k = with_backslash-printable (rest true) (k true)
at_byte-printable byte false Plain rest h k = with_letter-printable byte (rest false) h (k false)
at_byte-printable byte true Quote rest h k = with_letter-printable byte (rest false) h (k false)
at_byte-printable byte true Backslash rest h k = with_letter-printable byte (rest false) h (k false)
at_byte-printable byte true Plain rest h k = tt

quoted-printable : (escaped : Bool) (text : List ℕ) → list_all is_printable_byte text ≡ true → IfSome (quoted_rest escaped text) (λ r. list_all is_printable_byte r.letters ≡ true)
quoted-printable escaped [] h = tt
quoted-printable escaped (byte ∷ text) h =
    let parts = and_parts (is_printable_byte byte) (list_all is_printable_byte text) h in
    at_byte-printable byte escaped (quoted_sort byte) (λ next. quoted_rest next text) parts.0 (λ next. quoted-printable next text parts.1)

-- ---- tokens of a printable line

abbrev pub is_printable_token : Token → Bool
is_printable_token (Quoted letters) = list_all is_printable_byte letters
is_printable_token token = true

abbrev is_printable_mark : ℕ × Token → Bool
is_printable_mark entry = is_printable_token entry.1

abbrev BeginsPrintable : Beginning → Type 0
BeginsPrintable (Begins token further) = is_printable_token token ≡ true
BeginsPrintable other = Unit {0}

abbrev quoted_begins : Option QuotedRest → Beginning
quoted_begins (Some rest) = Begins (Quoted rest.letters) rest.bytes
quoted_begins None = Stops OpenQuote

abbrev dots_begin : List ℕ → Beginning
dots_begin [] = Stops StrayByte
dots_begin (second ∷ others) = cond (is_one_of (codes ".") second) (Begins Dots 1) (Stops StrayByte)

quoted_begins-printable : (rest : Option QuotedRest) → IfSome rest (λ r. list_all is_printable_byte r.letters ≡ true) → BeginsPrintable (quoted_begins rest)
quoted_begins-printable None k = tt
quoted_begins-printable (Some rest) k = k

two_beginnings : (b : Bool) → BeginsPrintable (cond b (Begins Dots 1) (Stops StrayByte))
two_beginnings true = refl
two_beginnings false = tt

dots_begin-printable : (text : List ℕ) → BeginsPrintable (dots_begin text)
dots_begin-printable [] = tt
dots_begin-printable (second ∷ others) = two_beginnings (is_one_of (codes ".") second)

abbrev SortPrintable : ByteSort → Type 0
SortPrintable (MarkByte mark) = is_printable_token mark ≡ true
SortPrintable other = Unit {0}

either_sort : (b : Bool) (sort other : ByteSort) → SortPrintable sort → SortPrintable other → SortPrintable (cond b sort other)
either_sort true sort other h k = h
either_sort false sort other h k = k

abbrev mark_or_other : Option Token → ByteSort
mark_or_other (Some mark) = MarkByte mark
mark_or_other None = OtherByte

mark_or_other-printable : (mark : Option Token) → IfSome mark (λ m. is_printable_token m ≡ true) → SortPrintable (mark_or_other mark)
mark_or_other-printable None k = tt
mark_or_other-printable (Some mark) k = k

found_mark : (b : Bool) (entry : ℕ × Token) (others : Option (ℕ × Token)) → is_printable_mark entry ≡ true → IfSome (option_map (λ (e : ℕ × Token). e.1) others) (λ m. is_printable_token m ≡ true)
    → IfSome (option_map (λ (e : ℕ × Token). e.1) (cond b (Some entry) others)) (λ m. is_printable_token m ≡ true)
found_mark true entry others h k = h
found_mark false entry others h k = k

find-printable : (test : ℕ × Token → Bool) (entries : List (ℕ × Token)) → list_all is_printable_mark entries ≡ true → IfSome (option_map (λ (e : ℕ × Token). e.1) (find test entries)) (λ m. is_printable_token m ≡ true)
find-printable test [] h = tt
find-printable test (entry ∷ entries) h =
    let parts = and_parts (is_printable_mark entry) (list_all is_printable_mark entries) h in
    found_mark (test entry) entry (find test entries) parts.0 (find-printable test entries parts.1)

byte_sort-printable : (byte : ℕ) → SortPrintable (byte_sort byte)
byte_sort-printable byte =
    let last : SortPrintable (mark_or_other (mark_of byte)) = mark_or_other-printable (mark_of byte) (find-printable (λ (entry : ℕ × Token). entry.0 == byte) marks refl) in
    either_sort (is_one_of (codes " ") byte) SpaceByte (cond (is_word_byte byte) WordByte (cond (is_one_of (codes "\"") byte) QuoteByte (cond (is_one_of (codes ".") byte) DotByte (mark_or_other (mark_of byte))))) tt
    (either_sort (is_word_byte byte) WordByte (cond (is_one_of (codes "\"") byte) QuoteByte (cond (is_one_of (codes ".") byte) DotByte (mark_or_other (mark_of byte)))) tt
    (either_sort (is_one_of (codes "\"") byte) QuoteByte (cond (is_one_of (codes ".") byte) DotByte (mark_or_other (mark_of byte))) tt
    (either_sort (is_one_of (codes ".") byte) DotByte (mark_or_other (mark_of byte)) tt last)))

abbrev begin_at : ℕ → List ℕ → ByteSort → Beginning
begin_at byte text SpaceByte = Space
begin_at byte text WordByte = Begins (Word (byte ∷ take_while is_word_byte text)) (prefix_len is_word_byte text)
begin_at byte text QuoteByte = quoted_begins (quoted_rest false text)
begin_at byte text DotByte = dots_begin text
begin_at byte text (MarkByte mark) = Begins mark 0
begin_at byte text OtherByte = Stops StrayByte

begin_at-printable : (byte : ℕ) (text : List ℕ) (sort : ByteSort) → SortPrintable sort → list_all is_printable_byte text ≡ true → BeginsPrintable (begin_at byte text sort)
begin_at-printable byte text SpaceByte k h = tt
begin_at-printable byte text WordByte k h = refl
begin_at-printable byte text QuoteByte k h = quoted_begins-printable (quoted_rest false text) (quoted-printable false text h)
begin_at-printable byte text DotByte k h = dots_begin-printable text
begin_at-printable byte text (MarkByte mark) k h = k
begin_at-printable byte text OtherByte k h = tt

beginning-printable : (byte : ℕ) (text : List ℕ) → list_all is_printable_byte text ≡ true → BeginsPrintable (beginning byte text)
beginning-printable byte text h = begin_at-printable byte text (byte_sort byte) (byte_sort-printable byte) h

abbrev is_printable_placed : PlacedToken → Bool
is_printable_placed placed = is_printable_token placed.token

abbrev PlacedPrintable : Result (List PlacedToken) Offence → Type 0
PlacedPrintable (Ok tokens) = list_all is_printable_placed tokens ≡ true
PlacedPrintable (Err offence) = Unit {0}

with_token-printable : (placed : PlacedToken) (others : Result (List PlacedToken) Offence) → is_printable_placed placed ≡ true → PlacedPrintable others → PlacedPrintable (with_token placed others)
with_token-printable placed (Ok others) h k = and_from (is_printable_placed placed) (list_all is_printable_placed others) h k
with_token-printable placed (Err offence) h k = tt

abbrev tokens_begin : ℕ → Beginning → (ℕ → Result (List PlacedToken) Offence) → Result (List PlacedToken) Offence
tokens_begin place Space rest = rest 0
tokens_begin place (Begins token further) rest =
    with_token (record { token = token; from = place; to = place + 1 + further }) (rest further)
tokens_begin place (Stops offence) rest = Err offence

tokens_begin-printable : (place : ℕ) (begins : Beginning) (rest : ℕ → Result (List PlacedToken) Offence) → BeginsPrintable begins → ((inside : ℕ) → PlacedPrintable (rest inside)) → PlacedPrintable (tokens_begin place begins rest)
tokens_begin-printable place Space rest h k = k 0
tokens_begin-printable place (Begins token further) rest h k = with_token-printable (record { token = token; from = place; to = place + 1 + further }) (rest further) h (k further)
tokens_begin-printable place (Stops offence) rest h k = tt

tokens_from-printable : (inside place : ℕ) (text : List ℕ) → list_all is_printable_byte text ≡ true → PlacedPrintable (tokens_from inside place text)
tokens_from-printable inside place [] h = refl
tokens_from-printable (suc inside) place (byte ∷ text) h =
    tokens_from-printable inside (place + 1) text (and_parts (is_printable_byte byte) (list_all is_printable_byte text) h).1
tokens_from-printable zero place (byte ∷ text) h =
    let parts = and_parts (is_printable_byte byte) (list_all is_printable_byte text) h in
    tokens_begin-printable place (beginning byte text) (λ inside. tokens_from inside (place + 1) text) (beginning-printable byte text parts.1) (λ inside. tokens_from-printable inside (place + 1) text parts.1)

abbrev TokensPrintable : Result (List Token) Offence → Type 0
TokensPrintable (Ok tokens) = list_all is_printable_token tokens ≡ true
TokensPrintable (Err offence) = Unit {0}

abbrev said : Result (List PlacedToken) Offence → Result (List Token) Offence
said (Ok tokens) = Ok (map (λ (placed : PlacedToken). placed.token) tokens)
said (Err offence) = Err offence

said-printable : (tokens : Result (List PlacedToken) Offence) → PlacedPrintable tokens → TokensPrintable (said tokens)
said-printable (Ok tokens) h = rw (list_all-map is_printable_token (λ (placed : PlacedToken). placed.token) tokens) h
said-printable (Err offence) h = tt

pub tokens_of-printable : (line : List ℕ) → list_all is_printable_byte line ≡ true → TokensPrintable (tokens_of line)
tokens_of-printable line h = said-printable (line_tokens line) (tokens_from-printable 0 0 line h)

-- ---- shapes

abbrev pub is_printable_item : Item → Bool
is_printable_item item = list_all is_printable_byte item.letters

-- what the shape of a declaration of a printable line gives
abbrev pub IsShaped : Declaration → Type 0
IsShaped (Class name items) = list_all is_printable_item items ≡ true
IsShaped (Sign name kinds) = 1 ≤ length kinds
IsShaped (Rule name alternatives) = (1 ≤ length alternatives) × (list_all is_printable_alternative alternatives ≡ true)
IsShaped declaration = Unit {0}

and_before-shaped : (item : Item) (items : Option (List Item)) → is_printable_item item ≡ true → IfSome items (λ l. list_all is_printable_item l ≡ true)
    → IfSome (and_before item items) (λ l. list_all is_printable_item l ≡ true)
and_before-shaped item None h k = tt
and_before-shaped item (Some items) h k = and_from (is_printable_item item) (list_all is_printable_item items) h k

further_items-shaped : (tokens : List Token) → list_all is_printable_token tokens ≡ true → IfSome (further_items tokens) (λ l. list_all is_printable_item l ≡ true)
further_items-shaped [] h = refl
further_items-shaped (Quoted letters ∷ Word number ∷ tokens) h =
    let parts = and_parts (list_all is_printable_byte letters) (list_all is_printable_token tokens) h in
    and_before-shaped (record { letters = letters; negative = false; number = number }) (further_items tokens) parts.0 (further_items-shaped tokens parts.1)
further_items-shaped (Quoted letters ∷ Minus ∷ Word number ∷ tokens) h =
    let parts = and_parts (list_all is_printable_byte letters) (list_all is_printable_token tokens) h in
    and_before-shaped (record { letters = letters; negative = true; number = number }) (further_items tokens) parts.0 (further_items-shaped tokens parts.1)
further_items-shaped tokens h = tt

items_of-shaped : (tokens : List Token) → list_all is_printable_token tokens ≡ true → IfSome (items_of tokens) (λ l. list_all is_printable_item l ≡ true)
items_of-shaped [] h = tt
items_of-shaped (token ∷ tokens) h = further_items-shaped (token ∷ tokens) h

class_says : (name : List ℕ) (items : Option (List Item)) → IfSome items (λ l. list_all is_printable_item l ≡ true) → IfSome (option_map (λ l. Class name l) items) IsShaped
class_says name None k = tt
class_says name (Some items) k = k

class_of-shaped : (tokens : List Token) → list_all is_printable_token tokens ≡ true → IfSome (class_of tokens) IsShaped
class_of-shaped (Word name ∷ Equals ∷ tokens) h = class_says name (items_of tokens) (items_of-shaped tokens h)
class_of-shaped tokens h = tt

with_kind-shaped : (kind : Option Kind) (others : Option (List Kind)) → IfSome (with_kind kind others) (λ l. 1 ≤ length l)
with_kind-shaped None others = tt
with_kind-shaped (Some kind) None = tt
with_kind-shaped (Some kind) (Some others) = omega arith

kinds_of-shaped : (tokens : List Token) → IfSome (kinds_of tokens) (λ l. 1 ≤ length l)
kinds_of-shaped (Word kind ∷ Comma ∷ tokens) = with_kind-shaped (kind_of kind) (kinds_of tokens)
kinds_of-shaped (Word kind ∷ CloseBracket ∷ []) = with_kind-shaped (kind_of kind) (Some [])
kinds_of-shaped tokens = tt

sign_says : (name : List ℕ) (kinds : Option (List Kind)) → IfSome kinds (λ l. 1 ≤ length l) → IfSome (option_map (λ l. Sign name l) kinds) IsShaped
sign_says name None k = tt
sign_says name (Some kinds) k = k

sign_of-shaped : (tokens : List Token) → IfSome (sign_of tokens) IsShaped
sign_of-shaped (Word name ∷ OpenBracket ∷ tokens) = sign_says name (kinds_of tokens) (kinds_of-shaped tokens)
sign_of-shaped tokens = tt

algebra_says : (name : List ℕ) (goal : Option Goal) → IfSome (option_map (λ g. Algebra name g) goal) IsShaped
algebra_says name None = tt
algebra_says name (Some goal) = tt

algebra_of-shaped : (tokens : List Token) → IfSome (algebra_of tokens) IsShaped
algebra_of-shaped (Word name ∷ Word goal ∷ []) = algebra_says name (goal_of goal)
algebra_of-shaped tokens = tt

abbrev with_term : ℕ → List ℕ → LetTokens → Option Declaration
with_term version sign found = option_map (λ term. Let sign found.variables term) (term_of_tokens version found.term)

term_says : (sign : List ℕ) (variables : List (List ℕ)) (parts : Option LetTerm) → IfSome (option_map (λ p. Let sign variables p) parts) IsShaped
term_says sign variables None = tt
term_says sign variables (Some parts) = tt

let_says : (version : ℕ) (sign : List ℕ) (found : Option LetTokens) → IfSome (option_and_then (with_term version sign) found) IsShaped
let_says version sign None = tt
let_says version sign (Some found) = term_says sign found.variables (term_of_tokens version found.term)

let_of-shaped : (version : ℕ) (tokens : List Token) → IfSome (let_of version tokens) IsShaped
let_of-shaped version (Word sign ∷ OpenBracket ∷ tokens) = let_says version sign (let_tokens tokens)
let_of-shaped version tokens = tt

-- ---- rules

abbrev AreShaped : List Alternative → Type 0
AreShaped alternatives = (1 ≤ length alternatives) × (list_all is_printable_alternative alternatives ≡ true)

abbrev IsShapedRest : RuleRest → Type 0
IsShapedRest rest = (list_all is_printable_argument rest.arguments ≡ true) × (list_all is_printable_alternative rest.alternatives ≡ true)

with_argument-shaped : (argument : Argument) (rest : Option RuleRest) → is_printable_argument argument ≡ true → IfSome rest IsShapedRest → IfSome (with_argument argument rest) IsShapedRest
with_argument-shaped argument None h k = tt
with_argument-shaped argument (Some rest) h k = (and_from (is_printable_argument argument) (list_all is_printable_argument rest.arguments) h k.0, k.1)

at_close-shaped : (size : Option SizeWords) (alternatives : Option (List Alternative)) → IfSome alternatives (λ l. list_all is_printable_alternative l ≡ true) → IfSome (at_close size alternatives) IsShapedRest
at_close-shaped size None k = tt
at_close-shaped size (Some alternatives) k = (refl, k)

some_shaped : (alternatives : Option (List Alternative)) → IfSome alternatives AreShaped → IfSome alternatives (λ l. list_all is_printable_alternative l ≡ true)
some_shaped None k = tt
some_shaped (Some alternatives) k = k.1

at_size-shaped : (clause : Bool) (low : List ℕ) (high : Option (List ℕ)) (alternatives : Option (List Alternative)) → IfSome alternatives (λ l. list_all is_printable_alternative l ≡ true) → IfSome (at_size clause low high alternatives) IsShapedRest
at_size-shaped true low high alternatives k = at_close-shaped (Some (record { low = low; high = high })) alternatives k
at_size-shaped false low high alternatives k = tt

with_sign-shaped : (sign : List ℕ) (rest : Option RuleRest) → IfSome rest IsShapedRest → IfSome (with_sign sign rest) AreShaped
with_sign-shaped sign None k = tt
with_sign-shaped sign (Some rest) k = (omega arith, and_from (list_all is_printable_argument rest.arguments) (list_all is_printable_alternative rest.alternatives) k.0 k.1)

mutual
  alternatives_of-shaped : (tokens : List Token) → list_all is_printable_token tokens ≡ true → IfSome (alternatives_of tokens) AreShaped
  alternatives_of-shaped (Word sign ∷ OpenBracket ∷ tokens) h = with_sign-shaped sign (arguments_of tokens) (arguments_of-shaped tokens h)
  alternatives_of-shaped tokens h = tt

  arguments_of-shaped : (tokens : List Token) → list_all is_printable_token tokens ≡ true → IfSome (arguments_of tokens) IsShapedRest
  arguments_of-shaped (Word rule ∷ tokens) h = with_argument-shaped (Named rule) (behind_argument tokens) refl (behind_argument-shaped tokens h)
  arguments_of-shaped (Quoted letters ∷ tokens) h =
      let parts = and_parts (list_all is_printable_byte letters) (list_all is_printable_token tokens) h in
      with_argument-shaped (Spelled letters) (behind_argument tokens) parts.0 (behind_argument-shaped tokens parts.1)
  arguments_of-shaped (OpenSquare ∷ Word class ∷ CloseSquare ∷ tokens) h = with_argument-shaped (OneOf class) (behind_argument tokens) refl (behind_argument-shaped tokens h)
  arguments_of-shaped (OpenSquare ∷ Word class ∷ Word low ∷ Dots ∷ CloseSquare ∷ tokens) h =
      with_argument-shaped (RunOf class low None) (behind_argument tokens) refl (behind_argument-shaped tokens h)
  arguments_of-shaped (OpenSquare ∷ Word class ∷ Word low ∷ Dots ∷ Word high ∷ CloseSquare ∷ tokens) h =
      with_argument-shaped (RunOf class low (Some high)) (behind_argument tokens) refl (behind_argument-shaped tokens h)
  arguments_of-shaped tokens h = tt

  behind_argument-shaped : (tokens : List Token) → list_all is_printable_token tokens ≡ true → IfSome (behind_argument tokens) IsShapedRest
  behind_argument-shaped (Comma ∷ tokens) h = arguments_of-shaped tokens h
  behind_argument-shaped (CloseBracket ∷ tokens) h = behind_alternative-shaped tokens h
  behind_argument-shaped tokens h = tt

  behind_alternative-shaped : (tokens : List Token) → list_all is_printable_token tokens ≡ true → IfSome (behind_alternative tokens) IsShapedRest
  behind_alternative-shaped [] h = (refl, refl)
  behind_alternative-shaped (Bar ∷ tokens) h = at_close-shaped None (alternatives_of tokens) (some_shaped (alternatives_of tokens) (alternatives_of-shaped tokens h))
  behind_alternative-shaped (Word first ∷ Word second ∷ Word low ∷ Dots ∷ []) h = at_size-shaped (is_clause first second) low None (Some []) refl
  behind_alternative-shaped (Word first ∷ Word second ∷ Word low ∷ Dots ∷ Bar ∷ tokens) h =
      at_size-shaped (is_clause first second) low None (alternatives_of tokens) (some_shaped (alternatives_of tokens) (alternatives_of-shaped tokens h))
  behind_alternative-shaped (Word first ∷ Word second ∷ Word low ∷ Dots ∷ Word high ∷ []) h = at_size-shaped (is_clause first second) low (Some high) (Some []) refl
  behind_alternative-shaped (Word first ∷ Word second ∷ Word low ∷ Dots ∷ Word high ∷ Bar ∷ tokens) h =
      at_size-shaped (is_clause first second) low (Some high) (alternatives_of tokens) (some_shaped (alternatives_of tokens) (alternatives_of-shaped tokens h))
  behind_alternative-shaped tokens h = tt

rule_says : (name : List ℕ) (alternatives : Option (List Alternative)) → IfSome alternatives AreShaped → IfSome (option_map (λ l. Rule name l) alternatives) IsShaped
rule_says name None k = tt
rule_says name (Some alternatives) k = k

allowed-shaped : (version : ℕ) (alternatives : Option (List Alternative)) → IfSome alternatives AreShaped → IfSome (option_and_then (allowed version) alternatives) AreShaped
allowed-shaped version None k = tt
allowed-shaped version (Some alternatives) k = either_way (is_second version || list_all (λ (alternative : Alternative). is_none alternative.size) alternatives) (Some alternatives) k
  where
    either_way : (b : Bool) (found : Option (List Alternative)) → IfSome found AreShaped → IfSome (cond b found None) AreShaped
    either_way true found k = k
    either_way false found k = tt

rule_of-shaped : (version : ℕ) (tokens : List Token) → list_all is_printable_token tokens ≡ true → IfSome (rule_of version tokens) IsShaped
rule_of-shaped version (Word name ∷ Equals ∷ tokens) h = rule_says name (option_and_then (allowed version) (alternatives_of tokens)) (allowed-shaped version (alternatives_of tokens) (alternatives_of-shaped tokens h))
rule_of-shaped version tokens h = tt

axiom_of-shaped : (tokens : List Token) → IfSome (axiom_of tokens) IsShaped
axiom_of-shaped (Word rule ∷ []) = tt
axiom_of-shaped tokens = tt

nothing_more-shaped : (tokens : List Token) → IfSome (nothing_more tokens) IsShaped
nothing_more-shaped [] = tt
nothing_more-shaped (token ∷ tokens) = tt

either_shape : (b : Bool) (says other : Option Declaration) → IfSome says IsShaped → IfSome other IsShaped → IfSome (cond b says other) IsShaped
either_shape true says other h k = h
either_shape false says other h k = k

module _ (version : ℕ) where
  behind_word-shaped : (word : List ℕ) (tokens : List Token) → list_all is_printable_token tokens ≡ true → IfSome ((behind_word version) word tokens) IsShaped
  behind_word-shaped word tokens h =
      either_shape (is_word (codes "class") word) (class_of tokens) _ (class_of-shaped tokens h)
      (either_shape (is_word (codes "sign") word) (sign_of tokens) _ (sign_of-shaped tokens)
      (either_shape (is_word (codes "algebra") word) (algebra_of tokens) _ (algebra_of-shaped tokens)
      (either_shape (is_word (codes "let") word) ((let_of version) tokens) _ (let_of-shaped version tokens)
      (either_shape (is_word (codes "rule") word) ((rule_of version) tokens) _ (rule_of-shaped version tokens h)
      (either_shape (is_word (codes "grammar") word) (axiom_of tokens) _ (axiom_of-shaped tokens)
      (either_shape (is_word (codes "words") word) (nothing_more tokens) None (nothing_more-shaped tokens) tt))))))

  declaration_of-shaped : (tokens : List Token) → list_all is_printable_token tokens ≡ true → IfSome ((declaration_of version) tokens) IsShaped
  declaration_of-shaped (Word word ∷ tokens) h = behind_word-shaped word tokens h
  declaration_of-shaped tokens h = tt

-- ---- lines

-- what a line says, where it has form, keeps this
abbrev pub LineKeeps : (Declaration → Type 0) → HeaderLine → Type 0
LineKeeps Keeps (Says declaration) = Keeps declaration
LineKeeps Keeps other = Unit {0}

abbrev by_shape : Option Declaration → HeaderLine
by_shape None = Shapeless
by_shape (Some declaration) = Says declaration

module _ (Keeps : Declaration → Type 0) (version : ℕ) (kept : (tokens : List Token) → list_all is_printable_token tokens ≡ true → IfSome (declaration_of version tokens) Keeps) where
  abbrev by_tokens : Result (List Token) Offence → HeaderLine
  by_tokens (Err OpenQuote) = Unclosed
  by_tokens (Err StrayByte) = Shapeless
  by_tokens (Ok tokens) = by_shape (declaration_of version tokens)

  by_shape-keeps : (says : Option Declaration) → IfSome says Keeps → LineKeeps Keeps (by_shape says)
  by_shape-keeps None k = tt
  by_shape-keeps (Some declaration) k = k

  by_tokens-keeps : (tokens : Result (List Token) Offence) → TokensPrintable tokens → LineKeeps Keeps (by_tokens tokens)
  by_tokens-keeps (Err OpenQuote) k = tt
  by_tokens-keeps (Err StrayByte) k = tt
  by_tokens-keeps (Ok tokens) k = by_shape-keeps (declaration_of version tokens) (kept tokens k)

  by_printable : (line : List ℕ) (printable : Bool) → list_all is_printable_byte line ≡ printable → LineKeeps Keeps (cond (not printable) Unprintable (by_tokens (tokens_of line)))
  by_printable line true h = by_tokens-keeps (tokens_of line) (tokens_of-printable line h)
  by_printable line false h = tt

  unless_skipped : (skipped : Bool) (other : HeaderLine) → LineKeeps Keeps other → LineKeeps Keeps (cond skipped Skipped other)
  unless_skipped true other h = tt
  unless_skipped false other h = h

  -- what the shapes of a printable line keep, its line keeps
  pub header_line-keeps : (line : List ℕ) → LineKeeps Keeps (header_line version line)
  header_line-keeps line =
      unless_skipped (is_skipped line) (cond (not (list_all is_printable_byte line)) Unprintable (by_tokens (tokens_of line))) (by_printable line (list_all is_printable_byte line) refl)

pub header_line-shaped : (version : ℕ) (line : List ℕ) → LineKeeps IsShaped (header_line version line)
header_line-shaped version line = header_line-keeps IsShaped version (declaration_of-shaped version) line
