-- The tokens of a line: words, quoted texts, marks and dots, each with its span, or what stops their finding.
use Rattle.std.specs.Prelude.{ℕ, zero, suc, ◌+◌, Bool, true, false, ◌==◌, Option, Some, None, Result, Ok, Err, List, [], ◌∷◌, codes, map, if◌then◌else◌}
use Rattle.std.specs.List.{list_any, find, zip, take_while, prefix_len}
use Rattle.std.specs.Option.{option_map}
use Rattle.adp_model.specs.WellFormed.{is_word_byte}

-- what a token says: a longest run of letters, digits and `_`; the letters that a quoted text stands for; a mark; `..`
pub data Token : Type 0 where
  Word : (bytes : List ℕ) → Token
  Quoted : (letters : List ℕ) → Token
  Equals : Token
  OpenBracket : Token
  CloseBracket : Token
  Comma : Token
  OpenSquare : Token
  CloseSquare : Token
  Bar : Token
  Plus : Token
  Minus : Token
  Times : Token
  Dots : Token

-- a token and its span: the bytes of the line from `from` to before `to`
pub record PlacedToken : Type 0 where
  pub token : Token
  pub from : ℕ
  pub to : ℕ

-- what stops the finding of tokens: a byte that begins no token, or a `"` that begins no quoted text
pub data Offence : Type 0 where
  StrayByte : Offence
  OpenQuote : Offence

-- the byte is one of these
abbrev pub is_one_of : List ℕ → ℕ → Bool
is_one_of bytes byte = list_any (λ other. byte == other) bytes

-- each mark with its byte
abbrev pub marks : List (ℕ × Token)
marks =
    zip (codes "=(),[]|+-*")
    (Equals ∷ OpenBracket ∷ CloseBracket ∷ Comma ∷ OpenSquare ∷ CloseSquare ∷ Bar ∷ Plus ∷ Minus ∷ Times ∷ [])

-- the mark that a byte is, where it is one
abbrev pub mark_of : ℕ → Option Token
mark_of byte = option_map (λ (entry : ℕ × Token). entry.1) (find (λ (entry : ℕ × Token). entry.0 == byte) marks)

-- the part of a byte outside of quoted texts
pub data ByteSort : Type 0 where
  SpaceByte : ByteSort
  WordByte : ByteSort
  QuoteByte : ByteSort
  DotByte : ByteSort
  MarkByte : (mark : Token) → ByteSort
  OtherByte : ByteSort

abbrev pub byte_sort : ℕ → ByteSort
byte_sort byte =
    if is_one_of (codes " ") byte then SpaceByte
    else (if is_word_byte byte then WordByte
    else (if is_one_of (codes "\"") byte then QuoteByte
    else (if is_one_of (codes ".") byte then DotByte
    else mark_or_other (mark_of byte))))
  where
    mark_or_other : Option Token → ByteSort
    mark_or_other (Some mark) = MarkByte mark
    mark_or_other None = OtherByte

-- the part of a byte inside of a quoted text
pub data QuotedSort : Type 0 where
  Quote : QuotedSort
  Backslash : QuotedSort
  Plain : QuotedSort

abbrev pub quoted_sort : ℕ → QuotedSort
quoted_sort byte =
    if is_one_of (codes "\"") byte then Quote else (if is_one_of (codes "\\") byte then Backslash else Plain)

-- a quoted text from behind its first `"`: its letters, and how many bytes it has, the last `"` with them
pub record QuotedRest : Type 0 where
  pub letters : List ℕ
  pub bytes : ℕ

abbrev pub with_letter : ℕ → Option QuotedRest → Option QuotedRest
with_letter letter rest =
    option_map (λ (quoted : QuotedRest). record { letters = letter ∷ quoted.letters; bytes = 1 + quoted.bytes }) rest

abbrev pub with_backslash : Option QuotedRest → Option QuotedRest
with_backslash rest =
    option_map (λ (quoted : QuotedRest). record { letters = quoted.letters; bytes = 1 + quoted.bytes }) rest

-- the rest of a quoted text, read behind a `\` or not: up to the first `"` that has no `\` before it. A `\` stands
-- before `"` or `\` alone. Nothing where the text is no quoted text's rest
abbrev pub quoted_rest : Bool → List ℕ → Option QuotedRest
quoted_rest escaped [] = None
quoted_rest escaped (byte ∷ text) = at_byte escaped (quoted_sort byte) (λ next. quoted_rest next text)
  where
    at_byte : Bool → QuotedSort → (Bool → Option QuotedRest) → Option QuotedRest
    at_byte false Quote rest = Some (record { letters = []; bytes = 1 })
    at_byte false Backslash rest = with_backslash (rest true)
    at_byte false Plain rest = with_letter byte (rest false)
    at_byte true Quote rest = with_letter byte (rest false)
    at_byte true Backslash rest = with_letter byte (rest false)
    at_byte true Plain rest = None

-- what begins at a byte: nothing at a space, a token with so many further bytes, or none although one should
pub data Beginning : Type 0 where
  Space : Beginning
  Begins : (token : Token) → (further : ℕ) → Beginning
  Stops : (offence : Offence) → Beginning

-- what begins at the byte before this text
abbrev pub beginning : ℕ → List ℕ → Beginning
beginning byte text = begin (byte_sort byte)
  where
    quoted : Option QuotedRest → Beginning
    quoted (Some rest) = Begins (Quoted rest.letters) rest.bytes
    quoted None = Stops OpenQuote

    dots : List ℕ → Beginning
    dots [] = Stops StrayByte
    dots (second ∷ others) = if is_one_of (codes ".") second then Begins Dots 1 else Stops StrayByte

    begin : ByteSort → Beginning
    begin SpaceByte = Space
    begin WordByte = Begins (Word (byte ∷ take_while is_word_byte text)) (prefix_len is_word_byte text)
    begin QuoteByte = quoted (quoted_rest false text)
    begin DotByte = dots text
    begin (MarkByte mark) = Begins mark 0
    begin OtherByte = Stops StrayByte

abbrev pub with_token : PlacedToken → Result (List PlacedToken) Offence → Result (List PlacedToken) Offence
with_token token (Ok tokens) = Ok (token ∷ tokens)
with_token token (Err offence) = Err offence

-- the tokens of a text that begins at this place of its line, and whose first bytes, so many, belong to the token
-- before; or the first that stops their finding
abbrev pub tokens_from : ℕ → ℕ → List ℕ → Result (List PlacedToken) Offence
tokens_from inside place [] = Ok []
tokens_from (suc inside) place (byte ∷ text) = tokens_from inside (place + 1) text
tokens_from zero place (byte ∷ text) = begin (beginning byte text) (λ inside. tokens_from inside (place + 1) text)
  where
    begin : Beginning → (ℕ → Result (List PlacedToken) Offence) → Result (List PlacedToken) Offence
    begin Space rest = rest 0
    begin (Begins token further) rest =
        with_token (record { token = token; from = place; to = place + 1 + further }) (rest further)
    begin (Stops offence) rest = Err offence

-- the tokens of a line with their spans, or what stops their finding
abbrev pub line_tokens : List ℕ → Result (List PlacedToken) Offence
line_tokens line = tokens_from 0 0 line

-- what the tokens of a line say, or what stops their finding
abbrev pub tokens_of : List ℕ → Result (List Token) Offence
tokens_of line = said (line_tokens line)
  where
    said : Result (List PlacedToken) Offence → Result (List Token) Offence
    said (Ok tokens) = Ok (map (λ (placed : PlacedToken). placed.token) tokens)
    said (Err offence) = Err offence

-- a token before others
abbrev pub before_tokens : Token → Result (List Token) Offence → Result (List Token) Offence
before_tokens token (Ok tokens) = Ok (token ∷ tokens)
before_tokens token (Err offence) = Err offence

-- whether a text begins with a byte of a word
abbrev pub begins_word : List ℕ → Bool
begins_word [] = false
begins_word (byte ∷ text) = is_word_byte byte
