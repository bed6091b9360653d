-- Tokens that are spans of a line, seen as what these bytes of the line say.
use Rattle.std.specs.Prelude.{◌≡◌, ℕ, ◌<◌, ◌≤◌, false, Option, Some, None, unwrap_or, IsSome, Result, Ok, Err, List, [], ◌∷◌, length, take, drop}
use Rattle.std.specs.List.{slice_range}
use Rattle.std.specs.Option.{option_map}
use Rattle.algebra_terms.specs.declared.lexer.Token as spans
use Rattle.algebra_terms.specs.declared.lexer.TokenKind.{TokenKind}
use Rattle.algebra_terms.specs.declared.lexer.TokenKind.TheVariants as kinds
use Rattle.algebra_terms.specs.declared.symbols.Symbol.{Symbol}
use Rattle.algebra_terms.specs.declared.symbols.Symbol.TheVariants as symbols
use Rattle.algebra_terms.specs.declared.error.TokenError.{TokenError}
use Rattle.algebra_terms.specs.declared.error.TokenError.TheVariants as errors
use Rattle.job_texts.specs.LineTokens.{Token, Word, Quoted, Equals, OpenBracket, CloseBracket, Comma, OpenSquare, CloseSquare, Bar, Plus, Minus, Times, Dots, PlacedToken, Offence, StrayByte, OpenQuote, mark_of, QuotedRest, quoted_rest, Space, Begins, Stops, beginning}

-- how many bytes the rest of a quoted text has
abbrev pub quoted_bytes : Option QuotedRest → Option ℕ
quoted_bytes rest = option_map (λ (quoted : QuotedRest). quoted.bytes) rest

-- the letters of a quoted text, from behind its first `"`
abbrev pub letters_behind : List ℕ → List ℕ
letters_behind text = letters (quoted_rest false text)
  where
    letters : Option QuotedRest → List ℕ
    letters None = []
    letters (Some quoted) = quoted.letters

-- the mark that a text begins with
abbrev pub first_mark : List ℕ → Option Token
first_mark [] = None
first_mark (byte ∷ text) = mark_of byte

-- what these bytes say, as a token of this kind
abbrev pub said_by : TokenKind → List ℕ → Token
said_by kinds.Word bytes = Word bytes
said_by kinds.Quoted bytes = Quoted (letters_behind (drop 1 bytes))
said_by kinds.Mark bytes = unwrap_or (first_mark bytes) Dots
said_by kinds.Dots bytes = Dots

-- the bytes of a token
abbrev pub bytes_of : List ℕ → spans.Token → List ℕ
bytes_of line token = slice_range line token.from token.to

-- what a token of this line says
abbrev pub said : List ℕ → spans.Token → Token
said line token = said_by token.kind (bytes_of line token)

-- the same with its span
abbrev pub placed : List ℕ → spans.Token → PlacedToken
placed line token = record { token = said line token; from = token.from; to = token.to }

-- a quoted text is closed, and a mark is one
abbrev pub IsSpelled : TokenKind → List ℕ → Type 0
IsSpelled kinds.Word bytes = Unit {0}
IsSpelled kinds.Quoted bytes = quoted_bytes (quoted_rest false (drop 1 bytes)) ≡ Some (length (drop 1 bytes))
IsSpelled kinds.Mark bytes = IsSome (first_mark bytes)
IsSpelled kinds.Dots bytes = Unit {0}

-- the token has bytes, which lie in the line and are spelled as its kind says
pub record IsIn (line : List ℕ) (token : spans.Token) : Type 0 where
  pub nonempty : token.from < token.to
  pub inside : token.to ≤ length line
  pub spelled : IsSpelled token.kind (bytes_of line token)

-- what a symbol is, without where its bytes lie in memory
abbrev pub symbol_of : Symbol → Token
symbol_of (symbols.Word bytes) = Word bytes.now
symbol_of (symbols.Quoted text) = Quoted (letters_behind text.now)
symbol_of symbols.Equals = Equals
symbol_of symbols.OpenBracket = OpenBracket
symbol_of symbols.CloseBracket = CloseBracket
symbol_of symbols.Comma = Comma
symbol_of symbols.OpenSquare = OpenSquare
symbol_of symbols.CloseSquare = CloseSquare
symbol_of symbols.Bar = Bar
symbol_of symbols.Plus = Plus
symbol_of symbols.Minus = Minus
symbol_of symbols.Times = Times
symbol_of symbols.Dots = Dots

-- a symbol that is a quoted text is closed by its last byte
abbrev pub IsClosed : Symbol → Type 0
IsClosed (symbols.Quoted text) = quoted_bytes (quoted_rest false text.now) ≡ Some (length text.now)
IsClosed other = Unit {0}

-- what stops the finding of tokens; of want of memory nothing is said
abbrev pub IsStopped : Result (List PlacedToken) Offence → TokenError → Type 0
IsStopped tokens errors.StrayByte = tokens ≡ Err StrayByte
IsStopped tokens errors.OpenQuote = tokens ≡ Err OpenQuote
IsStopped tokens errors.Memory = Unit {0}

-- what begins at a byte before a text: nothing, a token of a kind with so many bytes of the text, or none
abbrev pub IsBeginning : ℕ → List ℕ → Result (Option (TokenKind × ℕ)) TokenError → Type 0
IsBeginning byte text (Ok None) = beginning byte text ≡ Space
IsBeginning byte text (Ok (Some found)) =
    (beginning byte text ≡ Begins (said_by found.0 (byte ∷ take found.1 text)) found.1)
    × (found.1 ≤ length text) × IsSpelled found.0 (byte ∷ take found.1 text)
IsBeginning byte text (Err errors.StrayByte) = beginning byte text ≡ Stops StrayByte
IsBeginning byte text (Err errors.OpenQuote) = beginning byte text ≡ Stops OpenQuote
IsBeginning byte text (Err errors.Memory) = ⊥
