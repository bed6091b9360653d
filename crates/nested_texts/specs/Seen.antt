-- What contracts see of the reading and the writing.
use Rattle.std.specs.Prelude.{◌≡◌, ℕ, zero, suc, ◌+◌, ◌-◌, ◌<◌, ◌≤◌, ◌==◌, Bool, true, false, List, [], ◌∷◌, ◌++◌, codes, nat_eq, drop, take, length, map, get_or, if◌then◌else◌}
use Rattle.std.specs.List.{All, flat_map, slice_range}
use Rattle.job_texts.specs.LineTokens.{Token, Word, OpenBracket}
use lib.Pointwise.{pointwise}
use Rattle.job_texts.specs.JobLines.{is_words_line, job_lines}
use Rattle.algebra_terms.specs.declared.symbols.Symbol.{Symbol}
use Rattle.algebra_terms.specs.declared.lexer.Token as spans
use Rattle.algebra_terms.specs.Tokens.{symbol_of}
use Rattle.nested_texts.specs.NestedRules as rules
use Rattle.nested_texts.specs.PlainTexts.{PlainLine, before_words, changed_lines, from_words, hidden_lines, hidden_name, kept_lines, line_of, origins, plain_behind}
use Rattle.nested_texts.specs.declared.shape.Place.{Place}
use Rattle.nested_texts.specs.declared.shape.Place.TheVariants as places
use Rattle.nested_texts.specs.declared.shape.Next.{Next}
use Rattle.nested_texts.specs.declared.shape.Next.TheVariants as next
use Rattle.nested_texts.specs.declared.nested.Nested.{Nested}
use Rattle.nested_texts.specs.declared.nested.Close.{Close}
use Rattle.nested_texts.specs.declared.output.Lines.{Lines}
use Rattle.nested_texts.specs.declared.plain.Header.{Header}
use Rattle.nested_texts.specs.declared.plain.Plain.{Plain}
use Rattle.nested_texts.specs.declared.header.HeaderLine.{HeaderLine}
use Rattle.nested_texts.specs.declared.header.HeaderLine.TheVariants as headers

-- what symbols say
abbrev pub tokens_seen : List Symbol → List Token
tokens_seen symbols = map symbol_of symbols

-- the only token is the word `words`
abbrev pub says_words : List Token → Bool
says_words (Word word ∷ []) = pointwise nat_eq word (codes "words")
says_words tokens = false

-- ---- the shape

-- tokens are right at a place, within so many alternatives
abbrev pub are_right : Place → ℕ → List Token → Bool
are_right places.Alternatives depth tokens = rules.are_alternatives tokens
are_right places.Arguments depth tokens = rules.are_arguments depth tokens
are_right places.InSquare depth tokens = rules.in_square depth tokens
are_right places.BehindClass depth tokens = rules.behind_class depth tokens
are_right places.BehindLow depth tokens = rules.behind_low depth tokens
are_right places.BehindArgument depth tokens = rules.behind_argument depth tokens
are_right places.BehindAlternative depth tokens = rules.behind_alternative tokens
are_right places.BehindWith depth tokens = rules.behind_with tokens
are_right places.BehindClause depth tokens = rules.behind_clause tokens
are_right places.BehindSize depth tokens = rules.behind_size tokens

-- what comes of the first symbols of a rest that is right as this says
abbrev pub IsNext : (List Token → Bool) → List Symbol → Next → Type 0
IsNext right symbols next.Wrong = right (tokens_seen symbols) ≡ false
IsNext right symbols next.End = right (tokens_seen symbols) ≡ true
IsNext right symbols (next.Further place depth used) =
    (right (tokens_seen symbols) ≡ are_right place depth (tokens_seen (drop used symbols)))
    × (0 < used) × (used ≤ length symbols)

-- an alternative begins here
abbrev pub opens_alternative : List Token → Bool
opens_alternative (Word sign ∷ OpenBracket ∷ tokens) = true
opens_alternative tokens = false

-- it lies in no more alternatives than it has symbols before it
abbrev pub IsShallow : ℕ → Next → Type 0
IsShallow depth (next.Further place behind used) = behind ≤ depth + used
IsShallow depth other = Unit {0}

-- ---- alternatives that stand as arguments

abbrev pub nested_seen : Nested → rules.Nested
nested_seen nested = record { depth = nested.depth; from = nested.from; to = nested.to }

-- those that an alternative counts as its own lie deeper
abbrev pub AreInside : List Nested → Type 0
AreInside [] = Unit {0}
AreInside (nested ∷ others) =
    (nested.inside ≤ length others)
    × All (λ (other : Nested). nested.depth < other.depth) (take nested.inside others)
    × AreInside others

-- the bytes of an alternative lie in the line, and it lies in another one
pub record IsWithin (line : List ℕ) (nested : Nested) : Type 0 where
  pub begins : nested.from ≤ length line
  pub ends : nested.to ≤ length line
  pub deep : 0 < nested.depth

-- where the alternatives end that are open
abbrev pub closes_seen : List Close → List ℕ
closes_seen closes = map (λ (close : Close). close.to) closes

-- those that were found behind the end of an open alternative lie deeper than the ones around it
abbrev pub AreDeeper : List Close → List Nested → Type 0
AreDeeper [] found = Unit {0}
AreDeeper (close ∷ closes) found =
    (close.behind ≤ length found)
    × All (λ (nested : Nested). length closes < nested.depth) (take (length found - close.behind) found)
    × AreDeeper closes found

-- what is open and what was found, from the last token on
pub record IsScan (closes : List Close) (found : List Nested) : Type 0 where
  pub deeper : AreDeeper closes found
  pub inside : AreInside found

-- all of it lies in the line
pub record IsScanOf (line : List ℕ) (closes : List Close) (found : List Nested) : Type 0 where
  pub ends : All (λ (close : Close). close.to ≤ length line) closes
  pub within : All (IsWithin line) found

-- where the token before a place begins
abbrev pub from_before : List spans.Token → ℕ → ℕ
from_before tokens zero = 0
from_before tokens (suc at) = from_at (drop at tokens)
  where
    from_at : List spans.Token → ℕ
    from_at [] = 0
    from_at (token ∷ others) = token.from

-- ---- hidden names

-- the first of these lies in no more alternatives than so many, or there is none
abbrev pub IsBehind : ℕ → List Nested → Type 0
IsBehind around [] = Unit {0}
IsBehind around (nested ∷ others) = nested.depth ≤ around

-- the bytes up to an alternative and its hidden name, where it has this depth
abbrev pub piece_before : List ℕ → ℕ → ℕ → ℕ → rules.Nested → List ℕ
piece_before line depth number from nested =
    if nested.depth == depth then slice_range line from nested.from ++ hidden_name number else []

-- where the bytes go on
abbrev pub from_behind : ℕ → ℕ → rules.Nested → ℕ
from_behind depth from nested = if nested.depth == depth then nested.to else from

-- ---- lines

-- the end of a line: LF, or CR LF where the line's last byte is a CR, so that it stays one
abbrev pub end_of : List ℕ → List ℕ
end_of line = if get_or line (length line - 1) 0 == 13 then 13 ∷ 10 ∷ [] else 10 ∷ []

-- a line with its end
abbrev pub ended : List ℕ → List ℕ
ended line = line ++ end_of line

abbrev pub text_of : List PlainLine → List ℕ
text_of lines = flat_map (λ (line : PlainLine). ended line.bytes) lines

abbrev pub origins_of : List PlainLine → List ℕ
origins_of lines = map (λ (line : PlainLine). line.origin) lines

-- these lines were added
pub record AddsLines (before after : Lines) (lines : List PlainLine) : Type 0 where
  pub text : after.text.items ≡ before.text.items ++ text_of lines
  pub origins : after.origins.items ≡ before.origins.items ++ origins_of lines

-- ---- header lines

-- the line isn't the `words` line, and these alternatives stand as arguments in it
pub record IsOther (line : List ℕ) (nested : List Nested) : Type 0 where
  pub other : is_words_line line ≡ false
  pub found : map nested_seen nested ≡ rules.nested_in line
  pub inside : AreInside nested
  pub within : All (IsWithin line) nested
  pub few : length nested ≤ length line

-- no header line before the `words` line is left in a text
pub record EndsHeader (text : List ℕ) : Type 0 where
  pub before : before_words (job_lines text) ≡ []
  pub rest : from_words (job_lines text) ≡ job_lines text

-- the first header line of a text, the alternatives that stand as arguments in it, and the bytes behind it
pub record BeginsHeader (text line : List ℕ) (nested : List Nested) (behind : List ℕ) : Type 0 where
  pub lines : job_lines text ≡ line ∷ job_lines behind
  pub first : IsOther line nested
  pub within : length line + length behind ≤ length text
  pub shorter : length behind < length text

-- what a header line is
abbrev pub IsHeaderLine : List ℕ → HeaderLine → Type 0
IsHeaderLine line headers.Words = is_words_line line ≡ true
IsHeaderLine line (headers.Other nested) = IsOther line nested.items

-- ---- texts

-- the header of a text was read whose bytes behind line 1 are these
pub record ReadsHeader (bytes : List ℕ) (header : Header) : Type 0 where
  pub changed : header.changed.text.items
      ≡ text_of (line_of 1 (codes "adp 2") ∷ changed_lines 2 1 (before_words (job_lines bytes)))
  pub changed_origins : header.changed.origins.items
      ≡ origins_of (line_of 1 (codes "adp 2") ∷ changed_lines 2 1 (before_words (job_lines bytes)))
  pub hidden : header.hidden.text.items ≡ text_of (hidden_lines 2 1 (before_words (job_lines bytes)))
  pub hidden_origins : header.hidden.origins.items ≡ origins_of (hidden_lines 2 1 (before_words (job_lines bytes)))
  pub rest : job_lines header.rest.now ≡ from_words (job_lines bytes)
  pub place : header.place ≡ 2 + length (before_words (job_lines bytes))
  pub short : header.place + length header.rest.now ≤ length bytes + 2
  pub few : length header.hidden.origins.items ≤ length bytes

-- the plain text of a text whose bytes behind line 1 are these, and line 1 is `adp 3`
pub record IsPlainBehind (bytes : List ℕ) (plain : Plain) : Type 0 where
  pub text : plain.text.items ≡ text_of (plain_behind (job_lines bytes))
  pub origin : plain.origin.items ≡ origins (plain_behind (job_lines bytes)) (length (job_lines bytes) + 2)
  pub hidden : plain.hidden ≡ length (hidden_lines 2 1 (before_words (job_lines bytes)))

-- a text is its own plain text
pub record IsItself (bytes : List ℕ) (plain : Plain) : Type 0 where
  pub text : plain.text.items ≡ bytes
  pub origin : plain.origin.items ≡ origins (kept_lines 1 (job_lines bytes)) (length (job_lines bytes) + 1)
  pub hidden : plain.hidden ≡ 0
