-- The lines of a job's text: line 1, the header up to the `words` line, and the words behind it. Each LF ends a line,
-- bytes behind the last LF are a line where there is one at least, and one CR directly before an LF is no part of the
-- line: std's `lines`.
use Rattle.std.specs.Prelude.{ℕ, ◌+◌, Bool, false, ◌||◌, nat_eq, Option, Result, Ok, List, [], ◌∷◌, codes, drop, if◌then◌else◌, slice_index_or}
use Rattle.std.specs.List.{list_all, position, after_first}
use Rattle.std.specs.Option.{option_map}
use Rattle.std.specs.Str.Lines.{lines}
use lib.Pointwise.{pointwise}
use Rattle.job_texts.specs.LineTokens.{Token, Word, Offence, is_one_of, tokens_of}

-- the lines of a text
abbrev pub job_lines : List ℕ → List (List ℕ)
job_lines bytes = lines bytes

-- the line of this number, counted from 1; an empty one where there is none
abbrev pub line_at : List (List ℕ) → ℕ → List ℕ
line_at lines number = slice_index_or ([] ∷ lines) number []

-- line 1 of a job's text in the first format, and in the second
abbrev pub is_first_format : List ℕ → Bool
is_first_format line = pointwise nat_eq line (codes "adp 1")

abbrev pub is_second_format : List ℕ → Bool
is_second_format line = pointwise nat_eq line (codes "adp 2")

-- line 1 of a job's text
abbrev pub is_first_line : List ℕ → Bool
is_first_line line = is_first_format line || is_second_format line

-- the format of a text, by its line 1; of a text with another line 1 it says nothing
abbrev pub version_of : List (List ℕ) → ℕ
version_of lines = if is_second_format (line_at lines 1) then 2 else 1

-- a line that is empty, has only spaces, or begins with `#`
abbrev pub is_skipped : List ℕ → Bool
is_skipped line = list_all (is_one_of (codes " ")) line || begins_comment line
  where
    begins_comment : List ℕ → Bool
    begins_comment [] = false
    begins_comment (byte ∷ others) = is_one_of (codes "#") byte

-- a line whose only token is the word `words`
abbrev pub is_words_line : List ℕ → Bool
is_words_line line = only_words (tokens_of line)
  where
    only_words : Result (List Token) Offence → Bool
    only_words (Ok (Word word ∷ [])) = pointwise nat_eq word (codes "words")
    only_words tokens = false

-- the lines up to and with the first `words` line; all of them where there is none
abbrev pub up_to_words_line : List (List ℕ) → List (List ℕ)
up_to_words_line [] = []
up_to_words_line (line ∷ lines) = line ∷ (if is_words_line line then [] else up_to_words_line lines)

-- the header: the lines from line 2 up to and with the `words` line
abbrev pub header_of : List (List ℕ) → List (List ℕ)
header_of lines = up_to_words_line (drop 1 lines)

-- the number of the `words` line, where there is one
abbrev pub words_line_of : List (List ℕ) → Option ℕ
words_line_of lines = option_map (λ place. place + 2) (position is_words_line (drop 1 lines))

-- the words: the lines behind the `words` line
abbrev pub words_of : List (List ℕ) → List (List ℕ)
words_of lines = after_first is_words_line (drop 1 lines)
