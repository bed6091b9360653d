-- The text without nested alternatives that stands for one with them: each alternative that stands as an argument is a
-- hidden rule of its own.
use Rattle.std.specs.Prelude.{ℕ, ◌+◌, ◌==◌, nat_eq, nat_lt, Bool, List, [], ◌∷◌, ◌++◌, codes, drop, length, map, if◌then◌else◌}
use Rattle.std.specs.List.{slice_range}
use Rattle.std.specs.Fmt.{decimal}
use lib.Pointwise.{pointwise}
use Rattle.job_texts.specs.JobLines.{is_words_line, line_at}
use Rattle.nested_texts.specs.NestedRules.{Nested, nested_in}

-- `h_7`
abbrev pub hidden_name : ℕ → List ℕ
hidden_name number = codes "h_" ++ decimal number

-- the bytes of a line up to before `to`, from `from` on, with hidden names in place of the alternatives of this depth.
-- The alternatives that begin behind `from` are given, and the number of the first of them
abbrev pub replaced : List ℕ → ℕ → ℕ → ℕ → ℕ → List Nested → List ℕ
replaced line to depth number from [] = slice_range line from to
replaced line to depth number from (nested ∷ others) =
    if nested.depth == depth
    then slice_range line from nested.from ++ hidden_name number ++ replaced line to depth (number + 1) nested.to others
    else (if nat_lt depth nested.depth then replaced line to depth (number + 1) from others
    else slice_range line from to)

-- ---- lines

-- a line of the plain text, and the number of the line that it comes from
pub record PlainLine : Type 0 where
  pub bytes : List ℕ
  pub origin : ℕ

abbrev pub line_of : ℕ → List ℕ → PlainLine
line_of origin bytes = record { bytes = bytes; origin = origin }

-- a header line with hidden names, the first of this number
abbrev pub changed_line : ℕ → List ℕ → List ℕ
changed_line number line = replaced line (length line) 1 number 0 (nested_in line)

-- `rule h_7 = ALT` of an alternative of a line, behind which these begin
abbrev pub hidden_rule : List ℕ → ℕ → Nested → List Nested → List ℕ
hidden_rule line number nested others =
    codes "rule " ++ hidden_name number ++ codes " = "
    ++ replaced line nested.to (nested.depth + 1) (number + 1) nested.from others

-- the same of each of these, the first of this number
abbrev pub hidden_rules : List ℕ → ℕ → List Nested → List (List ℕ)
hidden_rules line number [] = []
hidden_rules line number (nested ∷ others) =
    hidden_rule line number nested others ∷ hidden_rules line (number + 1) others

-- the lines before the `words` line, and those from it on; where there is none, all of them, and none
abbrev pub before_words : List (List ℕ) → List (List ℕ)
before_words [] = []
before_words (line ∷ lines) = if is_words_line line then [] else line ∷ before_words lines

abbrev pub from_words : List (List ℕ) → List (List ℕ)
from_words [] = []
from_words (line ∷ lines) = if is_words_line line then line ∷ lines else from_words lines

-- lines as they are, the first of this number
abbrev pub kept_lines : ℕ → List (List ℕ) → List PlainLine
kept_lines place [] = []
kept_lines place (line ∷ lines) = line_of place line ∷ kept_lines (place + 1) lines

-- header lines with hidden names, the first line of number `place`, the first name of number `number`
abbrev pub changed_lines : ℕ → ℕ → List (List ℕ) → List PlainLine
changed_lines place number [] = []
changed_lines place number (line ∷ lines) =
    line_of place (changed_line number line) ∷ changed_lines (place + 1) (number + length (nested_in line)) lines

-- the hidden rules of header lines
abbrev pub hidden_lines : ℕ → ℕ → List (List ℕ) → List PlainLine
hidden_lines place number [] = []
hidden_lines place number (line ∷ lines) =
    map (line_of place) (hidden_rules line number (nested_in line))
    ++ hidden_lines (place + 1) (number + length (nested_in line)) lines

-- ---- texts

-- line 1 of a text that may have nested alternatives
abbrev pub is_third_format : List ℕ → Bool
is_third_format line = pointwise nat_eq line (codes "adp 3")

-- the lines of the plain text of a text whose lines behind line 1 are these
abbrev pub plain_behind : List (List ℕ) → List PlainLine
plain_behind lines =
    line_of 1 (codes "adp 2") ∷ changed_lines 2 1 (before_words lines) ++ hidden_lines 2 1 (before_words lines)
    ++ kept_lines (2 + length (before_words lines)) (from_words lines)

-- the lines of the plain text of a text of these lines
abbrev pub plain_lines : List (List ℕ) → List PlainLine
plain_lines lines = if is_third_format (line_at lines 1) then plain_behind (drop 1 lines) else kept_lines 1 lines

-- how many alternatives of a text of these lines have hidden rules
abbrev pub hidden_count : List (List ℕ) → ℕ
hidden_count lines =
    if is_third_format (line_at lines 1) then length (hidden_lines 2 1 (before_words (drop 1 lines))) else 0

-- for each of these lines its origin, and for one more the number of lines behind all
abbrev pub origins : List PlainLine → ℕ → List ℕ
origins plain behind = map (λ (line : PlainLine). line.origin) plain ++ behind ∷ []
