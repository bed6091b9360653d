-- What the lines of a certificate say: `cert`; `word 1 cells 4`, the head of a word's block; `s 0 2 1`, or `s 0 2 none`,
-- a cell by the name of its rule and its span, with its score. Lines are those of a job's text, but only one that an LF
-- ends says anything.
use Rattle.std.specs.Prelude.{ℕ, zero, suc, ℤ, pos, negsuc, Bool, false, not, ◌&&◌, nat_le, nat_eq, ◌==◌, if◌then◌else◌, Option, Some, None, List, [], ◌∷◌, ◌++◌, map, take, drop, position, count_by, codes}
use Rattle.std.specs.Char.{is_ascii_digit, is_newline}
use Rattle.std.specs.List.{slice_split}
use Rattle.std.specs.Option.{option_map}
use Rattle.std.specs.Str.{all_ascii_digits}
use Rattle.std.specs.Str.Parse.{digits_value}
use lib.Pointwise.{pointwise}
use Rattle.adp_model.specs.Ascii.{digit_zero, space}
use Rattle.adp_model.specs.declared.cell.Cell.{Cell}
use Rattle.adp_model.specs.declared.grammar.Grammar.{Grammar}
use Rattle.adp_model.specs.ProblemFields.{greatest_score}
use Rattle.std.specs.Str.Lines.{lines}

-- a line by its form; the score of a cell without a candidate is none
pub data LineForm : Type 0 where
  CertLine : LineForm
  WordLine : (number : ℕ) → (cells : ℕ) → LineForm
  CellLine : (cell : Cell) → (score : Option ℤ) → LineForm
  Formless : LineForm

-- ---- numbers in canonical spelling

-- digits, one at least, of which the first is 0 only where it stands alone
abbrev pub is_canonical : List ℕ → Bool
is_canonical [] = false
is_canonical (digit ∷ []) = is_ascii_digit digit
is_canonical (digit ∷ other ∷ digits) = all_ascii_digits (digit ∷ other ∷ digits) && not (digit == digit_zero)

-- a whole number from 0 on, of any size
abbrev pub natural_of : List ℕ → Option ℕ
natural_of word = if is_canonical word then Some (digits_value 10 word) else None

-- the byte before a negative number
abbrev pub minus : ℕ
minus = 45

-- a score of this value, where it is in range
abbrev pub positive_score : Option ℕ → Option ℤ
positive_score None = None
positive_score (Some number) = if nat_le number greatest_score then Some (pos number) else None

-- a score of this value below 0, where it is one and in range
abbrev pub negative_score : Option ℕ → Option ℤ
negative_score None = None
negative_score (Some zero) = None
negative_score (Some (suc number)) = if nat_le (suc number) greatest_score then Some (negsuc number) else None

-- a score: a number from -(2^62 - 1) to 2^62 - 1
abbrev pub score_of : List ℕ → Option ℤ
score_of [] = None
score_of (byte ∷ bytes) =
    if byte == minus then negative_score (natural_of bytes) else positive_score (natural_of (byte ∷ bytes))

-- ---- the forms

abbrev pub is_text : List ℕ → List ℕ → Bool
is_text word text = pointwise nat_eq word text

-- a score, or that there is none
abbrev pub said_score : List ℕ → Option (Option ℤ)
said_score word = if is_text word (codes "none") then Some None else option_map (λ score. Some score) (score_of word)

-- the rule of this name, by its number
abbrev pub rule_named : Grammar → List ℕ → Option ℕ
rule_named grammar name = position (λ rule. is_text rule.name name) grammar.rules

-- `word K cells M`, by its two numbers
abbrev pub word_line : Option ℕ → Option ℕ → LineForm
word_line (Some number) (Some cells) = WordLine number cells
word_line number cells = Formless

-- a line of a cell, by its four words
abbrev pub cell_line : Option ℕ → Option ℕ → Option ℕ → Option (Option ℤ) → LineForm
cell_line (Some rule) (Some from) (Some to) (Some score) = CellLine (record { rule = rule; from = from; to = to }) score
cell_line rule from to score = Formless

-- the form of a line, by the words that single spaces part
abbrev pub form_by_words : Grammar → List (List ℕ) → LineForm
form_by_words grammar (word ∷ []) = if is_text word (codes "cert") then CertLine else Formless
form_by_words grammar (first ∷ second ∷ third ∷ fourth ∷ []) =
    if is_text first (codes "word") && is_text third (codes "cells") then word_line (natural_of second) (natural_of fourth)
    else cell_line (rule_named grammar first) (natural_of second) (natural_of third) (said_score fourth)
form_by_words grammar words = Formless

-- the words that single spaces part
abbrev pub words_of : List ℕ → List (List ℕ)
words_of line = slice_split (λ byte. byte == space) line

abbrev pub form_of : Grammar → List ℕ → LineForm
form_of grammar line = form_by_words grammar (words_of line)

-- the forms of the first lines, as many as there are LFs; what stands behind the last LF has no form
abbrev pub forms_among : Grammar → ℕ → List (List ℕ) → List LineForm
forms_among grammar ended lines = map (form_of grammar) (take ended lines) ++ map (λ line. Formless) (drop ended lines)

-- the forms of a certificate's lines
abbrev pub forms_of : Grammar → List ℕ → List LineForm
forms_of grammar bytes = forms_among grammar (count_by is_newline bytes) (lines bytes)
