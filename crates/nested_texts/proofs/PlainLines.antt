-- No line of a plain text has a newline.
use Rattle.std.proofs.Common.{◌≡◌, ℕ, zero, suc, ◌+◌, ◌-◌, ◌/◌, ◌%◌, ◌==◌, nat_lt, Bool, true, false, List, [], ◌∷◌, ◌++◌, codes, length, map, drop, slice_index, cond, refl, arith}
use Rattle.std.specs.List.{AllByRecursion, onto_first, slice_range, slice_split}
use Rattle.std.specs.Char.{is_newline}
use Rattle.std.specs.Fmt.{decimal, digit_glyph, digits, digits_onto}
use Rattle.std.specs.Str.Lines.{strip_carriage_return, lines_of_parts}
use Rattle.std.proofs.lemmas.Bool.Decides.{nat_tests}
use Rattle.std.proofs.lemmas.List.Elements.{All-nil, All-cons, All-append, All-take, All-drop, All-from_recursion}
use Rattle.job_texts.specs.JobLines.{is_words_line, job_lines}
use Rattle.nested_texts.specs.NestedRules as rules
use Rattle.nested_texts.specs.NestedRules.{nested_in}
use Rattle.nested_texts.specs.PlainTexts.{PlainLine, before_words, changed_lines, from_words, hidden_lines, hidden_name, hidden_rules, kept_lines, line_of, plain_behind, replaced}
use Rattle.nested_texts.proofs.EndedLines.{IsOneLine}

-- no byte of these is a newline
abbrev AreLines : List (List ℕ) → Type 0
AreLines lines = AllByRecursion IsOneLine lines

abbrev ArePlain : List PlainLine → Type 0
ArePlain lines = AllByRecursion (λ (line : PlainLine). IsOneLine line.bytes) lines

joined : (first second : List ℕ) → IsOneLine first → IsOneLine second → IsOneLine (first ++ second)
joined first second = All-append (λ (byte : ℕ). is_newline byte ≡ false) first second

-- ---- the lines of a text

-- the parts between newlines, the first of them and the others
first_part : (byte : ℕ) (parts : List (List ℕ)) → is_newline byte ≡ false → AreLines parts → AreLines (cond (is_newline byte) ([] ∷ parts) (onto_first byte parts))
first_part byte [] other lines = rw other (All-cons (λ (byte : ℕ). is_newline byte ≡ false) byte [] other (All-nil (λ (byte : ℕ). is_newline byte ≡ false)), tt)
first_part byte (part ∷ parts) other lines = rw other (All-cons (λ (byte : ℕ). is_newline byte ≡ false) byte part other lines.0, lines.1)

parts_are_lines : (text : List ℕ) → AreLines (slice_split is_newline text)
parts_are_lines [] = (All-nil (λ (byte : ℕ). is_newline byte ≡ false), tt)
parts_are_lines (byte ∷ text) = step (is_newline byte) refl (parts_are_lines text)
  where
    step : (ends : Bool) → is_newline byte ≡ ends → AreLines (slice_split is_newline text) → AreLines (slice_split is_newline (byte ∷ text))
    step true e parts = rw e (All-nil (λ (byte : ℕ). is_newline byte ≡ false), parts)
    step false e parts = first_part byte (slice_split is_newline text) e parts

stripped : (line : List ℕ) → IsOneLine line → IsOneLine (strip_carriage_return line)
stripped line one = step (slice_index line (length line - 1) == 13) refl
  where
    step : (ends : Bool) → (slice_index line (length line - 1) == 13) ≡ ends → IsOneLine (strip_carriage_return line)
    step true e = rw e (All-take (λ (byte : ℕ). is_newline byte ≡ false) (length line - 1) line one)
    step false e = rw e one

of_parts : (parts : List (List ℕ)) → AreLines parts → AreLines (lines_of_parts parts)
of_parts [] lines = tt
of_parts (part ∷ []) lines = step (length part == 0) refl
  where
    step : (none : Bool) → (length part == 0) ≡ none → AreLines (lines_of_parts (part ∷ []))
    step true e = rw e tt
    step false e = rw e (lines.0, tt)
of_parts (part ∷ second ∷ parts) lines = (stripped part lines.0, of_parts (second ∷ parts) lines.1)

lines_are_lines : (text : List ℕ) → AreLines (job_lines text)
lines_are_lines text = of_parts (slice_split is_newline text) (parts_are_lines text)

before_are_lines : (lines : List (List ℕ)) → AreLines lines → AreLines (before_words lines)
before_are_lines [] all = tt
before_are_lines (line ∷ lines) all = step (is_words_line line) refl (before_are_lines lines all.1)
  where
    step : (words : Bool) → is_words_line line ≡ words → AreLines (before_words lines) → AreLines (before_words (line ∷ lines))
    step true e rest = rw e tt
    step false e rest = rw e (all.0, rest)

from_are_lines : (lines : List (List ℕ)) → AreLines lines → AreLines (from_words lines)
from_are_lines [] all = tt
from_are_lines (line ∷ lines) all = step (is_words_line line) refl (from_are_lines lines all.1)
  where
    step : (words : Bool) → is_words_line line ≡ words → AreLines (from_words lines) → AreLines (from_words (line ∷ lines))
    step true e rest = rw e all
    step false e rest = rw e rest

-- ---- names

glyph_is_none : (digit : ℕ) → is_newline (digit_glyph false digit) ≡ false
glyph_is_none digit = step (nat_lt digit 10) refl
  where
    step : (small : Bool) → nat_lt digit 10 ≡ small → is_newline (digit_glyph false digit) ≡ false
    step true e = rw e (grind (arith, nat_tests))
    step false e = rw e (grind (arith, nat_tests))

digits_are_one : (count number : ℕ) (others : List ℕ) → IsOneLine others → IsOneLine (digits_onto count 10 false number others)
digits_are_one zero number others one = one
digits_are_one (suc count) number others one =
    let more = All-cons (λ (byte : ℕ). is_newline byte ≡ false) (digit_glyph false (number % 10)) others (glyph_is_none (number % 10)) one in
    step (number / 10 == 0) refl more (digits_are_one count (number / 10) (digit_glyph false (number % 10) ∷ others) more)
  where
    step : (last : Bool) → (number / 10 == 0) ≡ last → IsOneLine (digit_glyph false (number % 10) ∷ others)
        → IsOneLine (digits_onto count 10 false (number / 10) (digit_glyph false (number % 10) ∷ others))
        → IsOneLine (digits_onto (suc count) 10 false number others)
    step true e more rest = rw e more
    step false e more rest = rw e rest

decimal_is_one : (number : ℕ) → IsOneLine (decimal number)
unfolding digits
decimal_is_one number = digits_are_one 64 number [] (All-nil (λ (byte : ℕ). is_newline byte ≡ false))

name_is_one : (number : ℕ) → IsOneLine (hidden_name number)
name_is_one number =
    joined (codes "h_") (decimal number) (All-from_recursion (λ (byte : ℕ). is_newline byte ≡ false) (codes "h_") (refl, (refl, tt))) (decimal_is_one number)

-- ---- lines with names

slice_is_one : (line : List ℕ) (from to : ℕ) → IsOneLine line → IsOneLine (slice_range line from to)
slice_is_one line from to one =
    All-take (λ (byte : ℕ). is_newline byte ≡ false) (to - from) (drop from line) (All-drop (λ (byte : ℕ). is_newline byte ≡ false) from line one)

replaced_is_one : (line : List ℕ) (to depth number from : ℕ) (nested : List rules.Nested) → IsOneLine line → IsOneLine (replaced line to depth number from nested)
replaced_is_one line to depth number from [] one = slice_is_one line from to one
replaced_is_one line to depth number from (nested ∷ others) one =
    step (nested.depth == depth) (nat_lt depth nested.depth) refl refl
    (replaced_is_one line to depth (number + 1) nested.to others one) (replaced_is_one line to depth (number + 1) from others one)
  where
    step : (same deeper : Bool) → (nested.depth == depth) ≡ same → nat_lt depth nested.depth ≡ deeper
        → IsOneLine (replaced line to depth (number + 1) nested.to others) → IsOneLine (replaced line to depth (number + 1) from others)
        → IsOneLine (replaced line to depth number from (nested ∷ others))
    step true deeper e f named skipped =
        rw e (joined (slice_range line from nested.from ++ hidden_name number) _
        (joined (slice_range line from nested.from) (hidden_name number) (slice_is_one line from nested.from one) (name_is_one number)) named)
    step false true e f named skipped = rw (e, f) skipped
    step false false e f named skipped = rw (e, f) (slice_is_one line from to one)

rules_are_lines : (line : List ℕ) (origin number : ℕ) (nested : List rules.Nested) → IsOneLine line → ArePlain (map (line_of origin) (hidden_rules line number nested))
rules_are_lines line origin number [] one = tt
rules_are_lines line origin number (nested ∷ others) one =
    let rule = All-from_recursion (λ (byte : ℕ). is_newline byte ≡ false) (codes "rule ") (refl, (refl, (refl, (refl, (refl, tt))))) in
    let equals = All-from_recursion (λ (byte : ℕ). is_newline byte ≡ false) (codes " = ") (refl, (refl, (refl, tt))) in
    let front = joined (codes "rule ") (hidden_name number) rule (name_is_one number) in
    let named = joined (codes "rule " ++ hidden_name number) (codes " = ") front equals in
    let alternative = replaced_is_one line nested.to (nested.depth + 1) (number + 1) nested.from others one in
    (joined (codes "rule " ++ hidden_name number ++ codes " = ") _ named alternative, rules_are_lines line origin (number + 1) others one)

-- ---- texts

both : (first second : List PlainLine) → ArePlain first → ArePlain second → ArePlain (first ++ second)
both [] second a b = b
both (line ∷ first) second a b = (a.0, both first second a.1 b)

kept_are_plain : (place : ℕ) (lines : List (List ℕ)) → AreLines lines → ArePlain (kept_lines place lines)
kept_are_plain place [] all = tt
kept_are_plain place (line ∷ lines) all = (all.0, kept_are_plain (place + 1) lines all.1)

changed_are_plain : (place number : ℕ) (lines : List (List ℕ)) → AreLines lines → ArePlain (changed_lines place number lines)
changed_are_plain place number [] all = tt
changed_are_plain place number (line ∷ lines) all =
    (replaced_is_one line (length line) 1 number 0 (nested_in line) all.0, changed_are_plain (place + 1) (number + length (nested_in line)) lines all.1)

hidden_are_plain : (place number : ℕ) (lines : List (List ℕ)) → AreLines lines → ArePlain (hidden_lines place number lines)
hidden_are_plain place number [] all = tt
hidden_are_plain place number (line ∷ lines) all =
    both (map (line_of place) (hidden_rules line number (nested_in line))) (hidden_lines (place + 1) (number + length (nested_in line)) lines)
    (rules_are_lines line place number (nested_in line) all.0) (hidden_are_plain (place + 1) (number + length (nested_in line)) lines all.1)

pub plain_are_plain : (bytes : List ℕ) → AllByRecursion (λ (line : PlainLine). IsOneLine line.bytes) (plain_behind (job_lines bytes))
plain_are_plain bytes =
    let lines = job_lines bytes in
    let all = lines_are_lines bytes in
    let header = before_are_lines lines all in
    let first = All-from_recursion (λ (byte : ℕ). is_newline byte ≡ false) (codes "adp 2") (refl, (refl, (refl, (refl, (refl, tt))))) in
    let changed : ArePlain (line_of 1 (codes "adp 2") ∷ changed_lines 2 1 (before_words lines)) = (first, changed_are_plain 2 1 (before_words lines) header) in
    both (line_of 1 (codes "adp 2") ∷ changed_lines 2 1 (before_words lines) ++ hidden_lines 2 1 (before_words lines)) _
    (both (line_of 1 (codes "adp 2") ∷ changed_lines 2 1 (before_words lines)) (hidden_lines 2 1 (before_words lines)) changed (hidden_are_plain 2 1 (before_words lines) header))
    (kept_are_plain (2 + length (before_words lines)) (from_words lines) (from_are_lines lines all))
