-- Lines with their ends.
use Rattle.std.proofs.Common.{◌≡◌, ℕ, ◌-◌, ◌==◌, Bool, true, false, List, [], ◌∷◌, ◌++◌, length, map, take, drop, get_or, refl, sym, ap, ◌∙◌, append-nil, append_assoc, length-append, arith}
use Rattle.std.specs.List.{All, AllByRecursion, slice_split}
use Rattle.std.specs.Char.{is_newline}
use Rattle.std.specs.Str.Lines.{strip_carriage_return, lines_of_parts}
use Rattle.std.proofs.lemmas.List.{take-append-drop}
use Rattle.std.proofs.lemmas.List.Elements.{All-nil, All-cons, All-append, All-head, All-tail}
use Rattle.std.proofs.Math.Seq.{get_or-append_seam}
use Rattle.job_texts.specs.JobLines.{job_lines}
use Rattle.nested_texts.specs.PlainTexts.{PlainLine, line_of}
use Rattle.nested_texts.specs.Seen.{end_of, ended, text_of}

-- a line that was put behind a text, with its end
pub text_ended : (text : List ℕ) (start : ℕ) → (text ++ end_of (drop start text)) ≡ take start text ++ ended (drop start text)
text_ended text start =
    ap (λ (whole : List ℕ). whole ++ end_of (drop start text)) (sym (take-append-drop start text))
    ∙ append_assoc (take start text) (drop start text) (end_of (drop start text))

pub front_of : (text line : List ℕ) → take (length text) (text ++ line) ≡ text
front_of [] line = refl
front_of (byte ∷ text) line = ap (λ (others : List ℕ). byte ∷ others) (front_of text line)

pub behind_front : (text line : List ℕ) → drop (length text) (text ++ line) ≡ line
behind_front [] line = refl
behind_front (byte ∷ text) line = behind_front text line

pub one_line : (text line : List ℕ) (origin : ℕ)
    → take (length text) (text ++ line) ++ ended (drop (length text) (text ++ line)) ≡ text ++ text_of (line_of origin line ∷ [])
one_line text line origin = rw (front_of text line, behind_front text line) (ap (λ (last : List ℕ). text ++ last) (sym (append-nil (ended line))))

-- ---- a text that is made of lines has these lines

-- no byte is a newline
abbrev pub IsOneLine : List ℕ → Type 0
IsOneLine line = All (λ (byte : ℕ). is_newline byte ≡ false) line

record NotEmpty (parts : List (List ℕ)) : Type 0 where
  first : List ℕ
  others : List (List ℕ)
  is : parts ≡ first ∷ others

some_part : (text : List ℕ) → NotEmpty (slice_split is_newline text)
some_part [] = record { first = []; others = []; is = refl }
some_part (byte ∷ text) = step (is_newline byte) refl (some_part text)
  where
    step : (ends : Bool) → is_newline byte ≡ ends → NotEmpty (slice_split is_newline text) → NotEmpty (slice_split is_newline (byte ∷ text))
    step true e parts = record { first = []; others = slice_split is_newline text; is = rw e refl }
    step false e parts = record { first = byte ∷ parts.first; others = parts.others; is = rw (e, parts.is) refl }

split_first : (line rest : List ℕ) → IsOneLine line → slice_split is_newline (line ++ 10 ∷ rest) ≡ line ∷ slice_split is_newline rest
split_first [] rest h = refl
split_first (byte ∷ line) rest h =
    let no : is_newline byte ≡ false = All-head (λ (byte : ℕ). is_newline byte ≡ false) byte line h in
    rw (no, split_first line rest (All-tail (λ (byte : ℕ). is_newline byte ≡ false) byte line h)) refl

front_first : (line : List ℕ) (parts : List (List ℕ)) → NotEmpty parts → lines_of_parts (line ∷ parts) ≡ strip_carriage_return line ∷ lines_of_parts parts
front_first line parts some = rw some.is refl

-- a part before a newline is the first line, but for one CR
part_first : (line rest : List ℕ) → IsOneLine line → job_lines (line ++ 10 ∷ rest) ≡ strip_carriage_return line ∷ job_lines rest
part_first line rest h =
    ap lines_of_parts (split_first line rest h) ∙ front_first line (slice_split is_newline rest) (some_part rest)

return_stripped : (line : List ℕ) → strip_carriage_return (line ++ 13 ∷ []) ≡ line
return_stripped line =
    let last : length (line ++ 13 ∷ []) - 1 ≡ length line = omega (arith, length-append line (13 ∷ [])) in
    rw (last, get_or-append_seam line 13 [] 0) (front_of line (13 ∷ []))

pub ended_first : (line rest : List ℕ) → IsOneLine line → job_lines (ended line ++ rest) ≡ line ∷ job_lines rest
ended_first line rest h = step (get_or line (length line - 1) 0 == 13) refl
  where
    step : (ends : Bool) → (get_or line (length line - 1) 0 == 13) ≡ ends → job_lines (ended line ++ rest) ≡ line ∷ job_lines rest
    step true e =
        let one = All-append (λ (byte : ℕ). is_newline byte ≡ false) line (13 ∷ []) h
        (All-cons (λ (byte : ℕ). is_newline byte ≡ false) 13 [] refl (All-nil (λ (byte : ℕ). is_newline byte ≡ false))) in
        let whole : (line ++ 13 ∷ 10 ∷ []) ++ rest ≡ (line ++ 13 ∷ []) ++ 10 ∷ rest = simp append_assoc in
        rw (e, whole, part_first (line ++ 13 ∷ []) rest one, return_stripped line) refl
    step false e =
        let whole : (line ++ 10 ∷ []) ++ rest ≡ line ++ 10 ∷ rest = append_assoc line (10 ∷ []) rest in
        let plain : strip_carriage_return line ≡ line = rw e refl in
        rw e (ap job_lines whole ∙ part_first line rest h ∙ ap (λ (first : List ℕ). first ∷ job_lines rest) plain)

pub lines_of_text : (lines : List PlainLine) → AllByRecursion (λ (line : PlainLine). IsOneLine line.bytes) lines
    → job_lines (text_of lines) ≡ map (λ (line : PlainLine). line.bytes) lines
lines_of_text [] h = refl
lines_of_text (line ∷ lines) h =
    ended_first line.bytes (text_of lines) h.0 ∙ ap (λ (others : List (List ℕ)). line.bytes ∷ others) (lines_of_text lines h.1)
