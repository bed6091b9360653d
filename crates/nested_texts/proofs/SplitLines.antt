-- The first line of a text, and the lines behind it.
use Rattle.std.proofs.Common.{◌≡◌, ℕ, suc, ◌+◌, ◌<◌, ◌-◌, ◌==◌, List, length-drop, [], ◌∷◌, Bool, true, false, not, Option, Some, None, unwrap_or, length, take, drop, get_or, ◌≢◌, drop_of_length-le, refl, ap, sym, ◌∙◌, arith}
use Rattle.std.specs.List.{slice_split, position_or_len}
use Rattle.std.specs.Char.{is_newline}
use Rattle.std.specs.Str.Lines.{strip_carriage_return, lines_of_parts}
use Rattle.std.proofs.lemmas.List.Splits.{slice_split_first}
use Rattle.std.proofs.lemmas.List.Sums.{prefix_len-le-length, position_or_len_is}
use Rattle.std.proofs.Math.Seq.{take-length}
use Rattle.std.proofs.lemmas.Bool.{false_from_ne_true}
use Rattle.std.proofs.lemmas.Bool.Decides.{nat_tests}
use Rattle.std.proofs.Math.Dec.{eqb-suc-zero}
use Rattle.memchr.specs.Find.{IsFirstByte, is_byte}
use Rattle.job_texts.specs.JobLines.{job_lines}

front_first : (line : List ℕ) (rest : List (List ℕ)) (first : List ℕ) (others : List (List ℕ)) → rest ≡ first ∷ others → lines_of_parts (line ∷ rest) ≡ strip_carriage_return line ∷ lines_of_parts rest
front_first line rest first others is = rw is refl

record NotEmpty (rest : List (List ℕ)) : Type 0 where
  first : List ℕ
  others : List (List ℕ)
  is : rest ≡ first ∷ others

some_part : (text : List ℕ) → NotEmpty (slice_split is_newline text)
some_part [] = record { first = []; others = []; is = refl }
some_part (byte ∷ text) = step (is_newline byte) refl (some_part text)
  where
    step : (ends : Bool) → is_newline byte ≡ ends → NotEmpty (slice_split is_newline text) → NotEmpty (slice_split is_newline (byte ∷ text))
    step true e rest = record { first = []; others = slice_split is_newline text; is = rw e refl }
    step false e rest = record { first = byte ∷ rest.first; others = rest.others; is = rw (e, rest.is) refl }

pub first_of_more : (text : List ℕ) → position_or_len is_newline text < length text
    → job_lines text ≡ strip_carriage_return (take (position_or_len is_newline text) text) ∷ job_lines (drop (position_or_len is_newline text + 1) text)
first_of_more text h =
    let rest = some_part (drop (position_or_len is_newline text + 1) text) in
    ap lines_of_parts (slice_split_first is_newline text 0 h)
    ∙ front_first (take (position_or_len is_newline text) text) _ rest.first rest.others rest.is

no_split : (text : List ℕ) → position_or_len is_newline text ≡ length text → slice_split is_newline text ≡ text ∷ []
no_split [] h = refl
no_split (byte ∷ text) h = step (is_newline byte) refl (no_split text)
  where
    step : (ends : Bool) → is_newline byte ≡ ends
        → (position_or_len is_newline text ≡ length text → slice_split is_newline text ≡ text ∷ [])
        → slice_split is_newline (byte ∷ text) ≡ (byte ∷ text) ∷ []
    step true e inner = absurd (omega (arith, rw e at h))
    step false e inner =
        let same : position_or_len is_newline text ≡ length text = omega (arith, rw e at h) in
        rw (e, inner same) refl

one_part : (line : List ℕ) → (length line == 0) ≡ false → lines_of_parts (line ∷ []) ≡ line ∷ []
one_part line h = rw h refl

some_bytes : (n : ℕ) → (suc n == 0) ≡ false
some_bytes n = eqb-suc-zero n

pub first_of_one : (text : List ℕ) → 0 < length text → position_or_len is_newline text ≡ length text → job_lines text ≡ text ∷ []
first_of_one [] h end = absurd (omega arith)
first_of_one (byte ∷ text) h end = ap lines_of_parts (no_split (byte ∷ text) end) ∙ one_part (byte ∷ text) (some_bytes (length text))

-- the place of the first newline, or the length
pub found_end : (text : List ℕ) (found : Option ℕ) → IsFirstByte (is_byte 10) text found
    → unwrap_or found (length text) ≡ position_or_len is_newline text
found_end text None none =
    sym (position_or_len_is is_newline text (length text) 0 (omega arith)
    (λ place below. false_from_ne_true (is_newline (get_or text place 0)) (none place (omega arith) below))
    (λ within. absurd (omega (arith, within))))
found_end text (Some place) (first, ends) =
    sym (position_or_len_is is_newline text place 0 (omega (arith, first.high))
    (λ other below. false_from_ne_true (is_newline (get_or text other 0)) (first.before other (omega arith) below))
    (λ _. ends))

-- a text that is one line
pub whole_line : (text : List ℕ) (end : ℕ) → false ≡ (length text == 0) → end ≡ position_or_len is_newline text → end ≡ length text
    → job_lines text ≡ text ∷ job_lines (drop end text)
whole_line text end some is all =
    let filled : 0 < length text = grind (arith, nat_tests) in
    let none : drop end text ≡ [] = rw all (drop_of_length-le text (omega arith)) in
    rw none (first_of_one text filled (sym is ∙ all))

pub front_line : (text line : List ℕ) (end : ℕ) → end ≡ position_or_len is_newline text → end ≢ length text
    → line ≡ strip_carriage_return (take end text)
    → job_lines text ≡ line ∷ job_lines (drop (end + 1) text)
front_line text line end is more is_line =
    let within = prefix_len-le-length (λ (byte : ℕ). not (is_newline byte)) text in
    let inside : position_or_len is_newline text < length text = omega arith in
    rw (is_line, is) (first_of_more text inside)

-- the rest of a list from a place on, cut off at its end
pub rest_of : {X : Type 0} (list : List X) (place : ℕ) → take (length list - place) (drop place list) ≡ drop place list
rest_of list place = rw (← length-drop place list) (take-length (drop place list))
