-- A text that is made of printable lines has these lines.
use Rattle.std.proofs.Common.{◌≡◌, ℕ, zero, suc, ◌-◌, ◌==◌, Bool, true, false, List, [], ◌∷◌, ◌++◌, length, get_or, refl, ◌∙◌, ap, append_assoc, arith}
use Rattle.std.specs.List.{list_all, flat_map, slice_split}
use Rattle.std.specs.Char.{is_newline}
use Rattle.std.specs.Str.Lines.{strip_carriage_return, lines_of_parts}
use Rattle.std.proofs.lemmas.Bool.{and_parts}
use Rattle.adp_model.specs.Printable.{is_printable_byte}
use Rattle.adp_model.specs.Report.{line}
use Rattle.job_texts.specs.JobLines.{job_lines}

record NotEmpty (parts : List (List ℕ)) : Type 0 where
  first : List ℕ
  others : List (List ℕ)
  is : parts ≡ first ∷ others

some_part : (text : List ℕ) → NotEmpty (slice_split is_newline text)
some_part [] = record { first = []; others = []; is = refl }
some_part (byte ∷ text) = step (is_newline byte) refl (some_part text)
  where
    step : (ends : Bool) → is_newline byte ≡ ends → NotEmpty (slice_split is_newline text) → NotEmpty (slice_split is_newline (byte ∷ text))
    step true e parts = record { first = []; others = slice_split is_newline text; is = rw e refl }
    step false e parts = record { first = byte ∷ parts.first; others = parts.others; is = rw (e, parts.is) refl }

printable_no_newline : (byte : ℕ) → is_printable_byte byte ≡ true → (byte == 10) ≡ false
printable_no_newline byte h = grind (arith, h)

printable_no_return : (byte : ℕ) → is_printable_byte byte ≡ true → (byte == 13) ≡ false
printable_no_return byte h = grind (arith, h)

split_first : (content rest : List ℕ) → list_all is_printable_byte content ≡ true → slice_split is_newline (content ++ 10 ∷ rest) ≡ content ∷ slice_split is_newline rest
split_first [] rest h = refl
split_first (byte ∷ content) rest h =
    let parts = and_parts (is_printable_byte byte) (list_all is_printable_byte content) h in
    rw (printable_no_newline byte parts.0, split_first content rest parts.1) refl

no_return : (content : List ℕ) (i : ℕ) → list_all is_printable_byte content ≡ true → (get_or content i 0 == 13) ≡ false
no_return [] i h = refl
no_return (byte ∷ content) zero h = printable_no_return byte (and_parts (is_printable_byte byte) (list_all is_printable_byte content) h).0
no_return (byte ∷ content) (suc i) h = no_return content i (and_parts (is_printable_byte byte) (list_all is_printable_byte content) h).1

nothing_stripped : (content : List ℕ) → list_all is_printable_byte content ≡ true → strip_carriage_return content ≡ content
nothing_stripped content h = rw (no_return content (length content - 1) h) refl

front_first : (content : List ℕ) (parts : List (List ℕ)) → NotEmpty parts → lines_of_parts (content ∷ parts) ≡ strip_carriage_return content ∷ lines_of_parts parts
front_first content parts some = rw some.is refl

-- the lines of printable contents, each with its end
pub lines_of_contents : (contents : List (List ℕ)) → list_all (list_all is_printable_byte) contents ≡ true → job_lines (flat_map line contents) ≡ contents
lines_of_contents [] h = refl
lines_of_contents (content ∷ contents) h =
    let parts = and_parts (list_all is_printable_byte content) (list_all (list_all is_printable_byte) contents) h in
    let text = flat_map line contents in
    ap job_lines (append_assoc content (10 ∷ []) text)
    ∙ ap lines_of_parts (split_first content text parts.0)
    ∙ front_first content (slice_split is_newline text) (some_part text)
    ∙ ap (λ (first : List ℕ). first ∷ lines_of_parts (slice_split is_newline text)) (nothing_stripped content parts.0)
    ∙ ap (λ (others : List (List ℕ)). content ∷ others) (lines_of_contents contents parts.1)
