-- The number of the `words` line, by the header.
use Rattle.std.proofs.Common.{◌≡◌, ℕ, suc, ◌+◌, ◌-◌, Bool, true, false, cond, Option, Some, None, List, [], ◌∷◌, length, map, drop, refl, sym, ◌∙◌, ap, arith}
use Rattle.std.specs.List.{list_any, position}
use Rattle.std.specs.Option.{option_map}
use Rattle.std.specs.Borrow.{Bor}
use Rattle.job_texts.specs.JobLines.{job_lines, is_words_line, up_to_words_line, version_of, words_line_of, words_of}
use Rattle.job_texts.specs.DeclaredNames.{text_lines}
use Rattle.grammar_text.specs.Seen.{words_seen}
use Rattle.job_texts.specs.Declarations as forms
use Rattle.grammar_text.specs.declared.reader.collected.LineSort.{LineSort}
use Rattle.grammar_text.specs.declared.reader.collected.LineSort.TheVariants.{Skipped, Unprintable, Unclosed, Shapeless, Says}
use Rattle.grammar_text.specs.Collecting.{is_last, says_in, woven}
use Rattle.grammar_text.specs.Gathering.{is_words_declaration, words_line_in}
use Rattle.grammar_text.proofs.Firsts.{first_yes, first_no}
use Rattle.grammar_text.proofs.WordsLines.{last_is_words}

-- the `words` line is among the lines just where it is among what they say
pub words_among : (sorts : List LineSort) (declared : List forms.Declaration) → says_in sorts ≡ length declared → list_any is_last (woven sorts declared) ≡ list_any is_words_declaration declared
words_among [] [] e = refl
words_among [] (d ∷ declared) e = absurd (omega arith)
words_among (Says ∷ sorts) [] e = absurd (omega arith)
words_among (Says ∷ sorts) (d ∷ declared) e = step d (words_among sorts declared (omega arith))
  where
    step : (d : forms.Declaration) → list_any is_last (woven sorts declared) ≡ list_any is_words_declaration declared
        → list_any is_last (woven (Says ∷ sorts) (d ∷ declared)) ≡ list_any is_words_declaration (d ∷ declared)
    step forms.Words h = refl
    step d h = h
words_among (Skipped ∷ sorts) declared e = words_among sorts declared e
words_among (Unprintable ∷ sorts) declared e = words_among sorts declared e
words_among (Unclosed ∷ sorts) declared e = words_among sorts declared e
words_among (Shapeless ∷ sorts) declared e = words_among sorts declared e

-- the place of the `words` line, by the lines up to it
abbrev last_place : List forms.HeaderLine → Option ℕ
last_place header = cond (list_any is_last header) (Some (length header - 1)) None

last_place_more : (line : forms.HeaderLine) (header : List forms.HeaderLine) → is_last line ≡ false → last_place (line ∷ header) ≡ option_map (λ place. suc place) (last_place header)
last_place_more line [] other = rw other refl
last_place_more line (first ∷ header) other = step (list_any is_last (first ∷ header)) refl
  where
    step : (any : Bool) → list_any is_last (first ∷ header) ≡ any → last_place (line ∷ first ∷ header) ≡ option_map (λ place. suc place) (last_place (first ∷ header))
    step true e =
        let place : (length (line ∷ first ∷ header) - 1) ≡ suc (length (first ∷ header) - 1) = omega arith in
        rw (other, e) (ap (λ (p : ℕ). Some p) place)
    step false e = rw (other, e) refl

module _ (version : ℕ) where
  words_place : (lines : List (List ℕ)) → position is_words_line lines ≡ last_place (map (forms.header_line version) (up_to_words_line lines))
  words_place [] = refl
  words_place (line ∷ lines) = step (is_words_line line) refl (words_place lines)
    where
      step : (is : Bool) → is_words_line line ≡ is → position is_words_line lines ≡ last_place (map (forms.header_line version) (up_to_words_line lines))
          → position is_words_line (line ∷ lines) ≡ last_place (map (forms.header_line version) (up_to_words_line (line ∷ lines)))
      step true e others =
          let last : is_last ((forms.header_line version) line) ≡ true = last_is_words version line ∙ e in
          let lines_are : map (forms.header_line version) (up_to_words_line (line ∷ lines)) ≡ (forms.header_line version) line ∷ [] = rw e refl in
          let one : last_place ((forms.header_line version) line ∷ []) ≡ Some 0 = rw last refl in
          first_yes is_words_line line lines e ∙ sym (ap last_place lines_are ∙ one)
      step false e others =
          let last : is_last ((forms.header_line version) line) ≡ false = last_is_words version line ∙ e in
          let lines_are : map (forms.header_line version) (up_to_words_line (line ∷ lines)) ≡ (forms.header_line version) line ∷ map (forms.header_line version) (up_to_words_line lines) = rw e refl in
          first_no is_words_line line lines e ∙ ap (option_map (λ place. suc place)) others
          ∙ sym (last_place_more ((forms.header_line version) line) (map (forms.header_line version) (up_to_words_line lines)) last)
          ∙ ap last_place (sym lines_are)

last_number : (header : List forms.HeaderLine) → words_line_in (forms.Skipped ∷ header) ≡ option_map (λ place. place + 2) (last_place header)
last_number [] = refl
last_number (first ∷ header) = step (list_any is_last (first ∷ header)) refl
  where
    step : (any : Bool) → list_any is_last (first ∷ header) ≡ any → words_line_in (forms.Skipped ∷ first ∷ header) ≡ option_map (λ place. place + 2) (last_place (first ∷ header))
    step true e =
        let number : length (forms.Skipped ∷ first ∷ header) ≡ (length (first ∷ header) - 1) + 2 = omega arith in
        rw e (ap (λ (p : ℕ). Some p) number)
    step false e = rw e refl

-- the number of the `words` line is that of the last line of its header
pub words_line_is : (version : ℕ) (lines : List (List ℕ)) → words_line_in (forms.Skipped ∷ map (forms.header_line version) (up_to_words_line (drop 1 lines))) ≡ words_line_of lines
words_line_is version lines = last_number (map (forms.header_line version) (up_to_words_line (drop 1 lines))) ∙ ap (option_map (λ place. place + 2)) (sym (words_place version (drop 1 lines)))

pub words_behind_first : (lines : List (Bor (List ℕ))) → words_seen (drop 1 lines) ≡ drop 1 (words_seen lines)
words_behind_first [] = refl
words_behind_first (line ∷ lines) = refl

-- what is gathered is the text
pub text_is : (text : List ℕ) (version : ℕ) (lines others : List (List ℕ)) (header : List forms.HeaderLine) (words_line : Option ℕ) → lines ≡ job_lines text → version ≡ version_of lines → others ≡ drop 1 lines
    → header ≡ forms.Skipped ∷ map (forms.header_line version) (up_to_words_line others) → words_line ≡ words_line_in header
    → record { version = version; lines = lines; header = header; words_line = words_line; words = words_of lines } ≡ text_lines text
text_is text version lines others header words_line l v o h w =
    let header_is : header ≡ forms.Skipped ∷ map (forms.header_line version) (up_to_words_line (drop 1 lines)) = h ∙ ap (λ (these : List (List ℕ)). forms.Skipped ∷ map (forms.header_line version) (up_to_words_line these)) o in
    let number : words_line ≡ words_line_of lines = w ∙ ap words_line_in header_is ∙ words_line_is version lines in
    rw (number, header_is, v, l) refl
